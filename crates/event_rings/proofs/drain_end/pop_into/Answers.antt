use Rattle.std.proofs.Common.{◌≡◌, ◌≤◌, ◌++◌, ◌+◌, length, take, ap, ◌∙◌, arith}
use Rattle.rtrb.specs.Ring.{received, known_items}
use Rattle.event_rings.proofs.Taking.{front_of, written_over}
use Rattle.event_rings.proofs.drain_end.pop_into.Goals as goal

pub returns-clause-moved : goal.returns-clause-moved
returns-clause-moved c =
    let old = c.args.events.now.items in
    let known = known_items c.args.consumer.now in
    let popped = rw c.unwrap.ensures at c.pop_entire_slice.ensures.ok in
    let long : length c.pop_entire_slice.new.slice ≡ c.args.count = grind arith in
    let few : length c.pop_entire_slice.new.slice ≤ length known = omega (arith, long, c.requires) in
    let taken : c.pop_entire_slice.new.slice ≡ take c.args.count known = front_of _ _ known _ popped.1.1 few ∙ ap (λ n. take n known) long in
    let start : c.len-start.result ≡ length old = grind arith in
    let more = c.len-start.result + c.args.count in
    written_over old _ _ _ _ _ c.len-start.result more _ (c.deref_mut.ensures.value ∙ c.in_ok-resize.ensures.items) (omega (arith, start)) start
    (omega (arith, long, c.in_ok-resize.ensures.len)) ∙ ap (λ l. old ++ l) taken

pub returns-clause-received : goal.returns-clause-received
returns-clause-received c =
    let known = known_items c.args.consumer.now in
    let popped = rw c.unwrap.ensures at c.pop_entire_slice.ensures.ok in
    let long : length c.pop_entire_slice.new.slice ≡ c.args.count = grind arith in
    let few : length c.pop_entire_slice.new.slice ≤ length known = omega (arith, long, c.requires) in
    popped.0 ∙ ap (λ l. received c.args.consumer.now ++ l) (front_of _ _ known _ popped.1.1 few ∙ ap (λ n. take n known) long)
