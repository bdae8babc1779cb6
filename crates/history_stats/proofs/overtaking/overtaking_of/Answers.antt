use Rattle.std.proofs.Common.{◌∙◌, ◌-◌, ◌≤◌, Some, ap, arith, length, sym}
use Rattle.std.specs.Prelude.{count_by}
use Rattle.history_stats.specs.Inner.Overtaking.{stays_at}
use Rattle.history_stats.proofs.AtOnce.{count_few}
use Rattle.history_stats.proofs.Tallied.{counted_below, counted_few, overtakes_none, overtakes_some}
use Rattle.history_stats.proofs.overtaking.overtaking_of.Goals as goal

pub overflow_sub-count : goal.overflow_sub-count
overflow_sub-count c =
    let calls = c.args.calls.now in
    counted_few (length calls) c.args.put c.count_before.result c.count_below.result c.requires.tallied.0 c.args.tally.now.levels.items
    c.requires.tallied.2 (omega (arith, c.count_before.ensures, count_few c.args.taking.ret calls)) c.requires.tallied.1 c.count_below.ensures

pub returns-then-count-eq0 : goal.returns-then-count-eq0
returns-then-count-eq0 c = λ stays are up is.
    let calls = c.args.calls.now in
    let t = c.args.taking in
    let fits : c.count_before.result ≤ length calls = omega (arith, c.count_before.ensures, count_few t.ret calls) in
    let counted = counted_below (length calls) c.args.put t.enqueue_call c.count_before.result c.count_below.result stays c.args.tally.now.levels.items fits are up
    is c.count_below.ensures ∙ ap (λ r. count_by (stays_at t.enqueue_call r) stays) c.count_before.ensures in
    overtakes_none _ t.call t.value (sym counted ∙ c.if-count-eq0.true)

pub returns : goal.returns
returns c = λ stays are up is.
    let calls = c.args.calls.now in
    let t = c.args.taking in
    let fits : c.count_before.result ≤ length calls = omega (arith, c.count_before.ensures, count_few t.ret calls) in
    let counted = counted_below (length calls) c.args.put t.enqueue_call c.count_before.result c.count_below.result stays c.args.tally.now.levels.items fits are up
    is c.count_below.ensures ∙ ap (λ r. count_by (stays_at t.enqueue_call r) stays) c.count_before.ensures in
    ap (λ n. Some (record { count = c.args.put - c.count_below.result; ticket = n; value = t.value })) c.saturating_sub.ensures
    ∙ overtakes_some _ _ t.call t.value c.if-count-eq0.false counted
