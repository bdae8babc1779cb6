use Rattle.std.proofs.Common.{◌-◌, ◌<◌, ◌∙◌, arith, length, subst}
use Rattle.std.proofs.lemmas.List.{get_or_default}
use Rattle.event_records.specs.declared.event.Event.{Event}
use Rattle.completions.proofs.Walks.{none_before, past_end}
use Rattle.completions.proofs.pending.first_pending.Goals as goal

pub returns-else-unpack-least-clause-before : goal.returns-else-unpack-least-clause-before
returns-else-unpack-least-clause-before c = λ initial history.
    let events = c.args.events.now in
    let some = c.loop-from-test.true in
    let inside : c.loop-from.from - 1 < length events = omega (arith, some, c.loop-from.invariant) in
    let at = c.unpack.ensures ∙ c.index-events-from.is ∙ get_or_default events (c.loop-from.from - 1) c.index-events-from.result past_end inside in
    none_before initial events c.loop-from.from c.least_pending-least.result history some c.loop-from.invariant
    (subst (λ (e : Event). e.ticket < c.least_pending-least.result) at c.if-unpack-least.false)
    (λ call thread pending. c.least_pending-least.ensures events c.requires.last call thread pending)
