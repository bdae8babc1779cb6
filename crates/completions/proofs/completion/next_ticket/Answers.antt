use Rattle.std.proofs.Common.{◌+◌, ◌∙◌, ap, sym}
use Rattle.event_records.specs.declared.event.Event.{Event}
use Rattle.completions.proofs.Walks.{after_last_read}
use Rattle.completions.proofs.completion.next_ticket.Goals as goal

pub returns-in-Some-clause-next : goal.returns-in-Some-clause-next
returns-in-Some-clause-next c = ap (λ (e : Event). e.ticket + 1) c.unpack.ensures ∙ after_last_read c.args.events.now c.in-Some.last.now (sym c.in-Some.ensures.value)
