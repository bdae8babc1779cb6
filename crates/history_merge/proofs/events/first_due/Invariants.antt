use Rattle.history_merge.proofs.Common.{IsFirstDue}
use Rattle.history_merge.proofs.events.first_due.Given as goal

abbrev pub invariant-loop-event : goal.invariant-loop-event
invariant-loop-event l = IsFirstDue l.due l.event-index l.first
