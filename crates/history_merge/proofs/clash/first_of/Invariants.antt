use Rattle.history_merge.proofs.Common.{length, MAX_EVENTS, ◌≤◌}
use Rattle.history_merge.proofs.Faults.{Searched}
use Rattle.history_merge.proofs.clash.first_of.Given as goal

abbrev pub invariant-loop-event : goal.invariant-loop-event
invariant-loop-event l = length l.fn.events ≤ MAX_EVENTS → Searched l.fn.events l.event-iterator l.sought l.place
