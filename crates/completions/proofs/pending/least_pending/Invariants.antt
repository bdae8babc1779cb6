use Rattle.std.proofs.Common.{◌≡◌, ◌<◌, ◌≤◌, ℕ, true, get_or, Some, None}
use Rattle.event_records.specs.declared.event.Event.{Event}
use Rattle.event_records.specs.Turns.{is_call}
use Rattle.completions.proofs.pending.least_pending.Given as goal

abbrev pub invariant-loop-event : goal.invariant-loop-event
invariant-loop-event l = (thread : ℕ) (call : Event) → thread < l.event-index → get_or l.last thread None ≡ Some call
    → is_call call.what ≡ true → l.least ≤ call.ticket
