-- What contracts see of a recorded run.
use Rattle.std.specs.Prelude.{ℕ, List}
use Rattle.event_records.specs.declared.event.Event.{Event}

-- the values that the queue held at first, the list of events of each thread, and the number of tickets that were
-- drawn
pub record RecordedView : Type 0 where
  pub initial : List ℕ
  pub lists : List (List Event)
  pub total : ℕ
