-- Parts of a history.
use Rattle.std.specs.Prelude.{ℕ, ◌≤◌, List, length}
use Rattle.event_records.specs.declared.event.Event.{Event}
use Rattle.event_records.specs.declared.limits.TheConstants.{MAX_EVENTS}
use Rattle.history_merge.specs.Initial.{HistoryView, IsCompleteFrom}
use Rattle.history_merge.specs.Legal.{ArePlacesOf}
use Rattle.history_merge.specs.Operations.{operations_of}

-- these events are a complete history with these initial values, whose operations are at these places of the whole
pub record IsPartAt (whole : HistoryView) (initial places : List ℕ) (events : List Event) : Type 0 where
  pub complete : IsCompleteFrom initial events
  pub few : length events ≤ MAX_EVENTS
  pub stand_there : ArePlacesOf (operations_of whole.events) places (operations_of events)
