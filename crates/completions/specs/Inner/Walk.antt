-- The state of a walk over the events.
use Rattle.std.specs.Prelude.{◌≡◌, ℕ, ◌<◌, ◌≤◌, ◌↔◌, List, [], Option, None, length, slice_index_or, Contains}
use Rattle.std.specs.List.{last_or}
use Rattle.event_records.specs.declared.event.Event.{Event}
use Rattle.event_records.specs.declared.limits.TheConstants.{MAX_THREADS}
use Rattle.event_records.specs.Projection.{projection}
use Rattle.completions.specs.declared.walk.Walk.{Walk}
use Rattle.completions.specs.Completed.{given_values, taken_values}

-- for each thread its last event among these
abbrev pub AreLast : List Event → List (Option Event) → Type 0
AreLast events last = (length last ≡ MAX_THREADS)
    × ((thread : ℕ) → thread < MAX_THREADS → slice_index_or last thread None ≡ last_or None (projection thread events))

-- the values that dequeues gave, sorted
abbrev pub AreGiven : List Event → List ℕ → Type 0
AreGiven events given = ((v : ℕ) → Contains (given_values events) v ↔ Contains given v)
    × ((i j : ℕ) → i ≤ j → j < length given → slice_index_or given i 0 ≤ slice_index_or given j 0)

-- these events were noted, one after another
pub record HasWalked (events : List Event) (walk : Walk) : Type 0 where
  pub last : AreLast events walk.last
  pub given : walk.given.items ≡ given_values events
  pub taken : walk.taken.items ≡ taken_values [] events
