-- Searching for an event.
use Rattle.std.specs.Prelude.{◌≡◌, ℕ, ◌<◌, List, Some, slice_get}
use Rattle.event_records.specs.declared.event.Event.{Event}
use Rattle.history_merge.specs.declared.clash.Placed.{Placed}
use Rattle.history_merge.specs.declared.clash.Sought.{Sought}
use Rattle.history_merge.specs.declared.clash.Sought.TheVariants.{Place, Ticket, Value, Whole}
use Rattle.history_merge.specs.Clashes.{Stands}
use Rattle.history_merge.specs.Complete.{called_value}

-- the event has the property
abbrev pub IsSought : Sought → Placed → Type 0
IsSought (Place n) x = x.place ≡ n
IsSought (Ticket ticket) x = x.event.ticket ≡ ticket
IsSought (Value v) x = called_value x.event.what ≡ Some v
IsSought (Whole e) x = x.event ≡ e

-- the event is the first with the property
pub record IsFirstSought (events : List Event) (sought : Sought) (x : Placed) : Type 0 where
  pub stands : Stands events x
  pub is_sought : IsSought sought x
  pub none_before : (i : ℕ) (e : Event) → i < x.place → slice_get events i ≡ Some e
      → ¬ (IsSought sought (record { place = i; event = e }))
