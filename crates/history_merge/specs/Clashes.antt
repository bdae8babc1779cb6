-- Events and values that contradict each other.
use Rattle.std.specs.Prelude.{◌≡◌, ◌≢◌, ℕ, suc, ◌<◌, ◌≤◌, List, Option, None, Some, slice_get, take}
use Rattle.event_records.specs.declared.event.Event.{Event}
use Rattle.history_merge.specs.declared.clash.Clash.{Clash}
use Rattle.history_merge.specs.declared.clash.Clash.TheVariants as clash
use Rattle.history_merge.specs.declared.clash.Placed.{Placed}
use Rattle.history_merge.specs.declared.fault.HistoryFault.{HistoryFault}
use Rattle.history_merge.specs.declared.fault.HistoryFault.TheVariants.{TicketOrder, CallWhilePending, WrongReturn}
use Rattle.history_merge.specs.declared.fault.HistoryFault.TheVariants.{DuplicateValue, Pending, InitialTwice}
use Rattle.history_merge.specs.Complete.{called_value}
use Rattle.history_merge.specs.Faults.{pending_call}
use Rattle.history_merge.specs.Operations.{kind_of}

-- the event is at its place
abbrev pub Stands : List Event → Placed → Type 0
Stands events x = slice_get events x.place ≡ Some x.event

-- both events call to enqueue one value, and no event before the first does
pub record AreFirstWith (events : List Event) (x y : Placed) : Type 0 where
  pub value : ℕ
  pub first : called_value x.event.what ≡ Some value
  pub again : called_value y.event.what ≡ Some value
  pub none_before : (i : ℕ) (e : Event) → i < x.place → slice_get events i ≡ Some e → called_value e.what ≢ Some value

-- the event calls to enqueue the initial value at this place
pub record EnqueuesInitial (initial : List ℕ) (place : ℕ) (x : Placed) : Type 0 where
  pub value : ℕ
  pub enqueued : called_value x.event.what ≡ Some value
  pub initial_value : slice_get initial place ≡ Some value

-- the initial values at these two places equal this value
pub record AreEqualInitial (initial : List ℕ) (value i j : ℕ) : Type 0 where
  pub earlier : i < j
  pub first : slice_get initial i ≡ Some value
  pub again : slice_get initial j ≡ Some value

-- two events or initial values contradict each other: the ticket of an event isn't above that of the event before; a
-- call comes while a call of its thread is pending; a return is of another kind than its call; two calls have one
-- value; a call has an initial value; two initial values are equal; or one event, a call, never returns
abbrev pub IsClash : List ℕ → List Event → Clash → Type 0
IsClash initial events (clash.Tickets x y) = Stands events x × Stands events y × (suc x.place ≡ y.place)
    × (y.event.ticket ≤ x.event.ticket)
IsClash initial events (clash.Calls x y) = Stands events x × Stands events y
    × (pending_call y.event.thread (take y.place events) ≡ Some x.event)
IsClash initial events (clash.Return x y) = Stands events x × Stands events y
    × (pending_call y.event.thread (take y.place events) ≡ Some x.event) × (kind_of x.event.what y.event.what ≡ None)
IsClash initial events (clash.Values x y) = Stands events x × Stands events y × AreFirstWith events x y
IsClash initial events (clash.Initial place x) = Stands events x × EnqueuesInitial initial place x
IsClash initial events (clash.Twice value i j) = AreEqualInitial initial value i j
IsClash initial events (clash.Pending x) = Stands events x × (pending_call x.event.thread events ≡ Some x.event)

-- the fault that a contradiction explains
abbrev pub fault_of : Clash → HistoryFault
fault_of (clash.Tickets x y) = TicketOrder y.place
fault_of (clash.Calls x y) = CallWhilePending y.place
fault_of (clash.Return x y) = WrongReturn y.place
fault_of (clash.Values x y) = DuplicateValue y.place
fault_of (clash.Initial place x) = DuplicateValue x.place
fault_of (clash.Twice value i j) = InitialTwice j
fault_of (clash.Pending x) = Pending x.event.ticket

-- these contradict each other, and explain the fault that is kept
abbrev pub Explains : List ℕ → List Event → Option HistoryFault → Clash → Type 0
Explains initial events kept clash = IsClash initial events clash × (kept ≡ Some (fault_of clash))
