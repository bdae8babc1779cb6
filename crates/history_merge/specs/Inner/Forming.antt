-- Relations by which a history builder judges the next event.
use Rattle.std.specs.Prelude.{◌≡◌, ℕ, ◌<◌, Bool, true, false, MatchOption, List, Option, None, Some, nat_eq, ⊤}
use Rattle.std.specs.Option.{option_map_or}
use Rattle.std.specs.List.{last_or, list_any}
use Rattle.event_records.specs.declared.event.Event.{Event}
use Rattle.event_records.specs.Turns.{is_call, answers}
use Rattle.history_merge.specs.declared.operation.Operation.{Operation}
use Rattle.history_merge.specs.Events.{events_of}
use Rattle.history_merge.specs.Faults.{pending_call, IsLeastPending}
use Rattle.history_merge.specs.Gathering.{is_among}
use Rattle.history_merge.specs.Operations.{enqueued_value, operations_of}

-- the event may come next in its thread: a call if none is pending, otherwise the return of the pending one
abbrev pub FitsTurn : Option Event → Event → Type 0
FitsTurn pending e = MatchOption pending (is_call e.what ≡ true) (λ call. answers call.what e.what ≡ true)

-- the event may come after these: its ticket is above the last one, and it may come next in its thread
pub record Follows (events : List Event) (e : Event) : Type 0 where
  pub rises : MatchOption (last_or None events) ⊤ (λ last. last.ticket < e.ticket)
  pub fits : FitsTurn (pending_call e.thread events) e

-- no thread has a pending call
abbrev pub NothingPending : List Event → Type 0
NothingPending events = (thread : ℕ) → pending_call thread events ≡ None

-- the call has the least ticket of the pending calls
abbrev pub IsLeastPendingCall : List Event → Event → Type 0
IsLeastPendingCall events call = (pending_call call.thread events ≡ Some call) × IsLeastPending events call.ticket

-- the operations are those of the events, and determine them
pub record IsFormedOf (events : List Event) (operations : List Operation) : Type 0 where
  pub formed : operations ≡ operations_of events
  pub told : events_of operations ≡ events

-- whether one of the operations called to enqueue this value
abbrev pub is_called_in : List Operation → ℕ → Bool
is_called_in operations v = list_any (λ o. option_map_or (λ w. nat_eq w v) (enqueued_value o.kind) false) operations

-- these are the values that the operations called to enqueue
abbrev pub AreCalledIn : List Operation → List ℕ → Type 0
AreCalledIn operations values = (v : ℕ) → is_called_in operations v ≡ is_among values v
