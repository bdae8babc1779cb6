-- Histories whose calls may be pending, and their completions (Herlihy and Wing 1990, section 2.2).
use Rattle.std.specs.Prelude.{◌≡◌, ℕ, ◌<◌, ◌≤◌, ◌++◌, Bool, true, false, not, IsTrue, List, [], ◌∷◌, All, Contains}
use Rattle.std.specs.Prelude.{filter, Some, ⊤}
use Rattle.event_records.specs.declared.event.Event.{Event}
use Rattle.event_records.specs.declared.limits.TheConstants.{MAX_THREAD, MAX_TICKET}
use Rattle.event_records.specs.Projection.{projection}
use Rattle.event_records.specs.Turns.{TicketsRise, answers, is_call}
use Rattle.history_merge.specs.Complete.{AreDistinct, called_values}
use Rattle.history_merge.specs.Faults.{pending_call}
use Rattle.history_merge.specs.Initial.{IsCompleteFrom}
use Rattle.history_merge.specs.Legal.{IsLinearizable}
use Rattle.history_merge.specs.Operations.{operations_of}

-- a call, a return of its kind, and so on, up to a return or to a call that is pending
abbrev pub TakesTurnsSoFar : List Event → Type 0
TakesTurnsSoFar [] = ⊤
TakesTurnsSoFar (call ∷ []) = IsTrue (is_call call.what)
TakesTurnsSoFar (call ∷ answer ∷ rest) = IsTrue (answers call.what answer.what) × TakesTurnsSoFar rest

-- a history of distinct values from these initial ones, like a complete one, except that the last call of a thread
-- may be pending
pub record IsHistoryFrom (initial : List ℕ) (events : List Event) : Type 0 where
  pub tickets_rise : TicketsRise events
  pub tickets_in_range : All (λ e. e.ticket ≤ MAX_TICKET) events
  pub threads_in_range : All (λ e. e.thread ≤ MAX_THREAD) events
  pub threads_take_turns : (thread : ℕ) → TakesTurnsSoFar (projection thread events)
  pub values_are_distinct : AreDistinct (initial ++ called_values events)

-- the event is a pending call: the last event of its thread, and a call
abbrev pub IsPendingCall : List Event → Event → Type 0
IsPendingCall events e = pending_call e.thread events ≡ Some e

-- a completion: some pending calls are removed, and each other one has a return after the last event, with any answer
-- of its kind
pub record IsCompletion (initial : List ℕ) (events full : List Event) : Type 0 where
  pub leaves_out : Event → Bool
  pub returns : List Event
  pub only_pending : (e : Event) → Contains events e → leaves_out e ≡ true → IsPendingCall events e
  pub only_returns : All (λ r. is_call r.what ≡ false) returns
  pub after_last : (e r : Event) → Contains events e → Contains returns r → e.ticket < r.ticket
  pub is : full ≡ filter (λ e. not (leaves_out e)) events ++ returns
  pub is_complete : IsCompleteFrom initial full

-- some completion has a linearization from these initial values
abbrev pub CompletesLinearizably : List ℕ → List Event → Type 0
CompletesLinearizably initial events = (full : List Event) × IsCompletion initial events full
    × IsLinearizable initial (operations_of full)

-- this completion decides: it has a linearization if and only if some completion has one
pub record IsDeciding (initial : List ℕ) (events full : List Event) : Type 0 where
  pub completion : IsCompletion initial events full
  pub decides : CompletesLinearizably initial events → IsLinearizable initial (operations_of full)
