-- A history keeps the operations of its events, which determine the events.
use Rattle.std.specs.Prelude.{◌≡◌, ℕ, ◌+◌, ◌<◌, ◌≤◌, Bool, true, false, not, nat_eq, nat_le, All, IfSome, List, []}
use Rattle.std.specs.Prelude.{◌∷◌, Option, None, Some, ⊤}
use Rattle.std.specs.Prelude.{find, length, option_and_then, slice_index_or}
use Rattle.std.specs.Bool.{then_some}
use Rattle.std.specs.Option.{option_map_or}
use Rattle.event_records.specs.declared.event.Event.{Event}
use Rattle.event_records.specs.declared.limits.TheConstants.{MAX_EVENTS, MAX_THREAD}
use Rattle.event_records.specs.Turns.{TicketsRise, answers, is_call}
use Rattle.history_merge.specs.declared.operation.Operation.{Operation}
use Rattle.history_merge.specs.Events.{events_of}
use Rattle.history_merge.specs.Forming.{operations_so_far}
use Rattle.history_merge.specs.Initial.{IsCompleteFrom}
use Rattle.history_merge.specs.Operations.{operations_of}

-- the operations are those of a complete history with these initial values, within the limits
pub record IsKept (initial : List ℕ) (operations : List Operation) : Type 0 where
  pub complete : IsCompleteFrom initial (events_of operations)
  pub formed : operations ≡ operations_of (events_of operations)
  pub few_events : length (events_of operations) ≤ MAX_EVENTS

-- ---- the events from some place on

-- the next event of the thread
abbrev pub next_of : ℕ → List Event → Option Event
next_of thread events = find (λ r. nat_eq r.thread thread) events

-- the due return of the thread, which comes before its next call, if there is one
abbrev pub due_in : ℕ → List Event → Option Event
due_in thread events = option_and_then (λ r. then_some (not (is_call r.what)) r) (next_of thread events)

-- an event may follow another in its thread: a return answers the call before it, and a call comes after a return
abbrev pub FollowsInTurn : Event → Event → Type 0
FollowsInTurn e next = (is_call e.what ≡ true → answers e.what next.what ≡ true)
    × (is_call e.what ≡ false → is_call next.what ≡ true)

-- the next event of each event's thread follows it in turn
abbrev pub AreInTurn : List Event → Type 0
AreInTurn [] = ⊤
AreInTurn (e ∷ later) = IfSome (next_of e.thread later) (FollowsInTurn e) × AreInTurn later

-- tickets rise, and threads take turns
pub record IsRun (events : List Event) : Type 0 where
  pub rise : TicketsRise events
  pub turns : AreInTurn events
  pub threads : All (λ e. e.thread ≤ MAX_THREAD) events

-- these events are left: their calls are those of the operations, and their due returns are known for each thread
pub record AreLeft (events : List Event) (by_call : List Operation) (returns : List (Option Event)) : Type 0 where
  pub run : IsRun events
  pub calls : by_call ≡ operations_so_far events
  pub one_per_thread : length returns ≡ MAX_THREAD + 1
  pub due : (thread : ℕ) → thread ≤ MAX_THREAD → slice_index_or returns thread None ≡ due_in thread events

-- the operations are those of these events, in which no return is due at first
pub record IsRunOf (events : List Event) (operations : List Operation) : Type 0 where
  pub run : IsRun events
  pub begins : (thread : ℕ) → due_in thread events ≡ None
  pub calls : operations ≡ operations_so_far events

-- the operations are those of some events
abbrev pub AreOfRun : List Operation → Type 0
AreOfRun operations = (events : List Event) × IsRunOf events operations

-- the return is the one with the least ticket of the first n, or there is none
abbrev pub IsFirstDue : List (Option Event) → ℕ → Option Event → Type 0
IsFirstDue due n None = (k : ℕ) → k < n → slice_index_or due k None ≡ None
IsFirstDue due n (Some e) =
    ((k : ℕ) × (k < n) × (slice_index_or due k None ≡ Some e))
    × ((k : ℕ) (r : Event) → k < n → slice_index_or due k None ≡ Some r → e.ticket ≤ r.ticket)

-- whether there is a return, and it comes by this ticket
abbrev pub comes_by_ticket : Option Event → ℕ → Bool
comes_by_ticket due ticket = option_map_or (λ r. nat_le r.ticket ticket) due false
