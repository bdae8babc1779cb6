-- The history of the operations of a `YES`, as `draw` shows it.
use Rattle.std.specs.Prelude.{◌≡◌, ℕ, Bool, false, not, List, [], ◌∷◌, filter, filter_map, flat_map, nat_eq, Option}
use Rattle.std.specs.Prelude.{Some, None}
use Rattle.std.specs.Prelude.{IsPermutation}
use Rattle.std.specs.List.{list_any}
use Rattle.event_records.specs.declared.event.Event.{Event}
use Rattle.history_merge.specs.Events.{call_event, return_event}
use Rattle.history_merge.specs.Initial.{HistoryView, IsCompleteFrom}
use Rattle.history_merge.specs.declared.operation.Operation.{Operation}
use Rattle.history_merge.specs.declared.operation.OpKind.{OpKind}
use Rattle.history_merge.specs.declared.operation.OpKind.TheVariants.{Enqueue, Dequeue, DequeueEmpty, EnqueueFailed}

-- an operation of this kind enqueues this value
abbrev pub enqueues : ℕ → OpKind → Bool
enqueues v (Enqueue w) = nat_eq w v
enqueues v (EnqueueFailed w) = false
enqueues v (Dequeue w) = false
enqueues v DequeueEmpty = false

-- the value that an operation of this kind dequeues
abbrev pub dequeued_value : OpKind → Option ℕ
dequeued_value (Dequeue v) = Some v
dequeued_value (Enqueue v) = None
dequeued_value (EnqueueFailed v) = None
dequeued_value DequeueEmpty = None

-- one of the operations enqueues this value
abbrev pub is_enqueued : List Operation → ℕ → Bool
is_enqueued operations v = list_any (λ o. enqueues v o.kind) operations

-- the values that the operations dequeue, in their order, and none of them enqueues: those that the queue held at
-- first
abbrev pub values_before : List Operation → List ℕ
values_before operations =
    filter (λ v. not (is_enqueued operations v)) (filter_map (λ o. dequeued_value o.kind) operations)

-- the call and the return of each operation
abbrev pub events_of_operations : List Operation → List Event
events_of_operations operations = flat_map (λ o. call_event o ∷ return_event o ∷ []) operations

-- a complete history of just these operations, of a queue that held the values at first that they dequeue and do not
-- enqueue
pub record IsHistoryOfOperations (operations : List Operation) (history : HistoryView) : Type 0 where
  pub initial : history.initial ≡ values_before operations
  pub events : IsPermutation (events_of_operations operations) history.events
  pub complete : IsCompleteFrom history.initial history.events
