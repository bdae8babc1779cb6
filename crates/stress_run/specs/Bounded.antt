-- Bounded queues, in which an enqueue fails if the queue is full, and only then.
use Rattle.std.specs.Prelude.{ℕ, ◌+◌, List, [], ◌∷◌, ◌++◌, length, map, max, sum_by, nat_eq, nat_lt, Option, Some}
use Rattle.std.specs.Prelude.{None, IsSome, option_and_then}
use Rattle.std.specs.Prelude.{if◌then◌else◌}
use Rattle.event_records.specs.declared.kind.Kind.{Kind}
use Rattle.history_merge.specs.declared.operation.Operation.{Operation}
use Rattle.history_merge.specs.declared.operation.OpKind.{OpKind}
use Rattle.history_merge.specs.declared.operation.OpKind.TheVariants.{Enqueue, Dequeue, DequeueEmpty, EnqueueFailed}
use Rattle.history_merge.specs.Legal.{IsLegalOrder}
use Rattle.history_merge.specs.Queue.{accept}
use Rattle.stress_run.specs.declared.TheConstants.{RING_PLACES}
use Rattle.stress_run.specs.declared.proving.ProvedQueue.{ProvedQueue}
use Rattle.stress_run.specs.declared.proving.ProvedQueue.TheVariants.{OneLock, TwoLocks, LockFree, Ring}

-- a queue that has room for this many values, after one operation, if that is accepted
abbrev pub accept_within : ℕ → List ℕ → OpKind → Option (List ℕ)
accept_within room queue (Enqueue v) = if nat_lt (length queue) room then Some (queue ++ v ∷ []) else None
accept_within room queue (EnqueueFailed v) = if nat_eq (length queue) room then Some queue else None
accept_within room queue (Dequeue v) = accept queue (Dequeue v)
accept_within room queue DequeueEmpty = accept queue DequeueEmpty

-- the same after operations, if each is accepted in turn
abbrev pub accept_all_within : ℕ → List ℕ → List OpKind → Option (List ℕ)
accept_all_within room queue [] = Some queue
accept_all_within room queue (kind ∷ kinds) = option_and_then (λ next. accept_all_within room next kinds)
    (accept_within room queue kind)

-- some linearization is one of a queue that has room for this many values and holds these first
abbrev pub IsLinearizableWithin : ℕ → List ℕ → List Operation → Type 0
IsLinearizableWithin room initial operations =
    (order : List Operation) × IsLegalOrder initial operations order
    × IsSome (accept_all_within room initial (map (λ o. o.kind) order))

-- the number of values that a queue has room for in a run of this plan from these values, if its runs are those of a
-- bounded queue
abbrev pub room_of : ProvedQueue → List ℕ → List (List Kind) → Option ℕ
room_of Ring initial rows = Some (max RING_PLACES (length initial))
room_of TwoLocks initial rows = Some (length initial + sum_by length rows)
room_of OneLock initial rows = None
room_of LockFree initial rows = None
