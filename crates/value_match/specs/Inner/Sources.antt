-- The call that enqueued the value of each dequeue, and the dequeue of each call.
use Rattle.std.specs.Prelude.{◌≡◌, ℕ, ◌+◌, ◌<◌, List, length, slice_get, slice_index_or, Option, Some, None, Contains}
use Rattle.std.specs.Option.{option_map_or}
use Rattle.history_merge.specs.declared.operation.Operation.{Operation}
use Rattle.history_merge.specs.declared.operation.OpKind.{OpKind}
use Rattle.history_merge.specs.declared.operation.OpKind.TheVariants.{Enqueue, Dequeue}
use Rattle.history_merge.specs.Operations.{IsAt, NoneDid, enqueued_value}
use Rattle.value_match.specs.Inner.Courses.{on}
use Rattle.value_match.specs.Lives.{IsMaybeAt}
use Rattle.value_match.specs.Violations.{IsFreshViolation}
use Rattle.value_match.specs.declared.sources.Sources.{Sources}

-- the place is that of an operation that called to enqueue this value, or none if none did
abbrev pub IsCallPlace : List Operation → ℕ → Option ℕ → Type 0
IsCallPlace operations v None = (o : Operation) → Contains operations o → ¬ (enqueued_value o.kind ≡ Some v)
IsCallPlace operations v (Some place) = (o : Operation) × IsAt operations place o × (enqueued_value o.kind ≡ Some v)

-- the place is that of the call for the value of a dequeue; other operations have none
abbrev pub IsSourceOf : List Operation → OpKind → Option ℕ → Type 0
IsSourceOf operations (Dequeue v) source = IsCallPlace operations v source
IsSourceOf operations _ source = source ≡ None

-- the places are the sources of the operations from one place on, one by one
pub record HoldsSources (operations : List Operation) (from : ℕ) (sources : List (Option ℕ)) : Type 0 where
  pub one_each : from + length sources ≡ length operations
  pub each : (i : ℕ) (o : Operation) → IsAt operations (from + i) o
      → IsSourceOf operations o.kind (slice_index_or sources i None)

-- the operation is a phantom dequeue; the call for its value, if there is one, is at this place
abbrev pub IsFreshFrom : List Operation → Option ℕ → Operation → Type 0
IsFreshFrom operations source deq = (enq : Option Operation) × IsMaybeAt operations source enq
    × IsFreshViolation (on operations) deq enq

-- none of the first n operations is a phantom dequeue
abbrev pub NoneFresh : List Operation → ℕ → Type 0
NoneFresh operations n = (k : ℕ) (o : Operation) → k < n → IsAt operations k o → (enq : Option Operation)
    → ¬ (IsFreshViolation (on operations) o enq)

-- the operation at place i is a dequeue of the value that the one at place p called to enqueue
pub record TakesFrom (operations : List Operation) (i p : ℕ) : Type 0 where
  pub value : ℕ
  pub dequeue : Operation
  pub at : IsAt operations i dequeue
  pub dequeues : dequeue.kind ≡ Dequeue value
  pub from_call : IsCallPlace operations value (Some p)

-- at each place stands the one of the first n operations that takes from it, if there is one
pub record HasTakersTo (operations : List Operation) (n : ℕ) (takers : List (Option ℕ)) : Type 0 where
  pub one_each : length takers ≡ length operations
  pub taken : (p i : ℕ) → slice_index_or takers p None ≡ Some i → (i < n) × TakesFrom operations i p
  pub takes : (i p : ℕ) → i < n → TakesFrom operations i p → slice_index_or takers p None ≡ Some i

-- the first n operations are a matched prefix: none is a phantom dequeue, and no two take from one place
pub record IsMatchedPrefix (operations : List Operation) (n : ℕ) (takers : List (Option ℕ)) : Type 0 where
  pub in_time : NoneFresh operations n
  pub noted : HasTakersTo operations n takers

-- the matched prefix, and the sources of the operations after it
pub record AreSources (operations : List Operation) (sources : Sources) : Type 0 where
  pub prefix : IsMatchedPrefix operations sources.prefix sources.takers.items
  pub holds : HoldsSources operations sources.prefix sources.places.items

-- the return of the operation at this place
abbrev pub return_at : List Operation → ℕ → ℕ
return_at operations place = option_map_or (λ o. o.ret) (slice_get operations place) 0

-- the place is that of a dequeue of this value, or none if the value was never dequeued
abbrev pub IsDequeuePlace : List Operation → ℕ → Option ℕ → Type 0
IsDequeuePlace operations v None = NoneDid operations (Dequeue v)
IsDequeuePlace operations v (Some place) = (o : Operation) × IsAt operations place o × (o.kind ≡ Dequeue v)

-- at the place of each successful enqueue stands that of its value's dequeue, if there is one
pub record HoldsDequeues (operations : List Operation) (dequeues : List (Option ℕ)) : Type 0 where
  pub one_each : length dequeues ≡ length operations
  pub each : (i : ℕ) (o : Operation) (v : ℕ) → IsAt operations i o → o.kind ≡ Enqueue v
      → IsDequeuePlace operations v (slice_index_or dequeues i None)
