-- The number of values that the queue may have held during failed enqueues.
use Rattle.std.specs.Prelude.{◌≡◌, ℕ, ◌<◌, ◌≤◌, Bool, List, ◌++◌, not, ◌&&◌, nat_lt, count_by, filter_map, Contains}
use Rattle.std.specs.Prelude.{Option, None, true, if◌then◌else◌}
use Rattle.std.specs.List.{list_any}
use Rattle.history_merge.specs.Initial.{HistoryView}
use Rattle.history_merge.specs.Operations.{operations_of}
use Rattle.history_merge.specs.declared.operation.Operation.{Operation}
use Rattle.history_stats.specs.AtOnce.{gave, put_value}
use Rattle.history_stats.specs.Counts.{is_failed_enqueue}

-- the value that the operation enqueued, if it was called before the gap
abbrev pub value_called_before : ℕ → Operation → Option ℕ
value_called_before gap o = if nat_lt o.call gap then put_value o.kind else None

-- the values whose enqueues were called before the gap
abbrev pub values_called_before : ℕ → List Operation → List ℕ
values_called_before gap operations = filter_map (value_called_before gap) operations

-- a dequeue of the value returned before the gap
abbrev pub is_gone_before : ℕ → List Operation → ℕ → Bool
is_gone_before gap operations v = list_any (λ o. gave v o.kind && nat_lt o.ret gap) operations

-- the number of these values, each called for before the gap, that may have been in the queue at it: no dequeue of
-- them had returned
abbrev pub left_count : ℕ → List Operation → List ℕ → ℕ
left_count gap operations values = count_by (λ v. not (is_gone_before gap operations v)) values

-- the number of values that may have been in the queue at the gap: initial ones, and those whose enqueues were called
-- before
abbrev pub maybe_queued_at : HistoryView → ℕ → ℕ
maybe_queued_at history gap =
    let operations = operations_of history.events in
    left_count gap operations (history.initial ++ values_called_before gap operations)

-- a failed enqueue, one of the operations
abbrev pub IsFailedEnqueue : List Operation → Operation → Type 0
IsFailedEnqueue operations o = Contains operations o × (is_failed_enqueue o.kind ≡ true)

-- a gap between the call and the return of the operation
abbrev pub IsDuring : Operation → ℕ → Type 0
IsDuring o gap = (o.call < gap) × (gap ≤ o.ret)

-- the number that is printed as `refused-at`: the minimum, over the failed enqueues, of the maximum number of values
-- that may have been in the queue at a gap of the call. During one of them there were never more, and during each
-- there were as many at some gap
pub record IsRefusedAt (operations : List Operation) (number_at : ℕ → ℕ) (least : ℕ) : Type 0 where
  pub failed : Operation
  pub is_failed : IsFailedEnqueue operations failed
  pub at_most : (gap : ℕ) → IsDuring failed gap → number_at gap ≤ least
  pub at_each : (other : Operation) → IsFailedEnqueue operations other
      → (gap : ℕ) × IsDuring other gap × (least ≤ number_at gap)

-- no enqueue failed
abbrev pub NoFailedEnqueue : List Operation → Type 0
NoFailedEnqueue operations = (o : Operation) → ¬ (IsFailedEnqueue operations o)
