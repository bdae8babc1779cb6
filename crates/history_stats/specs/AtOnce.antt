-- The maximum number at once, over the gaps of a history. Gap g comes after all tickets below g, so gap 0 comes
-- before all events.
use Rattle.std.specs.Prelude.{◌≡◌, ◌≤◌, ℕ, Bool, false, List, ◌++◌, not, ◌&&◌, nat_eq, nat_lt, count_by, Option, Some}
use Rattle.std.specs.Prelude.{None, if◌then◌else◌}
use Rattle.std.specs.List.{list_any, filter_map}
use Rattle.history_merge.specs.Initial.{HistoryView}
use Rattle.history_merge.specs.Operations.{operations_of}
use Rattle.history_merge.specs.declared.operation.Operation.{Operation}
use Rattle.history_merge.specs.declared.operation.OpKind.{OpKind}
use Rattle.history_merge.specs.declared.operation.OpKind.TheVariants.{Enqueue, Dequeue}

-- the greatest of these numbers over all gaps
pub record IsMost (number_at : ℕ → ℕ) (most : ℕ) : Type 0 where
  pub bound : (gap : ℕ) → number_at gap ≤ most
  pub gap : ℕ
  pub reached : number_at gap ≡ most

-- ---- pending operations

-- the operation is pending at the gap: it was called before, and returns after
abbrev pub is_pending_at : ℕ → Operation → Bool
is_pending_at gap o = nat_lt o.call gap && not (nat_lt o.ret gap)

-- the number of operations pending at the gap
abbrev pub pending_at : List Operation → ℕ → ℕ
pending_at operations gap = count_by (is_pending_at gap) operations

-- ---- values in the queue

-- the value that an operation of this kind enqueued
abbrev pub put_value : OpKind → Option ℕ
put_value (Enqueue v) = Some v
put_value _ = None

-- an operation of this kind is a dequeue of the value
abbrev pub gave : ℕ → OpKind → Bool
gave v (Dequeue w) = nat_eq v w
gave v _ = false

-- the value that the operation enqueued, if it returned before the gap
abbrev pub value_put_before : ℕ → Operation → Option ℕ
value_put_before gap o = if nat_lt o.ret gap then put_value o.kind else None

-- the values whose enqueues returned before the gap
abbrev pub values_put_before : ℕ → List Operation → List ℕ
values_put_before gap operations = filter_map (value_put_before gap) operations

-- a dequeue of the value was called before the gap
abbrev pub is_taken_before : ℕ → List Operation → ℕ → Bool
is_taken_before gap operations v = list_any (λ o. gave v o.kind && nat_lt o.call gap) operations

-- the number of these values, each enqueued before the gap, that were definitely in the queue at it: no dequeue of
-- them was called
abbrev pub stay_count : ℕ → List Operation → List ℕ → ℕ
stay_count gap operations values = count_by (λ v. not (is_taken_before gap operations v)) values

-- the number of values that were definitely in the queue at the gap: initial ones, and those whose enqueues returned
-- before
abbrev pub queued_at : HistoryView → ℕ → ℕ
queued_at history gap =
    let operations = operations_of history.events in
    stay_count gap operations (history.initial ++ values_put_before gap operations)
