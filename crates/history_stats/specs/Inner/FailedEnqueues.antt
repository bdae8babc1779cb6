-- The number of values that there may be after each arrival, and during failed enqueues.
use Rattle.std.specs.Prelude.{◌≡◌, ℕ, ◌+◌, ◌-◌, ◌<◌, ◌&&◌, Bool, List, length, count_by, filter_map}
use Rattle.std.specs.Prelude.{nat_eq, nat_le, nat_lt, slice_index_or, take, Option, Some, None, if◌then◌else◌}
use Rattle.history_merge.specs.declared.operation.Operation.{Operation}
use Rattle.history_stats.specs.Counts.{is_failed_enqueue}
use Rattle.history_stats.specs.Inner.AtOnce.{count_before}
use Rattle.history_stats.specs.declared.failed_enqueues.Window.{Window}

-- the number present at a gap: some from the beginning, one more for each arrival, one less for each departure
abbrev pub there_at : ℕ → List ℕ → List ℕ → ℕ → ℕ
there_at first arrivals departures gap = first + count_before gap arrivals - count_before gap departures

-- for each arrival the number present just after it
pub record AreHeights (first : ℕ) (arrivals departures heights : List ℕ) : Type 0 where
  pub one_each : length heights ≡ length arrivals
  pub each : (k : ℕ) → k < length arrivals
      → slice_index_or heights k 0 ≡ first + (k + 1) - count_before (slice_index_or arrivals k 0 + 1) departures

-- the number present just after the call of an operation, and the arrivals after the call and before its return
abbrev pub window_of : ℕ → List ℕ → List ℕ → Operation → Window
window_of first arrivals departures o = record {
  start = there_at first arrivals departures (o.call + 1);
  from = count_before (o.call + 1) arrivals;
  to = count_before o.ret arrivals;
}

-- the windows of the failed enqueues
abbrev pub windows_of : ℕ → List ℕ → List ℕ → List Operation → List Window
windows_of first arrivals departures operations =
    filter_map
    (λ o. if is_failed_enqueue o.kind then Some (window_of first arrivals departures o) else None) operations

-- the number of heights above this one
abbrev pub count_above : ℕ → List ℕ → ℕ
count_above most heights = count_by (λ h. nat_lt most h) heights

-- the window never exceeds this number
abbrev pub stays_within : List ℕ → ℕ → Window → Bool
stays_within heights most w =
    nat_le w.start most && nat_eq (count_above most (take w.from heights)) (count_above most (take w.to heights))
