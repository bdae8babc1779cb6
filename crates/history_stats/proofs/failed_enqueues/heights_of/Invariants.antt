use Rattle.std.proofs.Common.{◌≡◌, ℕ, ◌+◌, ◌-◌, ◌<◌, get_or, length}
use Rattle.history_stats.specs.Inner.AtOnce.{count_before}
use Rattle.history_stats.proofs.failed_enqueues.heights_of.Given as goal

abbrev pub invariant-loop-place : goal.invariant-loop-place
invariant-loop-place l = record {
  one_each : length l.heights.items ≡ l.place;
  each : (k : ℕ) → k < l.place
      → get_or l.heights.items k 0 ≡ l.first + (k + 1) - count_before (get_or l.arrivals k 0 + 1) l.departures;
}
