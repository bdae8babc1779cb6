use Rattle.std.proofs.Common.{◌≡◌, ℕ, ◌+◌, ◌≤◌, get_or, length, take}
use Rattle.history_stats.specs.Inner.FailedEnqueues.{count_above}
use Rattle.history_stats.proofs.failed_enqueues.count_above.Given as goal

abbrev pub invariant-loop-place : goal.invariant-loop-place
invariant-loop-place l = record {
  room : length l.above ≡ length l.heights + 1;
  counts : (k : ℕ) → k ≤ l.place → get_or l.above k 0 ≡ count_above l.most (take k l.heights);
}
