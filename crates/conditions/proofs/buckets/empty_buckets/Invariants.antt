use Rattle.std.proofs.Common.{◌≡◌, ℕ, ◌<◌, [], length, get_or}
use Rattle.conditions.proofs.buckets.empty_buckets.Given as goal

abbrev pub invariant-loop-rank : goal.invariant-loop-rank
invariant-loop-rank l = (length l.buckets.items ≡ l._rank) × ((k : ℕ) → k < l._rank → get_or l.buckets.items k [] ≡ [])
