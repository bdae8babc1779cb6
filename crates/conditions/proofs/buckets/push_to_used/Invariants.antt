use Rattle.std.proofs.Common.{◌≡◌, ℕ, ◌<◌, ◌≤◌, ◌++◌, ◌∷◌, [], length, get_or, true, false}
use Rattle.conditions.proofs.buckets.push_to_used.Given as goal

abbrev pub invariant-loop-rank : goal.invariant-loop-rank
invariant-loop-rank l = (length l.buckets.items ≡ length l.fn.buckets.items)
    × ((k : ℕ) → k < l.rank → get_or l.used k false ≡ true → get_or l.buckets.items k [] ≡ get_or l.fn.buckets.items k [] ++ l.place ∷ [])
    × ((k : ℕ) → l.rank ≤ k → get_or l.buckets.items k [] ≡ get_or l.fn.buckets.items k [])
