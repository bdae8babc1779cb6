-- A list in two parts.
use Rattle.parallel_finders.proofs.Common.{drop, List, take, take-append-drop, ℕ, ◌++◌, ◌≡◌}

-- the two parts joined are the whole
pub whole : {X : Type 0} (xs low high : List X) (n : ℕ) → low ≡ take n xs → high ≡ drop n xs → low ++ high ≡ xs
whole xs low high n is_low is_high = rw (is_low, is_high) (take-append-drop n xs)
