-- An optional place as one number.
use Rattle.std.specs.Prelude.{◌≡◌, ℕ, zero, suc, Option, Some, None}
use Rattle.std.proofs.Common.{refl}

-- one plus the place, or 0 for none
abbrev pub one_above : Option ℕ → ℕ
one_above None = 0
one_above (Some place) = suc place

-- the place that a number stands for, if it stands for one
abbrev pub place_below : ℕ → Option ℕ
place_below zero = None
place_below (suc place) = Some place

-- a number that stands for an optional place is kept
pub above_place : (n : ℕ) → one_above (place_below n) ≡ n
above_place zero = refl
above_place (suc place) = refl
