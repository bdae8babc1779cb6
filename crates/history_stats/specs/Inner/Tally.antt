-- Numbers counted in blocks of 1, 2, 4, .. numbers.
use Rattle.std.specs.Prelude.{◌≡◌, ℕ, suc, zero, ◌<◌, ◌≤◌, ◌/◌, List, [], length, count_by, nat_eq, slice_index_or}

-- the number halved this many times: its block in this level
abbrev pub halved : ℕ → ℕ → ℕ
halved x zero = x
halved x (suc k) = halved x k / 2

-- each level has a count for each block of the numbers up to the limit, and the level after the last would have one
-- block
pub record HasLevels (limit : ℕ) (levels : List (List ℕ)) : Type 0 where
  pub wide : (k : ℕ) → k < length levels → halved limit k < length (slice_index_or levels k [])
  pub ends : halved limit (length levels) ≡ 0

-- the count of each block is the number of numbers in it
abbrev pub Counts : List (List ℕ) → List ℕ → Type 0
Counts levels numbers =
    (k j : ℕ) → k < length levels
    → slice_index_or (slice_index_or levels k []) j 0 ≡ count_by (λ x. nat_eq (halved x k) j) numbers

-- the levels count these numbers, each up to the limit
pub record IsTally (limit : ℕ) (numbers : List ℕ) (levels : List (List ℕ)) : Type 0 where
  pub has_levels : HasLevels limit levels
  pub counts : Counts levels numbers

-- the levels count some numbers, few enough for one more, and have a block for this one
pub record HasRoomFor (number : ℕ) (levels : List (List ℕ)) : Type 0 where
  pub limit : ℕ
  pub numbers : List ℕ
  pub is_tally : IsTally limit numbers levels
  pub within : number ≤ limit
  pub few : length numbers < 4611686018427387904
