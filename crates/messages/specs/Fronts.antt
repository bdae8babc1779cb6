-- What contracts see of a source that keeps the front of what it gives.
use Rattle.std.specs.Prelude.{◌≡◌, ◌⊎◌, ◌++◌, ℕ, List, [], Bool}

-- the source itself, the front of what it gave that is kept, whether that is all that it gave, and else the last bytes
-- of it
pub record Fronted (S : Type 0) : Type 0 where
  pub source : S
  pub front : List ℕ
  pub is_whole : Bool
  pub back : List ℕ

-- the last bytes end with these, or memory ran out for them
abbrev pub IsKeptBack : List ℕ → List ℕ → Type 0
IsKeptBack given back = (back ≡ []) ⊎ ((before : List ℕ) × (back ≡ before ++ given))
