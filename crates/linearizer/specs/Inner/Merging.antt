-- The enqueues, the dequeues and the no-ops, merged by their positions.
use Rattle.std.specs.Prelude.{All, filter_map, IsPermutation, IsSomeAnd, length, List, Option, slice_get, Some, take}
use Rattle.std.specs.Prelude.{ℕ, ◌++◌, ◌<◌, ◌≡◌, ◌≤◌, ◌⊎◌}
use Rattle.history_merge.specs.Initial.{Contents}
use Rattle.value_match.specs.declared.life.Life.{Life}
use Rattle.linearizer.specs.declared.position.Position.{Position as Stored}
use Rattle.linearizer.specs.Order.{Position, StandsBefore, dequeue_position, enqueue_position}
use Rattle.linearizer.specs.Inner.Placement.{AreByPosition, HoldsUpTo, PlacesValues, NeverFall, Placed, position_of}

-- p is the position of the enqueue of the i-th value or of a later one
abbrev pub IsEnqueueFrom : List Life → ℕ → Position → Type 0
IsEnqueueFrom lives i p = (n : ℕ) × (i ≤ n) × (n < length lives) × (p ≡ enqueue_position lives n)

-- p is the position of the dequeue of the j-th value or of a later one
abbrev pub IsDequeueFrom : List Life → ℕ → Position → Type 0
IsDequeueFrom lives j p = (n : ℕ) × (j ≤ n) × (n < length lives) × (p ≡ dequeue_position lives n)

-- p is the position of an enqueue or a dequeue that is left
abbrev pub IsValueFrom : List Life → ℕ → ℕ → Position → Type 0
IsValueFrom lives i j p = IsEnqueueFrom lives i p ⊎ IsDequeueFrom lives j p

-- p is the position of the k-th no-op or of a later one
abbrev pub IsNoopFrom : List Placed → ℕ → Position → Type 0
IsNoopFrom noops k p = (n : ℕ) × (x : Placed) × (k ≤ n) × (slice_get noops n ≡ Some x) × (p ≡ position_of x.position)

-- p is the position of an operation that is left
abbrev pub IsAhead : List Life → List Placed → ℕ → ℕ → ℕ → Position → Type 0
IsAhead lives noops i j k p = IsValueFrom lives i j p ⊎ IsNoopFrom noops k p

-- none of these positions comes before the limit; without a limit, there are no such positions
abbrev pub NoneBelow : (Position → Type 0) → Option Stored → Type 0
NoneBelow Is limit = (p : Position) → Is p → IsSomeAnd limit (λ q. ¬ (StandsBefore p (position_of q)))

-- the places of the enqueues of the first i values, the dequeues of the first j and the first k no-ops, in rising
-- order of position; no operation that is left comes before one of these
pub record IsMergedUpTo (history : Contents) (lives : List Life) (noops : List Placed) (i j left k : ℕ)
    (places : List ℕ) : Type 0 where
  pub values : List Placed
  pub held : HoldsUpTo history lives i j left values
  pub sorted : List Placed
  pub each_once : IsPermutation (values ++ take k noops) sorted
  pub never_fall : NeverFall sorted
  pub none_below : All (λ x. NoneBelow (IsAhead lives noops i j k) (Some x.position)) sorted
  pub places_are : places ≡ filter_map (λ p. p.place) sorted

-- the places of the values' operations and of the no-ops, in rising order of position
abbrev pub IsMerge : Contents → List Placed → List ℕ → Type 0
IsMerge history noops places = (values : List Placed) × PlacesValues history values
    × AreByPosition (values ++ noops) places
