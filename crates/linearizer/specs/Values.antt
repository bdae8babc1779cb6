-- The order of the enqueued values, and the gaps of their operations.
use Rattle.std.specs.Prelude.{All, Contains, drop, fold, IsPermutation, List, map, max, min, take, ℕ, ⊤, [], ◌+◌, ◌-◌}
use Rattle.std.specs.Prelude.{◌<◌, ◌∷◌, ◌≡◌, ◌≤◌}
use Rattle.value_match.specs.declared.life.Life.{Life}
use Rattle.value_match.specs.declared.life.TheConstants.{NEVER}
use Rattle.value_match.specs.Lives.{Course, entered_by, leaves_from, dequeue_return}

-- one of the lives at which this number is least
abbrev pub IsLeastBy : (Life → ℕ) → List Life → Life → Type 0
IsLeastBy number lives life = Contains lives life × All (λ other. number life ≤ number other) lives

-- the next of the values that remain: the first dequeued, if its dequeue returns before the first entered can have
-- left, else the first entered
pub record IsChoice (remaining : List Life) (life : Life) : Type 0 where
  pub first_entered : Life
  pub first_dequeued : Life
  pub enters_first : IsLeastBy entered_by remaining first_entered
  pub dequeued_first : IsLeastBy dequeue_return remaining first_dequeued
  pub takes_dequeued : dequeue_return first_dequeued < leaves_from first_entered → life ≡ first_dequeued
  pub takes_entered : leaves_from first_entered ≤ dequeue_return first_dequeued → life ≡ first_entered

-- each value is the choice among itself and those after it
abbrev pub EachIsChoice : List Life → Type 0
EachIsChoice [] = ⊤
EachIsChoice (life ∷ rest) = IsChoice (life ∷ rest) life × EachIsChoice rest

-- the enqueued values in their chosen order
pub record IsValueOrder (c : Course) (lives : List Life) : Type 0 where
  pub holds_each_once : IsPermutation c.lives lives
  pub each_is_choice : EachIsChoice lives

-- the first time at which one of the values has definitely entered
abbrev pub least_entered_by : List Life → ℕ
least_entered_by lives = fold min NEVER (map entered_by lives)

-- the time from which all the values can have left
abbrev pub greatest_leaves_from : List Life → ℕ
greatest_leaves_from lives = fold max 0 (map leaves_from lives)

-- the gap just before the first of the values from place i on has definitely entered
abbrev pub enqueue_gap : List Life → ℕ → ℕ
enqueue_gap lives i = least_entered_by (drop i lives) - 1

-- the gap from which the values up to place i can all have left, but no gap before the enqueue's
abbrev pub dequeue_gap : List Life → ℕ → ℕ
dequeue_gap lives i = max (greatest_leaves_from (take (i + 1) lives)) (enqueue_gap lives i)
