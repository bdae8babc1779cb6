-- Positions in a ring: numbers that lie less than a round apart have different ones.
use Rattle.std.proofs.Common.{◌≡◌, ◌≢◌, ℕ, suc, ◌+◌, ◌*◌, ◌/◌, ◌%◌, ◌<◌, ◌≤◌, sym, ap, ◌∙◌, arith}
use mathlib.Core.Logic.{◌⊎◌, inl, inr}
use Rattle.std.proofs.lemmas.Bool.{cases_lt}
use Rattle.std.proofs.lemmas.Nat.{mod_below}
use Rattle.std.proofs.Math.Nat.{mod-add-div, mul-le-mul_left, mul-suc, add-mul-mod_self_left, add-mod_right}
use Rattle.tickets.specs.Inner.Ring.{position}

same_turn : (n a b : ℕ) → a ≤ b → b < a + n → a % n ≡ b % n → a ≡ b
same_turn n a b low high same = by_order (cases_lt (a / n) (b / n))
  where
    by_order : (a / n < b / n) ⊎ (b / n ≤ a / n) → a ≡ b
    by_order (inl less) =
        let x = mod-add-div a n in
        let y = mod-add-div b n in
        let more = mul-le-mul_left n less in
        let round = mul-suc n (a / n) in
        absurd (omega (arith, x, y, more, round, same, high))
    by_order (inr more) =
        let x = mod-add-div a n in
        let y = mod-add-div b n in
        let less = mul-le-mul_left n more in
        omega (arith, x, y, less, same, low)

-- numbers that lie at most so far apart and have one position are one
pub same_position : (room a b : ℕ) → a ≤ b → b ≤ a + room → position room a ≡ position room b → a ≡ b
same_position room a b low high same = same_turn (room + 1) a b low (omega arith) same

-- the position after that of a number is that of the next one
pub next_position : (room n : ℕ) → position room (position room n + 1) ≡ position room (n + 1)
next_position room n =
    let whole = mod-add-div n (room + 1) in
    sym (add-mul-mod_self_left (n % (room + 1) + 1) (room + 1) (n / (room + 1)))
    ∙ ap (λ (k : ℕ). k % (room + 1)) (omega (arith, whole))

pub position_within : (room n : ℕ) → position room n ≤ room
position_within room n = let below = mod_below n (room + 1) (omega arith) in omega arith

-- a round later the position is the same
pub round_position : (room a b : ℕ) → b ≡ a + room → position room (b + 1) ≡ position room a
round_position room a b is =
    let later : b + 1 ≡ a + (room + 1) = omega arith in
    ap (λ (k : ℕ). k % (room + 1)) later ∙ add-mod_right a (room + 1)

-- if the tail's next position is that of the head, the ring is full
pub full_ring : (room put taken : ℕ) → taken ≤ put → put ≤ taken + room → position room taken ≡ position room (put + 1) → put ≡ taken + room
full_ring room put taken low high same = by_order (cases_lt put (taken + room))
  where
    by_order : (put < taken + room) ⊎ (taken + room ≤ put) → put ≡ taken + room
    by_order (inl less) = let one = same_position room taken (put + 1) (omega arith) (omega arith) same in absurd (omega arith)
    by_order (inr more) = omega arith

-- and if not, it is not full
pub free_ring : (room put taken : ℕ) → put ≤ taken + room → position room taken ≢ position room (put + 1) → put < taken + room
free_ring room put taken high other = by_order (cases_lt put (taken + room))
  where
    by_order : (put < taken + room) ⊎ (taken + room ≤ put) → put < taken + room
    by_order (inl less) = less
    by_order (inr more) = absurd (other (sym (round_position room taken put (omega arith))))
