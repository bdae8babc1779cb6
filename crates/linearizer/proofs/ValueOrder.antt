-- There is exactly one order of the values.
use Rattle.linearizer.proofs.Common.{[], All-cons, All-contains, All-nil, All-permutation, All-weaker, ap, arith}
use Rattle.linearizer.proofs.Common.{cases_lt, Contains, Contains-permutation, contains_at, contains_cons}
use Rattle.linearizer.proofs.Common.{dequeue_return, EachIsChoice, enqueue_call, entered_by, inl, inr, IsChoice}
use Rattle.linearizer.proofs.Common.{IsClear, IsLeastBy, IsLife, IsPermutation, IsPermutation-cons, IsPermutation-refl}
use Rattle.linearizer.proofs.Common.{IsPermutation-remove, IsPermutation-sym, IsPermutation-trans, IsValueOrder}
use Rattle.linearizer.proofs.Common.{leaves_from, length, length_permutation, Life, life_is_contained}
use Rattle.linearizer.proofs.Common.{life_of_contained, List, lives_of, none_overtakes, NoOrderViolation, not_in_none}
use Rattle.linearizer.proofs.Common.{one_deeper, Operation, refl, rules, slice_get, Some, subst, suc, sym, zero, ℕ}
use Rattle.linearizer.proofs.Common.{◌<◌, ◌∙◌, ◌∷◌, ◌≡◌, ◌≤◌, ◌⊎◌, on}
use Rattle.linearizer.proofs.Times.{one_life_of_dequeue_return, one_life_of_entering, one_place_of_life, times_of_life}
use Rattle.linearizer.proofs.Elements.{none_twice_from_places, NoneTwice}

-- ---- how the next value is chosen

-- the least of some lives is at most each of them
pub least_at : (number : Life → ℕ) (lives : List Life) (least x : Life) → IsLeastBy number lives least
    → Contains lives x → number least ≤ number x
least_at number lives least x is among = All-contains (λ y. number least ≤ number y) lives x is.1 among

-- the two ways to make a choice
abbrev pub IsMade : List Life → Life → Life → Life → Type 0
IsMade remaining a b choice = ((dequeue_return b < leaves_from a) × (choice ≡ b)) ⊎ ((leaves_from a ≤ dequeue_return b) × (choice ≡ a))

-- a choice is the first entered or the first dequeued
pub made : (remaining : List Life) (choice : Life) (is : IsChoice remaining choice)
    → IsMade remaining is.first_entered is.first_dequeued choice
made remaining choice is = elim (cases_lt (dequeue_return is.first_dequeued) (leaves_from is.first_entered)) [
  | inl less ↦ inl (less, is.takes_dequeued less)
  | inr more ↦ inr (more, is.takes_entered more)
]

-- at the turn of x, which is the choice among some of these lives, y remains
pub record HasTurn (lives : List Life) (x y : Life) : Type 0 where
  pub remaining : List Life
  pub is_choice : IsChoice remaining x
  pub remains : Contains remaining y
  pub among : (z : Life) → Contains remaining z → Contains lives z

-- the second of two values in order remains at the turn of the first
pub turn_of : (lives : List Life) (i j : ℕ) (x y : Life) → EachIsChoice lives → i ≤ j → slice_get lives i ≡ Some x
    → slice_get lives j ≡ Some y
    → HasTurn lives x y
turn_of [] i j x y each le at_x at_y = cc
turn_of (life ∷ rest) zero j x y each le at_x at_y = let same : life ≡ x = cc in record {
  remaining = life ∷ rest;
  is_choice = subst (IsChoice (life ∷ rest)) same each.0;
  remains = contains_at (life ∷ rest) j y at_y;
  among = λ z among. among;
}
turn_of (life ∷ rest) (suc i) zero x y each le at_x at_y = absurd (omega arith)
turn_of (life ∷ rest) (suc i) (suc j) x y each le at_x at_y =
    let turn = turn_of rest i j x y each.1 (omega arith) at_x at_y in record {
      remaining = turn.remaining;
      is_choice = turn.is_choice;
      remains = turn.remains;
      among = λ z among. one_deeper life rest z (turn.among z among);
    }

-- ---- each value may come before those after it in the order of values

-- the enqueues put x before y, the dequeues y before x
abbrev pub IsOpposite : Life → Life → Type 0
IsOpposite x y = (entered_by x < enqueue_call y) × (dequeue_return y < leaves_from x)

-- neither the enqueues nor the dequeues put y before x
abbrev pub MayStandBefore : Life → Life → Type 0
MayStandBefore x y = ¬ (entered_by y < enqueue_call x) × ¬ (dequeue_return y < leaves_from x)

module _ (operations : List Operation) (clear : IsClear (on operations))
    (none : NoOrderViolation (on operations)) where
  -- no two values are opposite, since one would overtake the other
  no_two_opposite : (x y : Life) → IsLife (on operations) x → IsLife (on operations) y → ¬ (IsOpposite x y)
  no_two_opposite x y is_x is_y opposite =
      let times_x = times_of_life operations x clear is_x in
      let times_y = times_of_life operations y clear is_y in
      none_overtakes operations x y clear none is_x is_y (omega arith)

  -- the choice may come before all that remain
  pub choice_may_stand_before : (remaining : List Life) (choice other : Life)
      → ((x : Life) → Contains remaining x → IsLife (on operations) x)
      → IsChoice remaining choice → Contains remaining other → MayStandBefore choice other
  choice_may_stand_before remaining choice other are is among =
      let a = is.first_entered in
      let b = is.first_dequeued in
      let is_a = are a is.enters_first.0 in
      let is_b = are b is.dequeued_first.0 in
      let times_a = times_of_life operations a clear is_a in
      let times_b = times_of_life operations b clear is_b in
      let entered_least = least_at entered_by remaining a other is.enters_first among in
      let returned_least = least_at dequeue_return remaining b other is.dequeued_first among in
      elim (made remaining choice is) [
        | inl taken ↦ rw taken.1 ((λ early. no_two_opposite a b is_a is_b (omega arith, taken.0)), (λ early. omega arith))
        | inr taken ↦ rw taken.1 ((λ early. omega arith), (λ early. omega arith))
      ]

-- the elements of the order of values are lives, and each life is one
pub is_life : (operations : List Operation) (lives : List Life) → IsValueOrder (on operations) lives → (x : Life)
    → Contains lives x → IsLife (on operations) x
is_life operations lives order x among =
    life_of_contained operations x (Contains-permutation lives (lives_of operations) x
    (IsPermutation-sym (lives_of operations) lives order.holds_each_once) among)

-- the element at a place of the order is a life
pub is_life_at : (operations : List Operation) (lives : List Life) (i : ℕ) (x : Life)
    → IsValueOrder (on operations) lives → slice_get lives i ≡ Some x
    → IsLife (on operations) x
is_life_at operations lives i x order at = is_life operations lives order x (contains_at lives i x at)

-- each life is in the order
pub stands_in_order : (operations : List Operation) (lives : List Life) → IsClear (on operations)
    → IsValueOrder (on operations) lives → (x : Life)
    → IsLife (on operations) x → Contains lives x
stands_in_order operations lives clear order x is = Contains-permutation (lives_of operations) lives x order.holds_each_once
    (life_is_contained operations x clear is)

-- each value may come before those after it
pub may_stand_before : (operations : List Operation) (lives : List Life) (i j : ℕ) (x y : Life)
    → IsClear (on operations) → NoOrderViolation (on operations)
    → IsValueOrder (on operations) lives → i ≤ j → slice_get lives i ≡ Some x → slice_get lives j ≡ Some y
    → MayStandBefore x y
may_stand_before operations lives i j x y clear none order le at_x at_y =
    let turn = turn_of lives i j x y order.each_is_choice le at_x at_y in
    choice_may_stand_before operations clear none turn.remaining x y (λ z among. is_life operations lives order z (turn.among z among))
    turn.is_choice turn.remains

-- ---- there is exactly one order of the values

least_by : (number : Life → ℕ) (x : Life) (xs : List Life) → (life : Life) × IsLeastBy number (x ∷ xs) life
least_by number x [] = (
  x,
  (
    (zero, omega arith, refl),
    All-cons (λ other. number x ≤ number other) x [] (omega arith)
        (All-nil (λ other. number x ≤ number other)),
  ),
)
least_by number x (y ∷ xs) =
    let rest = least_by number y xs in
    let cases : (number rest.0 < number x) ⊎ (number x ≤ number rest.0) = grind arith in
    elim cases [
      | inl less ↦ (rest.0, (one_deeper x (y ∷ xs) rest.0 rest.1.0, All-cons (λ other. number rest.0 ≤ number other) x (y ∷ xs) (omega arith) rest.1.1))
      | inr first ↦ (
        x,
        (
          (zero, omega arith, refl),
          All-cons (λ other. number x ≤ number other) x (y ∷ xs) (omega arith)
              (All-weaker (λ other. number rest.0 ≤ number other) (λ other. number x ≤ number other) (λ other le. omega arith) (y ∷ xs) rest.1.1),
        ),
      )
    ]

choice_of : (x : Life) (xs : List Life) → (life : Life) × IsChoice (x ∷ xs) life
choice_of x xs =
    let a = least_by entered_by x xs in
    let b = least_by dequeue_return x xs in
    let cases : (dequeue_return b.0 < leaves_from a.0) ⊎ (leaves_from a.0 ≤ dequeue_return b.0) = grind arith in
    let of : (life : Life) → (dequeue_return b.0 < leaves_from a.0 → life ≡ b.0) → (leaves_from a.0 ≤ dequeue_return b.0 → life ≡ a.0)
    → (life : Life) × IsChoice (x ∷ xs) life = λ life by_exit by_entry. (
      life,
      record { first_entered = a.0; enters_first = a.1; first_dequeued = b.0; dequeued_first = b.1; takes_dequeued = by_exit; takes_entered = by_entry },
    ) in
    elim cases [
      | inl less ↦ of b.0 (λ _. refl) (λ more. absurd (omega arith))
      | inr more ↦ of a.0 (λ less. absurd (omega arith)) (λ _. refl)
    ]

least_in_other_order : (number : Life → ℕ) (xs ys : List Life) (life : Life) → IsPermutation xs ys
    → IsLeastBy number xs life → IsLeastBy number ys life
least_in_other_order number xs ys life moved is = (
  Contains-permutation xs ys life moved is.0,
  All-permutation
      (λ other. number life ≤ number other) xs ys moved is.1,
)

-- a choice doesn't depend on the order of the values that remain
pub choice_in_other_order : (xs ys : List Life) (life : Life) → IsPermutation xs ys → IsChoice xs life
    → IsChoice ys life
choice_in_other_order xs ys life moved is = record {
  first_entered = is.first_entered;
  first_dequeued = is.first_dequeued;
  enters_first = least_in_other_order entered_by xs ys is.first_entered moved is.enters_first;
  dequeued_first = least_in_other_order dequeue_return xs ys is.first_dequeued moved is.dequeued_first;
  takes_dequeued = is.takes_dequeued;
  takes_entered = is.takes_entered;
}

-- a choice is one of the values
is_among : (xs : List Life) (life : Life) → IsChoice xs life → Contains xs life
is_among xs life is = elim (made xs life is) [
  | inl taken ↦ subst (Contains xs) (sym taken.1) is.dequeued_first.0
  | inr taken ↦ subst (Contains xs) (sym taken.1) is.enters_first.0
]

in_order : (n : ℕ) (xs : List Life) → length xs ≡ n → (ys : List Life) × IsPermutation xs ys × EachIsChoice ys
in_order n [] long = ([], IsPermutation-refl [], search rules)
in_order zero (x ∷ xs) long = absurd (omega arith)
in_order (suc n) (x ∷ xs) long =
    let choice = choice_of x xs in
    let among = is_among _ _ choice.1 in
    let moved = IsPermutation-remove _ _ _ among.1 (sym among.2) in
    let shorter = length_permutation _ _ moved in
    let rest = in_order n _ (omega arith) in
    let all_moved = IsPermutation-trans _ _ _ moved (IsPermutation-cons _ _ rest.0 rest.1) in
    (choice.0 ∷ rest.0, all_moved, (choice_in_other_order _ _ _ all_moved choice.1, rest.2))

-- the values have an order
pub values_have_order : (operations : List Operation) → IsClear (on operations)
    → (lives : List Life) × IsValueOrder (on operations) lives
values_have_order operations clear =
    let found = in_order (length (lives_of operations)) (lives_of operations) refl in
    (found.0, record { holds_each_once = found.1; each_is_choice = found.2 })

-- lists with the same elements
pub record AreSame {X : Type 0} (xs ys : List X) : Type 0 where
  pub into : (x : X) → Contains xs x → Contains ys x
  pub back : (x : X) → Contains ys x → Contains xs x
  pub first_once : NoneTwice xs
  pub second_once : NoneTwice ys

least_alike : (number : Life → ℕ) (xs ys : List Life) (a b : Life) → AreSame xs ys → IsLeastBy number xs a
    → IsLeastBy number ys b → number a ≡ number b
least_alike number xs ys a b same is_a is_b =
    let first = least_at number xs a b is_a (same.back b is_b.0) in
    let second = least_at number ys b a is_b (same.into a is_a.0) in
    omega arith

one_choice : (operations : List Operation) (xs ys : List Life) (c d : Life) → IsClear (on operations)
    → ((x : Life) → Contains xs x → IsLife (on operations) x)
    → AreSame xs ys → IsChoice xs c → IsChoice ys d → c ≡ d
one_choice operations xs ys c d clear are same is_c is_d =
    let a = is_c.first_entered in let a' = is_d.first_entered in
    let b = is_c.first_dequeued in let b' = is_d.first_dequeued in
    let is_a = are a is_c.enters_first.0 in
    let is_a' = are a' (same.back a' is_d.enters_first.0) in
    let is_b = are b is_c.dequeued_first.0 in
    let is_b' = are b' (same.back b' is_d.dequeued_first.0) in
    let entries = least_alike entered_by xs ys a a' same is_c.enters_first is_d.enters_first in
    let returns = least_alike dequeue_return xs ys b b' same is_c.dequeued_first is_d.dequeued_first in
    let one = one_life_of_entering operations a a' clear is_a is_a' entries in
    let leaves : leaves_from a ≡ leaves_from a' = ap leaves_from one in
    let in_time = (times_of_life operations a clear is_a).leaves_by_never in
    elim (made xs c is_c) [
      | inl taken ↦ elim (made ys d is_d) [
        | inl taken' ↦ elim (one_life_of_dequeue_return operations b b' clear is_b is_b' returns) [
          | inl one_b ↦ taken.1 ∙ one_b ∙ sym taken'.1
          | inr never ↦ absurd (omega (arith, taken.0))
        ]
        | inr taken' ↦ absurd (omega (arith, taken.0, taken'.0))
      ]
      | inr taken ↦ elim (made ys d is_d) [
        | inl taken' ↦ absurd (omega (arith, taken.0, taken'.0))
        | inr taken' ↦ taken.1 ∙ one ∙ sym taken'.1
      ]
    ]

-- lists with the same elements, after removing one from both
rest_alike : {X : Type 0} (x y : X) (xs ys : List X) → x ≡ y → AreSame (x ∷ xs) (y ∷ ys) → AreSame xs ys
rest_alike {X} x y xs ys one same = record {
  into = λ z among. behind x y xs ys z one same.first_once.0 among (same.into z (one_deeper x xs z among));
  back = λ z among. behind y x ys xs z (sym one) same.second_once.0 among (same.back z (one_deeper y ys z among));
  first_once = same.first_once.1;
  second_once = same.second_once.1;
}
  where
    behind : (x y : X) (xs ys : List X) (z : X) → x ≡ y → ¬ (Contains xs x) → Contains xs z → Contains (y ∷ ys) z
        → Contains ys z
    behind x y xs ys z one none among there = elim (contains_cons y ys z there) [
      | inl here ↦ absurd (none (subst (Contains xs) (sym (one ∙ here)) among))
      | inr later ↦ later
    ]

one_order : (operations : List Operation) (xs ys : List Life) → IsClear (on operations)
    → ((x : Life) → Contains xs x → IsLife (on operations) x)
    → AreSame xs ys → EachIsChoice xs → EachIsChoice ys → xs ≡ ys
one_order operations [] [] clear are same each each' = refl
one_order operations [] (y ∷ ys) clear are same each each' = absurd (not_in_none y (same.back y (zero, omega arith, refl)))
one_order operations (x ∷ xs) [] clear are same each each' = absurd (not_in_none x (same.into x (zero, omega arith, refl)))
one_order operations (x ∷ xs) (y ∷ ys) clear are same each each' =
    let one = one_choice operations (x ∷ xs) (y ∷ ys) x y clear are same each.0 each'.0 in
    let rest = one_order operations xs ys clear (λ z among. are z (one_deeper x xs z among)) (rest_alike x y xs ys one same) each.1 each'.1 in
    cc

-- the values have only one order
pub values_have_one_order : (operations : List Operation) (xs ys : List Life) → IsClear (on operations)
    → IsValueOrder (on operations) xs
    → IsValueOrder (on operations) ys → xs ≡ ys
values_have_one_order operations xs ys clear order order' = one_order _ xs ys clear (is_life _ xs order) (record {
  into = λ x among. Contains-permutation _ ys x order'.holds_each_once
      (Contains-permutation xs _ x (IsPermutation-sym _ xs order.holds_each_once) among);
  back = λ x among. Contains-permutation _ xs x order.holds_each_once
      (Contains-permutation ys _ x (IsPermutation-sym _ ys order'.holds_each_once) among);
  first_once = none_twice_from_places xs (λ i j x y at_x at_y one. one_place_of_life _ xs i j x y clear order at_x at_y one);
  second_once = none_twice_from_places ys (λ i j x y at_x at_y one. one_place_of_life _ ys i j x y clear order' at_x at_y one);
}) order.each_is_choice order'.each_is_choice
