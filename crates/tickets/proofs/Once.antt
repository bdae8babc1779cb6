-- From the account: no ticket is in two passes.
use Rattle.std.proofs.Common.{◌≡◌, ℕ, zero, suc, ◌+◌, ◌<◌, ◌≤◌, List, [], ◌∷◌, ◌++◌, All, Contains, flat_map, sym, subst, arith}
use Rattle.std.specs.Prelude.{Some, slice_get}
use Rattle.std.proofs.lemmas.List.Elements.{All-nil, All-cons, All-tail}
use Rattle.std.proofs.lemmas.List.Sorted.{IsPermutation-sym, All-permutation}
use Rattle.tickets.specs.declared.account.Holding.{Holding}
use Rattle.tickets.specs.Account.{IsAccount, DrawnOnce}
use Rattle.tickets.specs.Views.{numbers_below}
use Rattle.tickets.proofs.Rising.{times, times-cons, times-cons_same, times-append, times-permutation, times-range}
use Rattle.tickets.proofs.Steps.{drawn_of, total, below_all, all_left}

-- a number in a list is there at least once
at_least_once : (xs : List ℕ) (t : ℕ) → Contains xs t → 1 ≤ times t xs
at_least_once [] t (k, inside, is) = absurd (omega arith)
at_least_once (x ∷ xs) t (zero, inside, is) = let same = times-cons_same t xs in subst (λ (z : ℕ). 1 ≤ times t (z ∷ xs)) (sym is) (omega arith)
at_least_once (x ∷ xs) t (suc k, inside, is) = let rest = at_least_once xs t (k, omega arith, is) in let split = times-cons t x xs in omega arith

drawn_within : (views : List Holding) (i : ℕ) (g : Holding) (t : ℕ) → slice_get views i ≡ Some g → times t g.drawn ≤ times t (flat_map drawn_of views)
drawn_within [] i g t e = absurd (cc)
drawn_within (v ∷ vs) zero g t e =
    let split = times-append t v.drawn (flat_map drawn_of vs) in
    let is : v ≡ g = cc in
    subst (λ (h : Holding). times t h.drawn ≤ times t (v.drawn ++ flat_map drawn_of vs)) is (omega arith)
drawn_within (v ∷ vs) (suc i) g t e = let rest = drawn_within vs i g t e in let split = times-append t v.drawn (flat_map drawn_of vs) in omega arith

both_within : (views : List Holding) (i j : ℕ) (g h : Holding) (t : ℕ) → i < j → slice_get views i ≡ Some g → slice_get views j ≡ Some h
    → times t g.drawn + times t h.drawn ≤ times t (flat_map drawn_of views)
both_within [] i j g h t l e f = absurd (cc)
both_within (v ∷ vs) i zero g h t l e f = absurd (omega arith)
both_within (v ∷ vs) zero (suc j) g h t l e f =
    let split = times-append t v.drawn (flat_map drawn_of vs) in
    let rest = drawn_within vs j h t f in
    let is : v ≡ g = cc in
    subst (λ (k : Holding). times t k.drawn + times t h.drawn ≤ times t (v.drawn ++ flat_map drawn_of vs)) is (omega arith)
both_within (v ∷ vs) (suc i) (suc j) g h t l e f = let rest = both_within vs i j g h t (omega arith) e f in let split =
    times-append t v.drawn (flat_map drawn_of vs) in omega arith

all_right : (P : ℕ → Type 0) (xs ys : List ℕ) → All P (xs ++ ys) → All P ys
all_right P [] ys all = all
all_right P (x ∷ xs) ys all = all_right P xs ys (All-tail P x (xs ++ ys) all)

each_below : (next : ℕ) (views : List Holding) → All (λ t. t < next) (flat_map drawn_of views) → All (λ h. All (λ t. t < next) h.drawn) views
each_below next [] all = All-nil (λ (h : Holding). All (λ t. t < next) h.drawn)
each_below next (v ∷ vs) all = All-cons (λ (h : Holding). All (λ t. t < next) h.drawn) v vs
    (all_left (λ t. t < next) v.drawn (flat_map drawn_of vs) all) (each_below next vs (all_right (λ t. t < next) v.drawn (flat_map drawn_of vs) all))

-- by the account, the passes have drawn each number below the word once
pub drawn_once : (budget next : ℕ) (passes : List Holding) → IsAccount budget next passes → DrawnOnce next passes
drawn_once budget next passes a = record {
  apart = λ i j t g h l e f here there.
      (let two = both_within passes i j g h t l e f in
      let known = times-permutation t (flat_map drawn_of passes) (numbers_below next) a.complete in
      let one = at_least_once g.drawn t here in
      let other = at_least_once h.drawn t there in
      absurd (omega (arith, (times-range t 0 next).0)));
  below = each_below next passes (All-permutation (λ t. t < next) (numbers_below next) (flat_map drawn_of passes)
      (IsPermutation-sym (flat_map drawn_of passes) (numbers_below next) a.complete) (below_all next));
  count = total budget next passes a;
}
