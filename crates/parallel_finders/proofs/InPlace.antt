-- A vector whose slice is sorted, and one that is found sorted.
use Rattle.parallel_finders.proofs.Common.{[], ap, append-nil, arith, Bool, Bor, drop, false, get_or, is_le}
use Rattle.parallel_finders.proofs.Common.{IsNonDecreasingBy, IsPermutation, length, List, nat_cmp, Some, suc, sym}
use Rattle.parallel_finders.proofs.Common.{take, take_all, true, zero, ℕ, ◌++◌, ◌+◌, ◌<◌, ◌∷◌, ◌≡◌, ◌≤◌}
use denote.Param.Members.{Mut}
use Rattle.std.specs.Fn.{ComputesKey}
use Rattle.std.specs.Ordering.{is_some_and}
use Rattle.std.specs.List.{IsAllAdjacentAnswer}
use Rattle.std.proofs.lemmas.List.{drop_all}
use Rattle.std.proofs.lemmas.List.Sorted.{IsNonDecreasingBy-from_all_adjacent, IsPermutation-trans}
use Rattle.std.proofs.lemmas.List.Sorted.{non_decreasing_from_is_sorted}
use Rattle.value_match.proofs.Lists.{moved_in_place}

-- the elements of a vector after its slice was sorted
pub in_place : {X : Type 0} (items slice sorted : List X) (len : ℕ) → slice ≡ items → length items ≡ len
    → length sorted ≡ length slice
    → take len (sorted ++ drop (length sorted) items) ≡ sorted
in_place items slice sorted len same all long =
    let none : drop (length sorted) items ≡ [] = drop_all (length sorted) items (omega (arith, long, ap length same)) in
    rw (none, append-nil sorted) (take_all len sorted (omega (arith, long, all, ap length same)))

-- a list permuted twice is a permutation
pub moved_twice : {X : Type 0} (before items slice sorted : List X) (len : ℕ) → IsPermutation before items
    → slice ≡ items → length items ≡ len
    → length sorted ≡ length slice → IsPermutation slice sorted
    → IsPermutation before (take len (sorted ++ drop (length sorted) items))
moved_twice before items slice sorted len first same all long second =
    IsPermutation-trans before items _ first (moved_in_place items slice sorted len same all long second)

-- a test of two neighbours decides their order
tested : (a b : ℕ) → true ≡ is_some_and is_le (Some (nat_cmp a b)) → a ≤ b
tested a b answer = non_decreasing_from_is_sorted (a ∷ b ∷ []) true at 0 1 0 (omega arith) (omega arith)
  where
    at : (k d : ℕ) → k + 1 < 2
        → is_some_and is_le (Some (nat_cmp (get_or (a ∷ b ∷ []) k d) (get_or (a ∷ b ∷ []) (k + 1) d))) ≡ true
    at zero d below = sym answer
    at (suc k) d below = absurd (omega arith)

-- a list that is found sorted rises
pub rises_if_sorted : {X F : Type 0} (n : X → ℕ) {g : Mut F (Bor X × Unit {0}) ℕ} {f : F} (xs : List X) (found : Bool)
    → ((key : X → ℕ) → ComputesKey g key f
    → IsAllAdjacentAnswer (λ x y b. b ≡ is_some_and is_le (Some (nat_cmp (key x) (key y)))) xs found)
    → ComputesKey g n f → found ≡ true → IsNonDecreasingBy n xs
rises_if_sorted n xs true cases computes is = IsNonDecreasingBy-from_all_adjacent n xs (λ k d below. tested _ _ (cases n computes k d below))
rises_if_sorted n xs false cases computes is = cc
