-- Lists with one more element, and lists changed in place. Passes on what `history_merge` proves of lists.
use Rattle.value_match.proofs.Common.{[], ap, append-nil, arith, drop, drop_all, get_or, IsPermutation, length, List}
use Rattle.value_match.proofs.Common.{subst, suc, sym, take, take_all, take_more, ℕ, ◌++◌, ◌+◌, ◌<◌, ◌∷◌, ◌≡◌}
pub use Rattle.history_merge.proofs.Lists.{kept, keeps, mapped_from, mapped_to, one_deeper, one_more_zipped}
pub use Rattle.history_merge.proofs.Lists.{passed_filter}
pub use Rattle.history_merge.proofs.Lists.{passes_filter}

-- the first elements and the next one
pub one_more : {X : Type 0} (xs : List X) (i : ℕ) (x : X) → i < length xs → x ≡ get_or xs i x
    → take (i + 1) xs ≡ take i xs ++ x ∷ []
one_more xs i x within is = subst (λ y. take (i + 1) xs ≡ take i xs ++ y ∷ []) (sym is) (take_more xs i x within)

-- the elements of a vector, permuted in place
pub moved_in_place : {X : Type 0} (items slice moved : List X) (len : ℕ) → slice ≡ items → length items ≡ len
    → length moved ≡ length slice
    → IsPermutation slice moved → IsPermutation items (take len (moved ++ drop (length moved) items))
moved_in_place items slice moved len same all long permutation =
    let none : drop (length moved) items ≡ [] = drop_all (length moved) items (omega (arith, long, ap length same)) in
    subst (λ xs. IsPermutation xs (take len (moved ++ drop (length moved) items))) same
    (rw (none, append-nil moved, take_all len moved (omega (arith, long, all, ap length same))) permutation)
