-- Different places below a bound are no more than the bound.
use Rattle.std.proofs.Common.{◌≡◌, ℕ, zero, suc, ◌<◌, ◌≤◌, true, List, [], ◌∷◌, ◌++◌, length, get_or, refl, ap, sym}
use Rattle.std.proofs.Common.{subst, ◌∙◌, arith}
use Rattle.std.proofs.Common.{inl, inr, length-append}
use Rattle.std.proofs.lemmas.Bool.{ne_eqb, eqb-true, cases_eq}
use Rattle.std.proofs.lemmas.List.{get_or_default, get_or_append_left}
use Rattle.std.proofs.Math.Seq.{get_or-append_seam}
use Rattle.std.proofs.lemmas.List.Folds.{Any-from_list_any}
use Rattle.std.proofs.lemmas.Map.Keys.{IsDistinct-from_apart}
use Rattle.std.proofs.lemmas.Map.Steps.{length-le_from_distinct_below}
use Rattle.std.specs.List.{IsDistinct, list_any}
use lib.Dec.{eqb}

-- a number for each place below n
pub collected : (n : ℕ) (P : ℕ → ℕ → Type 0) → ((k : ℕ) → k < n → (q : ℕ) × P k q)
    → (qs : List ℕ) × (length qs ≡ n) × ((k : ℕ) → k < n → P k (get_or qs k 0))
collected zero P each = ([], refl, λ k below. absurd (omega arith))
collected (suc n) P each =
    let before = collected n P (λ k below. each k (omega arith)) in
    let last = each n (omega arith) in
    (before.0 ++ last.0 ∷ [], long before.0 last.0 before.1, λ k below. at before.0 last.0 before.1 before.2 last.1 k below)
  where
    long : (qs : List ℕ) (q : ℕ) → length qs ≡ n → length (qs ++ q ∷ []) ≡ suc n
    long qs q is = omega (arith, length-append qs (q ∷ []))

    at : (qs : List ℕ) (q : ℕ) → length qs ≡ n → ((k : ℕ) → k < n → P k (get_or qs k 0)) → P n q
        → (k : ℕ) → k < suc n → P k (get_or (qs ++ q ∷ []) k 0)
    at qs q is earlier here k below = elim (cases_eq k n) [
      | inl same ↦
          let read : get_or (qs ++ q ∷ []) k 0 ≡ q = ap (λ i. get_or (qs ++ q ∷ []) i 0) (same ∙ sym is) ∙ get_or-append_seam qs q [] 0 in
          subst (λ i. P i (get_or (qs ++ q ∷ []) k 0)) (sym same) (subst (P n) (sym read) here)
      | inr other ↦
          let less : k < n = omega arith in
          subst (P k) (sym (get_or_append_left qs (q ∷ []) 0 k (omega arith))) (earlier k less)
    ]

-- different numbers below m, one for each place below n, are at most m
pub at_most : (n m : ℕ) (P : ℕ → ℕ → Type 0) → ((k : ℕ) → k < n → (q : ℕ) × P k q)
    → ((k q : ℕ) → k < n → P k q → q < m)
    → ((j k q : ℕ) → P j q → P k q → j ≡ k) → n ≤ m
at_most n m P each below once =
    let found = collected n P each in
    let fewer = length-le_from_distinct_below found.0 m (apart found.0 found.1 found.2) (bounded found.0 found.1 found.2) in
    omega (arith, fewer, found.1)
  where
    apart : (qs : List ℕ) → length qs ≡ n → ((k : ℕ) → k < n → P k (get_or qs k 0)) → IsDistinct eqb qs
    apart qs long is = IsDistinct-from_apart eqb qs (λ i j d less inside. ne_eqb (get_or qs i d) (get_or qs j d) (λ same.
        let here : P i (get_or qs i 0) = is i (omega arith) in
        let there : P j (get_or qs j 0) = is j (omega arith) in
        let one : get_or qs i 0 ≡ get_or qs j 0 = get_or_default qs i 0 d (omega arith) ∙ same ∙ get_or_default qs j d 0 inside in
        let places = once i j (get_or qs j 0) (subst (P i) one here) there in
        omega arith))

    bounded : (qs : List ℕ) → length qs ≡ n → ((k : ℕ) → k < n → P k (get_or qs k 0)) → (q : ℕ)
        → list_any (eqb q) qs ≡ true → q < m
    bounded qs long is q among =
        let place = Any-from_list_any (eqb q) qs among in
        let same : q ≡ get_or qs place.0 0 = eqb-true q place.1 place.4 ∙ sym place.3 ∙ get_or_default qs place.0 place.1 0 place.2 in
        let inside : place.0 < n = omega (arith, place.2, long) in
        let less = below place.0 (get_or qs place.0 0) inside (is place.0 inside) in
        omega (arith, same, less)
