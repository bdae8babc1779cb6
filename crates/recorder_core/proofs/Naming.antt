-- Values that are distinct.
use Rattle.std.proofs.Common.{◌≡◌, ◌≢◌, ℕ, ◌+◌, ◌<◌, inl, inr, Bool, true, false, ◌||◌, cond, List, [], ◌∷◌, ◌++◌}
use Rattle.std.proofs.Common.{length, get_or, take, refl, sym, ◌∙◌, ap}
use Rattle.std.proofs.Common.{subst, nat_eq, add-one, arith}
use Rattle.std.specs.Prelude.{AllPairs, Contains}
use Rattle.std.specs.List.{list_any}
use Rattle.std.specs.Ordering.{nat_cmp, is_eq}
use Rattle.std.proofs.Math.Bool.{or-false}
use Rattle.std.proofs.Math.Seq.{take-suc}
use Rattle.std.proofs.lemmas.Bool.{eqb-true, eq-eqb}
use Rattle.std.proofs.lemmas.List.{get_or-take, get_or_default, length-take-le}
use Rattle.std.proofs.lemmas.List.Folds.{list_any-append}
use Rattle.history_merge.proofs.Distinct.{contains_cons, not_in_none}
use Rattle.history_merge.proofs.KnownValues.{is_eq-nat_cmp}
use Rattle.history_merge.proofs.Lists.{contains_head, one_deeper, pairs_append}

-- whether a value is one of a list
abbrev pub is_among : List ℕ → ℕ → Bool
is_among xs v = list_any (λ w. nat_eq w v) xs

-- a value that is found is there
pub found_among : (xs : List ℕ) (v : ℕ) → is_among xs v ≡ true → Contains xs v
found_among [] v e = cc
found_among (x ∷ xs) v e = by_head (nat_eq x v) refl (found_among xs v) e
  where
    by_head : (b : Bool) → nat_eq x v ≡ b → (is_among xs v ≡ true → Contains xs v) → (b || is_among xs v) ≡ true
        → Contains (x ∷ xs) v
    by_head true is later e = subst (λ (z : ℕ). Contains (x ∷ xs) z) (eqb-true x v is) (contains_head x xs)
    by_head false is later e = one_deeper x xs v (later e)

-- a value that is there is found
pub among_found : (xs : List ℕ) (v : ℕ) → Contains xs v → is_among xs v ≡ true
among_found [] v among = absurd (not_in_none v among)
among_found (x ∷ xs) v among = elim (contains_cons x xs v among) [
  | inl same ↦ ap (λ (b : Bool). b || is_among xs v) (eq-eqb x v same)
  | inr later ↦ by_rest (nat_eq x v) (among_found xs v later)
]
  where
    by_rest : (b : Bool) → is_among xs v ≡ true → (b || is_among xs v) ≡ true
    by_rest true e = refl
    by_rest false e = e

-- if a value is among those before it, the values aren't distinct
pub stands_twice : (xs : List ℕ) (i d : ℕ) → i < length xs → is_among (take i xs) (get_or xs i d) ≡ true
    → AllPairs (λ v w. v ≢ w) xs → ⊥
stands_twice xs i d within found apart =
    let v = get_or xs i d in
    let a = found_among (take i xs) v found in
    let earlier : a.0 < i = omega (arith, a.1, length-take-le i xs (omega arith)) in
    apart a.0 i v earlier within (sym (get_or-take i xs a.0 v earlier) ∙ a.2 ∙ get_or_default xs i d v within)

-- membership with one more value
among_more : (xs : List ℕ) (i d v : ℕ) → i < length xs
    → is_among (take (i + 1) xs) v ≡ (is_among (take i xs) v || nat_eq (get_or xs i d) v)
among_more xs i d v within =
    ap (λ (n : ℕ). is_among (take n xs) v) (add-one i) ∙ ap (λ (l : List ℕ). is_among l v) (take-suc xs i d within)
    ∙ list_any-append (λ w. nat_eq w v) (take i xs) (get_or xs i d ∷ [])
    ∙ ap (λ (b : Bool). is_among (take i xs) v || b) (or-false (nat_eq (get_or xs i d) v))

-- membership in a set of the values so far, and with one more value
pub noted : (xs : List ℕ) (i d v : ℕ) (before now : Bool) → i < length xs → before ≡ is_among (take i xs) v
    → now ≡ cond (is_eq (nat_cmp (get_or xs i d) v)) true before → now ≡ is_among (take (i + 1) xs) v
noted xs i d v before now within was is =
    is ∙ ap (λ (b : Bool). cond b true before) (is_eq-nat_cmp (get_or xs i d) v) ∙ or_flipped (nat_eq (get_or xs i d) v) before
    ∙ ap (λ (b : Bool). b || nat_eq (get_or xs i d) v) was ∙ sym (among_more xs i d v within)
  where
    or_flipped : (b c : Bool) → cond b true c ≡ (c || b)
    or_flipped false c = sym (or-false c)
    or_flipped true true = refl
    or_flipped true false = refl

-- one more value, which isn't among those before it
pub one_more_apart : (xs : List ℕ) (i d : ℕ) → i < length xs → is_among (take i xs) (get_or xs i d) ≡ false
    → AllPairs (λ v w. v ≢ w) (take i xs)
    → AllPairs (λ v w. v ≢ w) (take (i + 1) xs)
one_more_apart xs i d within unseen apart =
    let v = get_or xs i d in
    let more : take (i + 1) xs ≡ take i xs ++ v ∷ [] = ap (λ (n : ℕ). take n xs) (add-one i) ∙ take-suc xs i d within in
    subst (AllPairs (λ v w. v ≢ w)) (sym more) (pairs_append (λ v w. v ≢ w) (take i xs) (v ∷ []) apart (λ j k e below inside. absurd (omega arith))
    (λ x y before last same. elim (contains_cons v [] y last) [
      | inl is ↦
          let found = among_found (take i xs) v (subst (Contains (take i xs)) (same ∙ sym is) before) in
          cc
      | inr none ↦ not_in_none y none
    ]))
