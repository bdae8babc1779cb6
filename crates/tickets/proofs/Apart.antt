-- The items of one or two passes, apart from those of the others.
use Rattle.std.proofs.Common.{◌≡◌, ◌≢◌, ℕ, zero, suc, ◌<◌, List, [], ◌∷◌, ◌++◌, length, get_or, set, flat_map}
use Rattle.std.proofs.Common.{IsPermutation, refl, sym, ap, subst, arith, append_assoc}
use mathlib.Core.Option.{some, some-injective, some-ne-none}
use lib.ListN.{get_elem?}
use Rattle.std.proofs.lemmas.List.Sorted.{IsPermutation-refl, IsPermutation-trans, IsPermutation-append_left}
use Rattle.std.proofs.lemmas.List.Sorted.{IsPermutation-append_right, IsPermutation-append_comm}
use Rattle.tickets.specs.declared.account.Holding.{Holding}

-- the second of three lists can be moved to the front
to_front : {X : Type 0} (xs ys zs : List X) → IsPermutation (xs ++ (ys ++ zs)) (ys ++ (xs ++ zs))
to_front {X} xs ys zs = subst (λ (l : List X). IsPermutation l (ys ++ (xs ++ zs))) (append_assoc xs ys zs)
    (subst (IsPermutation ((xs ++ ys) ++ zs)) (append_assoc ys xs zs) (IsPermutation-append_left zs (xs ++ ys) (ys ++ xs) (IsPermutation-append_comm xs ys)))

pub place_in : (views : List Holding) (i : ℕ) (v : Holding) → get_elem? views i ≡ some v → (i < length views) × ((d : Holding) → get_or views i d ≡ v)
place_in [] i v e = absurd (some-ne-none v (sym e))
place_in (x ∷ xs) zero v e = (omega arith, λ d. some-injective x v e)
place_in (x ∷ xs) (suc i) v e = let r = place_in xs i v e in (omega (arith, r.0), r.1)

-- the items of all passes are those of the pass at i and those of the others, also after that pass changed
pub record OneApart {X : Type 0} (f : Holding → List X) (views : List Holding) (i : ℕ) (v : Holding) : Type 0 where
  pub others : List X
  pub before : IsPermutation (flat_map f views) (f v ++ others)
  pub after : (w : Holding) → IsPermutation (flat_map f (set views i w)) (f w ++ others)

-- a list can be put after the first part of the list that follows it
behind : {X : Type 0} (xs all ys zs : List X) → IsPermutation all (ys ++ zs) → IsPermutation (xs ++ all) (ys ++ (xs ++ zs))
behind xs all ys zs p = IsPermutation-trans (xs ++ all) (xs ++ (ys ++ zs)) (ys ++ (xs ++ zs)) (IsPermutation-append_right xs all (ys ++ zs) p)
    (to_front xs ys zs)

behind_two : {X : Type 0} (xs all ys zs rest : List X) → IsPermutation all (ys ++ (zs ++ rest)) → IsPermutation (xs ++ all) (ys ++ (zs ++ (xs ++ rest)))
behind_two xs all ys zs rest p = IsPermutation-trans (xs ++ all) (ys ++ (xs ++ (zs ++ rest))) (ys ++ (zs ++ (xs ++ rest))) (behind xs all ys (zs ++ rest) p)
    (IsPermutation-append_right ys (xs ++ (zs ++ rest)) (zs ++ (xs ++ rest)) (to_front xs zs rest))

pub one_apart : {X : Type 0} (f : Holding → List X) (views : List Holding) (i : ℕ) (v : Holding) → get_elem? views i ≡ some v → OneApart f views i v
one_apart f [] i v e = absurd (some-ne-none v (sym e))
one_apart f (x ∷ xs) zero v e = record {
  others = flat_map f xs;
  before = subst (λ (h : Holding). IsPermutation (f x ++ flat_map f xs) (f h ++ flat_map f xs)) (some-injective x v e)
      (IsPermutation-refl (f x ++ flat_map f xs));
  after = λ w. IsPermutation-refl (f w ++ flat_map f xs);
}
one_apart f (x ∷ xs) (suc i) v e = let r = one_apart f xs i v e in record {
  others = f x ++ r.others;
  before = behind (f x) (flat_map f xs) (f v) r.others r.before;
  after = λ w. behind (f x) (flat_map f (set xs i w)) (f w) r.others (r.after w);
}

-- the items of all passes are those of the passes at i and j and those of the others, also after the two changed
pub record TwoApart {X : Type 0} (f : Holding → List X) (views : List Holding) (i j : ℕ) (v w : Holding) : Type 0 where
  pub others : List X
  pub before : IsPermutation (flat_map f views) (f v ++ (f w ++ others))
  pub after : (m s : Holding) → IsPermutation (flat_map f (set (set views i m) j s)) (f m ++ (f s ++ others))

pub two_apart : {X : Type 0} (f : Holding → List X) (views : List Holding) (i j : ℕ) (v w : Holding) → get_elem? views i ≡ some v → get_elem? views j ≡ some w
    → j ≢ i → TwoApart f views i j v w
two_apart f [] i j v w e g apart = absurd (some-ne-none v (sym e))
two_apart f (x ∷ xs) zero zero v w e g apart = absurd (apart refl)
two_apart f (x ∷ xs) zero (suc j) v w e g apart = let r = one_apart f xs j w g in record {
  others = r.others;
  before = subst (λ (h : Holding). IsPermutation (f x ++ flat_map f xs) (f h ++ (f w ++ r.others))) (some-injective x v e)
      (IsPermutation-append_right (f x) (flat_map f xs) (f w ++ r.others) r.before);
  after = λ m s. IsPermutation-append_right (f m) (flat_map f (set xs j s)) (f s ++ r.others) (r.after s);
}
two_apart f (x ∷ xs) (suc i) zero v w e g apart = let r = one_apart f xs i v e in record {
  others = r.others;
  before = subst (λ (h : Holding). IsPermutation (f x ++ flat_map f xs) (f v ++ (f h ++ r.others))) (some-injective x w g)
      (behind (f x) (flat_map f xs) (f v) r.others r.before);
  after = λ m s. behind (f s) (flat_map f (set xs i m)) (f m) r.others (r.after m);
}
two_apart f (x ∷ xs) (suc i) (suc j) v w e g apart = let r = two_apart f xs i j v w e g (λ q. apart (ap suc q)) in record {
  others = f x ++ r.others;
  before = behind_two (f x) (flat_map f xs) (f v) (f w) r.others r.before;
  after = λ m s. behind_two (f x) (flat_map f (set (set xs i m) j s)) (f m) (f s) r.others (r.after m s);
}
