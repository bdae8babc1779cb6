-- A list filtered twice.
use Rattle.std.proofs.Common.{◌≡◌, Bool, true, false, cond, List, [], ◌∷◌, refl, ap}
use Rattle.std.specs.Prelude.{filter}

-- elements that pass one test and then another pass both
pub filtered_twice : {X : Type 0} (p q r : X → Bool) (xs : List X) → ((x : X) → r x ≡ cond (q x) (p x) false)
    → filter p (filter q xs) ≡ filter r xs
filtered_twice p q r [] both = refl
filtered_twice {X} p q r (x ∷ xs) both = pick (q x) (p x) (r x) (both x) refl (filtered_twice p q r xs both)
  where
    pick : (b c d : Bool) → d ≡ cond b c false → p x ≡ c → filter p (filter q xs) ≡ filter r xs
        → filter p (cond b (x ∷ filter q xs) (filter q xs)) ≡ cond d (x ∷ filter r xs) (filter r xs)
    pick true true d is test more = rw (is, test) (ap (λ ys. x ∷ ys) more)
    pick true false d is test more = rw (is, test) more
    pick false c d is test more = rw is more
