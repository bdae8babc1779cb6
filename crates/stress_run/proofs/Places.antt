-- Elements at their places, in one list or in several of the same length.
use Rattle.std.proofs.Common.{◌≡◌, ℕ, zero, suc, ◌+◌, ◌<◌, List, [], ◌∷◌, length, map, get_or, refl, ap, sym, ◌∙◌, arith}
use Rattle.std.specs.List.{AllZip}
use Rattle.std.proofs.lemmas.List.{get_or-map}
use Rattle.std.proofs.lemmas.List.FromFn.{get_or-range_with_len}
use Rattle.tickets.specs.Views.{numbers_below}

-- the element of the list at this place
abbrev pub IsAt : {X : Type 0} → List X → ℕ → X → Type 0
IsAt {X} xs i x = (d : X) → get_or xs i d ≡ x

-- what holds place by place holds at a place
pub zip_at : {X Y : Type 0} (R : X → Y → Type 0) (xs : List X) (ys : List Y) (i : ℕ) → AllZip R xs ys → i < length xs
    → (x : X) × (y : Y) × IsAt xs i x × IsAt ys i y × R x y
zip_at R [] ys i z h = absurd (omega (arith, h))
zip_at R (x ∷ xs) [] i z h = absurd z
zip_at R (x ∷ xs) (y ∷ ys) zero z h = (x, y, (λ d. refl), (λ d. refl), z.0)
zip_at R (x ∷ xs) (y ∷ ys) (suc i) z h = zip_at R xs ys i z.1 (omega (arith, h))

-- a mapped list has the function's value of the element at a place
pub map_at : {X Y : Type 0} (f : X → Y) (xs : List X) (i : ℕ) (x : X) (m : Y) → i < length xs → IsAt xs i x → get_or (map f xs) i m ≡ f x
map_at f xs i x m h at = get_or-map f xs i x m h ∙ ap f (at x)

-- what holds at each place holds place by place
pub zip_of : {X Y : Type 0} (R : X → Y → Type 0) (xs : List X) (ys : List Y) → length ys ≡ length xs
    → ((i : ℕ) (x : X) (y : Y) → i < length xs → IsAt xs i x → IsAt ys i y → R x y) → AllZip R xs ys
zip_of R [] [] e k = tt
zip_of R [] (y ∷ ys) e k = absurd (omega (arith, e))
zip_of R (x ∷ xs) [] e k = absurd (omega (arith, e))
zip_of R (x ∷ xs) (y ∷ ys) e k = (
  k 0 x y (omega arith) (λ d. refl) (λ d. refl),
  zip_of R xs ys (omega (arith, e))
      (λ i a b h p q. k (suc i) a b (omega (arith, h)) p q),
)

-- numbered elements have the numbers of their places
pub numbered_at : {X : Type 0} (f : X → ℕ) (xs : List X) (n i : ℕ) (x : X) → map f xs ≡ numbers_below n → i < n → i < length xs → IsAt xs i x → f x ≡ i
numbered_at f xs n i x e h inside at =
    let z : 0 + i ≡ i = omega arith in
    sym (map_at f xs i x 0 inside at) ∙ ap (λ l. get_or l i 0) e ∙ get_or-range_with_len 0 n i 0 h ∙ z
