-- One more element of a loop.
use Rattle.drawing.proofs.Common.{[], ap, append-nil, append_assoc, arith, ClaimLine, drop, enumerate_from, nat_tests}
use Rattle.drawing.proofs.Common.{fold-append, fold_more, get_or, greatest_call, length, length-take-le, List, map-id}
use Rattle.drawing.proofs.Common.{map-range_with_len_more, max, Operation, point, range_with_len, refl, sym, take}
use Rattle.drawing.proofs.Common.{take_all, zero-add, ℕ, ◌++◌, ◌+◌, ◌-◌, ◌<◌, ◌∙◌, ◌∷◌, ◌≡◌, ◌≤◌, common_steps}
use Rattle.drawing.specs.Captions.{cover_caption, one_of_cover}
use Rattle.std.proofs.lemmas.List.{map-append, take_more}
use Rattle.std.proofs.lemmas.Grind.{flat_map-append, take_at_read}

-- ---- texts that grow by pieces

-- the first value of a cover, and the rest
pub cover_more : (number : ℕ) (lines : List ClaimLine) (d e : ClaimLine) → 2 ≤ length lines
    → one_of_cover number (get_or lines 0 d) (get_or lines 1 e) ++ cover_caption (number + 2)
    (take (length lines - 2) (drop 2 lines)) ≡ cover_caption number lines
cover_more number (x ∷ y ∷ rest) d e h = grind (arith, take_all)
cover_more number lines d e h = absurd (omega arith)

-- covers, and texts that grow by pieces
pub ruleset covers = (cover_more, append_assoc)

-- ---- one more element of a loop

-- one more number
pub range_more : (n : ℕ) → range_with_len 0 (n + 1) ≡ range_with_len 0 n ++ n ∷ []
range_more n = sym (map-id _) ∙ map-range_with_len_more (λ k. k) 0 n n (zero-add n) ∙ ap (λ (ks : List ℕ). ks ++ n ∷ []) (map-id _)

-- the point of the next operation of an order
pub point_more : (order : List Operation) (i : ℕ) (d : Operation) (greatest v : ℕ) → i < length order
    → greatest ≡ greatest_call (take i order)
    → v ≡ max greatest (get_or order i d).call → v ≡ point order i
point_more order i d greatest v within so_far this = grind (arith, fold_more)

enumerated-append : {X : Type 0} (a : ℕ) (xs : List X) (x : X)
    → enumerate_from a (xs ++ x ∷ []) ≡ enumerate_from a xs ++ (a + length xs, x) ∷ []
enumerated-append a [] x = let e : a ≡ a + 0 = omega arith in ap (λ (i : ℕ). (i, x) ∷ []) e
enumerated-append a (y ∷ ys) x = grind (arith, enumerated-append (a + 1) ys x)

-- one more element with its place
pub enumerated_more : {X : Type 0} (xs : List X) (i : ℕ) (d : X) → i < length xs
    → enumerate_from 0 (take (i + 1) xs) ≡ enumerate_from 0 (take i xs) ++ (i, get_or xs i d) ∷ []
enumerated_more xs i d within = grind (arith, nat_tests, common_steps, length-take-le, take_more, enumerated-append)

-- one more element, at the read that `grind` finds
pub enumerate_at_read : {X : Type 0} (xs : List X) (i : ℕ) (d : X) → i < length xs
    → (get_or xs i d ≡ get_or xs i d)
    × (enumerate_from 0 (take (i + 1) xs) ≡ enumerate_from 0 (take i xs) ++ (i, get_or xs i d) ∷ [])
enumerate_at_read xs i d within = (refl, enumerated_more xs i d within)

-- one more place of a loop
pub ruleset steps = (enumerate_at_read, take_at_read, range_more, append_assoc, append-nil, flat_map-append, map-append, fold-append)
