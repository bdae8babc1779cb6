-- Lists made by number.
use Rattle.std.proofs.Common.{◌≡◌, ℕ, ◌+◌, List, [], ◌∷◌, ◌++◌, map, ap, sym, ◌∙◌, arith}
use Rattle.std.specs.List.{range_with_len}
use Rattle.std.proofs.lemmas.List.{map_push}
use Rattle.std.proofs.lemmas.List.FromFn.{map-range_with_len_more}

-- one more element
pub one_more : {X Y : Type 0} (f : X → Y) (g : ℕ → Y) (xs ys : List X) (x : X) (n : ℕ) → ys ≡ xs ++ x ∷ [] → f x ≡ g n
    → map f xs ≡ map g (range_with_len 0 n) → map f ys ≡ map g (range_with_len 0 (n + 1))
one_more {X} {Y} f g xs ys x n is same before =
    ap (map f) is ∙ map_push f xs x ∙ ap (λ (zs : List Y). zs ++ f x ∷ []) before ∙ ap (λ (y : Y). map g (range_with_len 0 n) ++ y ∷ []) same
    ∙ sym (map-range_with_len_more g 0 n n (omega arith))
