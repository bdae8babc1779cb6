-- Texts that grow by pieces.
use Rattle.svg_picture.proofs.Common.{[], ◌++◌, ◌∷◌, ◌≡◌, append-nil, append_assoc, concat, Err, List, Ok, OnOk, ℕ}
use Rattle.std.specs.declared.result.Result.{Result}

-- a tag, its content, and another tag
pub around : {A T E : Type 0} (r : Result T E) (old one two last a b c : List A) → one ≡ old ++ a → two ≡ one ++ b
    → OnOk r (last ≡ two ++ c)
    → OnOk r (last ≡ old ++ (a ++ (b ++ c)))
around (Ok x) old one two last a b c h k l = rw (l, k, h) (simp append_assoc)
around (Err e) old one two last a b c h k l = tt

-- pieces in turn
pub ruleset pieces = (append_assoc, append-nil)

-- a first piece, and three more
pub four_pieces : (a b c d one two three four : List ℕ) → one ≡ a → two ≡ one ++ b → three ≡ two ++ c
    → four ≡ three ++ d
    → four ≡ concat (a ∷ b ∷ c ∷ d ∷ [])
four_pieces a b c d one two three four h k l m = rw (m, l, k, h) (simp (append_assoc, append-nil))
