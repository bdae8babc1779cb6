-- The text of several contents, one for each element.
use Rattle.svg_picture.proofs.Common.{[], ◌++◌, ◌∙◌, ◌∷◌, ◌≡◌, ap, append-nil, append_assoc, flat_map, List, map, sym}
use Rattle.svg_picture.proofs.Common.{ℕ}
use Rattle.svg_picture.proofs.Common.{Content, each, group, text_of}
use Rattle.std.proofs.lemmas.List.{map-append}
use Rattle.std.proofs.lemmas.Grind.{flat_map-append, take_at_read}
use Rattle.drawing.proofs.Loops.{enumerate_at_read}

-- one more content
pub group_more : (cs : List Content) (a : Content) → text_of (group (cs ++ a ∷ [])) ≡ text_of (group cs) ++ text_of a
group_more [] a = append-nil (text_of a)
group_more (b ∷ cs) a = ap (λ (t : List ℕ). text_of b ++ t) (group_more cs a) ∙ sym (append_assoc (text_of b) (text_of (group cs)) (text_of a))

-- one more element of a loop, with its place
pub ruleset steps = (enumerate_at_read, take_at_read, group_more, append_assoc, append-nil, flat_map-append, map-append)
