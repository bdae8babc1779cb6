use Rattle.svg_picture.proofs.Common.{initial_words}
use Rattle.svg_picture.proofs.Chains.{four_pieces}
use Rattle.svg_picture.proofs.rows.initial_words.Goals as goal

pub returns : goal.returns
unfolding initial_words
returns c =
    four_pieces _ _ _ _ _ _ _ _ c.in_ok-words.ensures.items (rw c.from.ensures at c.in_ok-push_number.ensures)
    c.in_ok-extend_from_slice.ensures.items c.in_ok-push_number_words.ensures
