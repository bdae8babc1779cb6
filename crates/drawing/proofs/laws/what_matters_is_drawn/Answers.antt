use Rattle.drawing.proofs.Nearness as near
use Rattle.drawing.proofs.laws.what_matters_is_drawn.Goals as goal

pub returns : goal.returns
returns c = record { overlapping = near.overlapping_are_drawn; none_else = near.no_others_are_drawn; listed = near.lines_are_drawn }
