use Rattle.svg_picture.proofs.Common.{length}
use Rattle.svg_picture.proofs.elements.+push_lines_at.Given as goal

abbrev pub decreases-push_lines_at : goal.decreases-push_lines_at
decreases-push_lines_at l = length l.words.now
