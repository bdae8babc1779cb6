use Rattle.drawing.proofs.Common.{length}
use Rattle.drawing.proofs.captions.+push_cover_caption.Given as goal

abbrev pub decreases-push_cover_caption : goal.decreases-push_cover_caption
decreases-push_cover_caption l = length l.lines.now
