use Rattle.drawing.proofs.Common.{length}
use Rattle.drawing.proofs.bands.+push_cover_bands.Given as goal

abbrev pub decreases-push_cover_bands : goal.decreases-push_cover_bands
decreases-push_cover_bands l = length l.lines.now
