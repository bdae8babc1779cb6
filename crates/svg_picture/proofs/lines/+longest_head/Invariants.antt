use Rattle.svg_picture.proofs.Common.{length}
use Rattle.svg_picture.proofs.lines.+longest_head.Given as goal

abbrev pub decreases-longest_head : goal.decreases-longest_head
decreases-longest_head l = length l.bands.now
