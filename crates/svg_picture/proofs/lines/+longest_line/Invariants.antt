use Rattle.svg_picture.proofs.Common.{length}
use Rattle.svg_picture.proofs.lines.+longest_line.Given as goal

abbrev pub decreases-longest_line : goal.decreases-longest_line
decreases-longest_line l = length l.text.now
