use Rattle.svg_picture.proofs.Common.{◌<◌, ◌≡◌, get_or, ℕ}
use Rattle.svg_picture.proofs.lines.split_line.Given as goal

abbrev pub invariant-loop-i : goal.invariant-loop-i
invariant-loop-i l = (k : ℕ) → k < l.i → get_or l.bytes k 0 ≡ 10 → ⊥
