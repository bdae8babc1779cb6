use Rattle.drawing.proofs.Common.{◌++◌, ◌≡◌, enumerate_from, flat_map, take, head_line}
use Rattle.drawing.proofs.terminal.push_heads.Given as goal

abbrev pub invariant-loop-i : goal.invariant-loop-i
invariant-loop-i l = l.text.items ≡ l.initial.text.items ++ flat_map (head_line l.canvas.columns) (enumerate_from 0 (take l.i l.band-items))
