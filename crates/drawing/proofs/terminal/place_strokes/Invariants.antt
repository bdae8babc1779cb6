use Rattle.drawing.proofs.Common.{◌≡◌, strokes, with_words}
use Rattle.drawing.proofs.terminal.place_strokes.Given as goal

abbrev pub invariant-loop-i : goal.invariant-loop-i
invariant-loop-i l = l.line.items ≡ with_words l.fn.line.items (strokes l.canvas.columns l.i)
