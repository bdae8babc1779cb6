use Rattle.drawing.proofs.Common.{◌≡◌, take, band_words, with_words}
use Rattle.drawing.proofs.terminal.place_bands.Given as goal

abbrev pub invariant-loop-i : goal.invariant-loop-i
invariant-loop-i l = l.line.items ≡ with_words l.fn.line.items (band_words l.canvas.columns (take l.i l.bands) l.gap)
