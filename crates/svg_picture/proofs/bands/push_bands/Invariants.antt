use Rattle.svg_picture.proofs.Common.{◌++◌, ◌≡◌, enumerate_from, take, each, band_at, page_on, text_of}
use Rattle.svg_picture.proofs.bands.push_bands.Given as goal

abbrev pub invariant-loop-i : goal.invariant-loop-i
invariant-loop-i l =
    l.text.items ≡ l.fn.text.items ++ text_of (each (band_at (page_on l.canvas)) (enumerate_from 0 (take l.i l.bands)))
