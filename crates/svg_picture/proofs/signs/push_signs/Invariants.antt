use Rattle.svg_picture.proofs.Common.{◌++◌, ◌≡◌, enumerate_from, take, each, sign_at, text_of}
use Rattle.svg_picture.proofs.signs.push_signs.Given as goal

abbrev pub invariant-loop-i : goal.invariant-loop-i
invariant-loop-i l =
    l.text.items ≡ l.initial.text.items ++ text_of (each (sign_at l.canvas.measures) (enumerate_from 0 (take l.i l.sign-items)))
