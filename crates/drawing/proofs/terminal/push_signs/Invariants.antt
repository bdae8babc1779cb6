use Rattle.drawing.proofs.Common.{◌++◌, ◌≡◌, flat_map, take, sign_line}
use Rattle.drawing.proofs.terminal.push_signs.Given as goal

abbrev pub invariant-loop-sign : goal.invariant-loop-sign
invariant-loop-sign l = l.text.items ≡ l.initial.text.items ++ flat_map sign_line (take l.sign-index l.sign-items)
