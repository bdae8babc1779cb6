use Rattle.svg_picture.proofs.Common.{◌++◌, ◌≡◌, take, plain_words}
use Rattle.svg_picture.proofs.markup.push_plain.Given as goal

abbrev pub invariant-loop-b : goal.invariant-loop-b
invariant-loop-b l = l.text.items ≡ l.fn.text.items ++ plain_words (take l.b-index l.words)
