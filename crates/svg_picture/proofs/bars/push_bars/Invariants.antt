use Rattle.svg_picture.proofs.Common.{◌++◌, ◌≡◌, take, bar, each, page_on, text_of}
use Rattle.svg_picture.proofs.bars.push_bars.Given as goal

abbrev pub invariant-loop-operation : goal.invariant-loop-operation
invariant-loop-operation l =
    l.text.items ≡ l.fn.text.items ++ text_of (each (bar (page_on l.canvas)) (take l.operation-index l.operations))
