use Rattle.svg_picture.proofs.Common.{◌++◌, ◌≡◌, take, each, page_on, row_parts, text_of}
use Rattle.svg_picture.proofs.rows.push_rows.Given as goal

abbrev pub invariant-loop-row : goal.invariant-loop-row
invariant-loop-row l =
    l.text.items ≡ l.fn.text.items ++ text_of (each (row_parts (page_on l.canvas)) (take l.row-index l.rows))
