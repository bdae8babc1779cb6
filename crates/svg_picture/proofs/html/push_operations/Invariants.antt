use Rattle.svg_picture.proofs.Common.{◌++◌, ◌≡◌, flat_map}
use Rattle.svg_picture.specs.Html.{operation_line}
use Rattle.svg_picture.proofs.html.push_operations.Given as goal

abbrev pub invariant-loop-operation : goal.invariant-loop-operation
invariant-loop-operation l =
    l.text.items ++ flat_map (operation_line l.added_from) l.operation-iterator
    ≡ l.fn.text.items ++ flat_map (operation_line l.added_from) l.operations
