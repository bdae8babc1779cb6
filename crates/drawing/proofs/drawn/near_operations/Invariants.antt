use Rattle.drawing.proofs.Common.{◌≡◌, ◌++◌, filter, is_near_any, operations_in}
use Rattle.drawing.proofs.drawn.near_operations.Given as goal

abbrev pub invariant-loop-operation : goal.invariant-loop-operation
invariant-loop-operation l =
    l.near.items ++ filter (is_near_any l.events l.around (operations_in l.lines)) l.operation-iterator
    ≡ filter (is_near_any l.events l.around (operations_in l.lines)) l.operations
