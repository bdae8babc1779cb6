use Rattle.verdicts.proofs.Common.{take, ◌++◌, ◌≡◌}
use Rattle.verdicts.proofs.claimed_order.are_same.Given as goal

abbrev pub invariant-loop-line : goal.invariant-loop-line
invariant-loop-line l = take l.line-index l.lines ++ l.others ≡ l.operations
