use Rattle.order_violation.proofs.Common.{FindsFirst, take}
use Rattle.order_violation.proofs.overtaking.first_overtaking.Given as goal

abbrev pub invariant-loop-place : goal.invariant-loop-place
invariant-loop-place l = FindsFirst l.table (take l.place l.candidates) l.first
