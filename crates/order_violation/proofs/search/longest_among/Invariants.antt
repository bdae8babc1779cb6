use Rattle.order_violation.proofs.Common.{FindsLongest, Overtakes, take}
use Rattle.order_violation.proofs.search.longest_among.Given as goal

abbrev pub invariant-loop-place : goal.invariant-loop-place
invariant-loop-place l = FindsLongest (Overtakes l.b) (take l.place l.values) l.longest
