use Rattle.std.proofs.Common.{refl, inr, arith}
use Rattle.stress_run.proofs.faults.earlier.Goals as goal

pub returns-then-is_not_after-clause-first : goal.returns-then-is_not_after-clause-first
returns-then-is_not_after-clause-first c = inr (refl, omega arith)

pub returns-then-is_not_after-clause-second : goal.returns-then-is_not_after-clause-second
returns-then-is_not_after-clause-second c = c.is_not_after.ensures.yes c.if-is_not_after.true

pub returns-else-is_not_after-clause-first : goal.returns-else-is_not_after-clause-first
returns-else-is_not_after-clause-first c = c.is_not_after.ensures.no c.if-is_not_after.false

pub returns-else-is_not_after-clause-second : goal.returns-else-is_not_after-clause-second
returns-else-is_not_after-clause-second c = inr (refl, omega arith)
