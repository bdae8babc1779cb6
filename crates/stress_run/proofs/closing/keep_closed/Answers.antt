use Rattle.std.proofs.Common.{rules, arith}
use Rattle.std.proofs.lemmas.Grind.{common_steps}
use Rattle.stress_run.proofs.closing.keep_closed.Goals as goal

pub returns-clause-stands : goal.returns-clause-stands
returns-clause-stands c = search rules

pub returns-clause-left : goal.returns-clause-left
returns-clause-left c = search rules

pub returns-clause-drawn : goal.returns-clause-drawn
returns-clause-drawn c = grind (arith, common_steps)
