use Rattle.std.proofs.Common.{rules}
use Rattle.stress_run.proofs.closing.close_one.Goals as goal

pub returns-clause-stall : goal.returns-clause-stall
returns-clause-stall c = search rules

pub returns-clause-stands : goal.returns-clause-stands
returns-clause-stands c = search rules

pub returns-clause-running : goal.returns-clause-running
returns-clause-running c = search rules
