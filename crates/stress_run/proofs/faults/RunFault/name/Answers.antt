use Rattle.std.proofs.Common.{ap, sym}
use Rattle.stress_run.specs.Faults.{name_of}
use Rattle.stress_run.proofs.faults.RunFault.name.Goals as goal

pub returns-in-Stalled-clause-name : goal.returns-in-Stalled-clause-name
returns-in-Stalled-clause-name c = sym (ap name_of c.in-Stalled.is)
