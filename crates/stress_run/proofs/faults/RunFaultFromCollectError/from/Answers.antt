use Rattle.std.proofs.Common.{refl}
use Rattle.stress_run.proofs.faults.RunFaultFromCollectError.from.Goals as goal

pub returns-in-Memory : goal.returns-in-Memory
returns-in-Memory c = rw c.in-Memory.is refl
