use Rattle.commands.proofs.Common.{inr}
use Rattle.commands.proofs.stress.stress.Goals as goal

pub returns-clause-found : goal.returns-clause-found
returns-clause-found g c = inr (_, c.in-Some.ensures.found, c.stress_shelved.ensures.found)
