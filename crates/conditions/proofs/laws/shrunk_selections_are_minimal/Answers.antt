use Rattle.conditions.proofs.Minimal.{stays_locally_minimal, stays_weakly_minimal}
use Rattle.conditions.proofs.laws.shrunk_selections_are_minimal.Goals as goal

pub returns-clause-weak : goal.returns-clause-weak
returns-clause-weak c = stays_weakly_minimal

pub returns-clause-local : goal.returns-clause-local
returns-clause-local c = stays_locally_minimal
