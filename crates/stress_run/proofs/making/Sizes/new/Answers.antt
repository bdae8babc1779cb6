use Rattle.std.proofs.Common.{rules}
use Rattle.std.proofs.lemmas.Bool.{false≢true}
use Rattle.stress_run.proofs.making.Sizes.new.Goals as goal

pub returns-else-contains-clause-limits : goal.returns-else-contains-clause-limits
returns-else-contains-clause-limits c = (λ e. absurd (false≢true e), λ within. search rules)
