use Rattle.commands.proofs.Common.{◌≡◌, settings_of, stress}
use Rattle.commands.proofs.OneAnswer.{any_input}
use Rattle.commands.proofs.command.outcome_of.Goals as goal

pub returns-in-Stress-clause-stresses : goal.returns-in-Stress-clause-stresses
returns-in-Stress-clause-stresses g c = λ settings is.
    let named : stress (settings_of c.in-Stress.options) ≡ stress settings = rw c.in-Stress.is at is in
    let same : settings_of c.in-Stress.options ≡ settings = cc in rw (← same) c.stress.ensures.found

pub returns-in-Stress-clause-reads : goal.returns-in-Stress-clause-reads
returns-in-Stress-clause-reads g c = rw c.in-Stress.is (any_input _ _ (λ a. tt))
