use Rattle.conditions.proofs.Minimal.{both_are_weakest}
use Rattle.conditions.proofs.Weaker.{conditions_are_weaker, selections_stay_linearizable}
use Rattle.conditions.proofs.laws.conditions_are_weaker.Goals as goal

pub returns-clause-selections : goal.returns-clause-selections
returns-clause-selections c = selections_stay_linearizable

pub returns-clause-conditions : goal.returns-clause-conditions
returns-clause-conditions c = conditions_are_weaker

pub returns-clause-both : goal.returns-clause-both
returns-clause-both c = both_are_weakest
