use Rattle.conditions.proofs.ClaimLaws.{first_refuted_is_one, local_verdict_is_one, weak_verdict_is_one}
use Rattle.conditions.proofs.laws.one_verdict_under_a_condition.Goals as goal

pub returns-clause-local : goal.returns-clause-local
returns-clause-local c = local_verdict_is_one

pub returns-clause-weak : goal.returns-clause-weak
returns-clause-weak c = weak_verdict_is_one

pub returns-clause-refuted : goal.returns-clause-refuted
returns-clause-refuted c = first_refuted_is_one
