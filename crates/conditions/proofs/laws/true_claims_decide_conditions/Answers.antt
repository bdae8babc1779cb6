use Rattle.conditions.proofs.ClaimLaws.{true_local_claim_decides, true_weak_claim_decides}
use Rattle.conditions.proofs.laws.true_claims_decide_conditions.Goals as goal

pub returns-clause-local : goal.returns-clause-local
returns-clause-local c = true_local_claim_decides

pub returns-clause-weak : goal.returns-clause-weak
returns-clause-weak c = true_weak_claim_decides
