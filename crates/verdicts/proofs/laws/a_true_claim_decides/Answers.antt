use Rattle.verdicts.proofs.TrueClaims.{true_claim_decides}
use Rattle.verdicts.proofs.laws.a_true_claim_decides.Goals as goal

pub returns : goal.returns
returns c = true_claim_decides
