use Rattle.verdicts.proofs.TrueClaims.{evidence_is_true}
use Rattle.verdicts.proofs.laws.evidence_is_a_true_claim.Goals as goal

pub returns : goal.returns
returns c = evidence_is_true
