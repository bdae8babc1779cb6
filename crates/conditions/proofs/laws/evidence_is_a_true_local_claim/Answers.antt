use Rattle.conditions.proofs.ClaimLaws.{local_evidence_is_a_true_claim, refuted_is_refuted_in_the_whole}
use Rattle.conditions.proofs.ClaimLaws.{weak_evidence_is_a_true_claim}
use Rattle.conditions.proofs.laws.evidence_is_a_true_local_claim.Goals as goal

pub returns-clause-local : goal.returns-clause-local
returns-clause-local c = local_evidence_is_a_true_claim

pub returns-clause-weak : goal.returns-clause-weak
returns-clause-weak c = weak_evidence_is_a_true_claim

pub returns-clause-refuted : goal.returns-clause-refuted
returns-clause-refuted c = refuted_is_refuted_in_the_whole
