use Rattle.verdicts.proofs.TrueClaims.{matching_is_clear, refused_is_decided}
use Rattle.verdicts.proofs.decision.decide_by.Goals as goal

pub returns-in-Fresh : goal.returns-in-Fresh
returns-in-Fresh g c =
    refused_is_decided _ _ c.in_ok-matching.field-0 c.in-Fresh.violation c.in_ok-matching.ensures.complete c.in_ok-matching.ensures.matched c.in-Fresh.is

pub decide_matching-requires-clause-clear : goal.decide_matching-requires-clause-clear
decide_matching-requires-clause-clear g c =
    matching_is_clear _ _ c.in_ok-matching.field-0 c.in-Clear.matching c.in_ok-matching.ensures.matched c.in-Clear.is
