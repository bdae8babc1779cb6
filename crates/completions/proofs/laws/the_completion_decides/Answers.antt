use Rattle.completions.proofs.Sound.{complete_stays, may_be_pending}
use Rattle.completions.proofs.Within.{decides_within}
use Rattle.completions.proofs.laws.the_completion_decides.Goals as goal

pub returns-clause-deciding : goal.returns-clause-deciding
returns-clause-deciding c = decides_within

pub returns-clause-complete : goal.returns-clause-complete
returns-clause-complete c = complete_stays

pub returns-clause-history : goal.returns-clause-history
returns-clause-history c = may_be_pending
