use Rattle.verdicts.proofs.OneVerdict.{verdict_is_one}
use Rattle.verdicts.proofs.laws.one_verdict.Goals as goal

pub returns : goal.returns
returns c = verdict_is_one
