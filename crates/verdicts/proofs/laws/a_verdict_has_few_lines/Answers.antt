use Rattle.verdicts.proofs.NamedPlaces.{verdict_has_few_lines}
use Rattle.verdicts.proofs.laws.a_verdict_has_few_lines.Goals as goal

pub returns : goal.returns
returns c = verdict_has_few_lines
