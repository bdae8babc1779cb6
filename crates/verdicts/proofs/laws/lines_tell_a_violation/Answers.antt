use Rattle.verdicts.proofs.ClaimedLines.{lines_tell_violation}
use Rattle.verdicts.proofs.laws.lines_tell_a_violation.Goals as goal

pub returns : goal.returns
returns c = lines_tell_violation
