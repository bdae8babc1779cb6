use Rattle.history_text.proofs.Common.{sym}
use Rattle.history_text.proofs.FormLines.{said_spelled, setting_spells}
use Rattle.history_text.proofs.step_line.Tuple2UsizeUsizeItem.from_line.Goals as goal

pub returns-clause-spelled : goal.returns-clause-spelled
returns-clause-spelled c = rw (c.at.ensures, c.at-2.ensures) (said_spelled setting_spells _ _ _ (sym c.in_ok-numbers.ensures.value))
