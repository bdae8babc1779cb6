use Rattle.history_text.proofs.Common.{sym}
use Rattle.history_text.proofs.FormLines.{count_spells, said_spelled}
use Rattle.history_text.proofs.value_line.UsizeItem.from_line.Goals as goal

pub returns-clause-spelled : goal.returns-clause-spelled
returns-clause-spelled c = rw c.at.ensures (said_spelled count_spells _ _ _ (sym c.in_ok-numbers.ensures.value))
