use Rattle.history_text.proofs.Common.{sym}
use Rattle.history_text.proofs.FormLines.{said_spelled, value_spells}
use Rattle.history_text.proofs.value_line.U64Item.from_line.Goals as goal

pub returns-clause-spelled : goal.returns-clause-spelled
returns-clause-spelled c = rw c.at.ensures (said_spelled value_spells _ _ _ (sym c.in_ok-numbers.ensures.value))
