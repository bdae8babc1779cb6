use Rattle.history_text.proofs.Common.{sym}
use Rattle.history_text.proofs.FormLines.{said_spelled}
use Rattle.history_text.proofs.PendingLines.{open_spells}
use Rattle.history_text.proofs.pending_line.open_in.Goals as goal

pub returns-clause-spelled : goal.returns-clause-spelled
returns-clause-spelled c = rw c.at.ensures (said_spelled open_spells _ _ _ (sym c.in_ok-numbers.ensures.value))
