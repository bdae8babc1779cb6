use Rattle.history_text.proofs.Common.{sym}
use Rattle.history_text.proofs.FormLines.{initial_spells, said_spelled}
use Rattle.history_text.proofs.operation_line.ClaimLineItem.from_line.Goals as goal

pub returns-then-is_initial-clause-spelled : goal.returns-then-is_initial-clause-spelled
returns-then-is_initial-clause-spelled c = rw c.at.ensures (said_spelled initial_spells _ _ _ (sym c.in_ok-numbers.ensures.value))
