use Rattle.history_text.proofs.Common.{sym, ◌∙◌}
use Rattle.history_text.proofs.PendingLines.{other_first_line}
use Rattle.history_text.proofs.pending_line.first_line_in.Goals as goal

pub returns-in-None : goal.returns-in-None
returns-in-None c = other_first_line c.args.bytes.now (rw c.as_slice.ensures at (sym c.eq.ensures ∙ c.if-eq.false))
    (rw c.as_slice-2.ensures at (sym c.eq-2.ensures ∙ c.if-eq-2.false)) c.in-None.ensures
