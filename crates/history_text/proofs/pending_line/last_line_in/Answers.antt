use Rattle.history_text.proofs.Common.{sym, take_rest, ◌∙◌}
use Rattle.history_text.proofs.PendingLines.{end_line_ok}
use Rattle.history_text.proofs.pending_line.last_line_in.Goals as goal

pub returns-clause-spelled : goal.returns-clause-spelled
returns-clause-spelled c = end_line_ok c.args.number c.args.count c.args.bytes.now _ c.end_in.result c.ranges.count.fits
    (sym c.starts_with.ensures.value ∙ c.if-not-starts_with.false) (take_rest c.args.bytes.now 4) c.end_in.ensures.value
