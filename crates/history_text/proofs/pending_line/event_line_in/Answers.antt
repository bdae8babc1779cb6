use Rattle.history_text.proofs.Common.{sym}
use Rattle.history_text.proofs.PendingLines.{open_line_ok}
use Rattle.history_text.proofs.pending_line.event_line_in.Goals as goal

pub returns-then-counts_open-clause-spelled : goal.returns-then-counts_open-clause-spelled
returns-then-counts_open-clause-spelled c =
    let spelled = c.in_ok-calls.ensures.spelled in
    (open_line_ok c.args.bytes.now c.in_ok-calls.calls spelled, record { of_kind = sym c.if-is_pending.true; few = spelled.line })
