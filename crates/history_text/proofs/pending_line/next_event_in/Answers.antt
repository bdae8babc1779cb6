use Rattle.history_text.proofs.Common.{arith, nat_tests}
use Rattle.history_text.proofs.PendingLines.{event_line_ok}
use Rattle.history_text.proofs.pending_line.next_event_in.Goals as goal

pub returns-clause-spelled : goal.returns-clause-spelled
returns-clause-spelled c =
    event_line_ok c.args.count c.args.bytes.now c.from_line.result (omega (arith, c.if-count-ge-MAX_EVENTS.false)) c.from_line.ensures.spelled
