use Rattle.commands.proofs.Common.{one_more_written, rejection_line, stops_in_next}
use Rattle.commands.proofs.show.write_rejections.Goals as goal

pub returns-in_err-write_piece : goal.returns-in_err-write_piece
returns-in_err-write_piece g c = stops_in_next _ _ _ rejection_line _ c.from_residual.result c.args.rejections.now c.loop-rejection.rejection-index _ _ _ _
    c.loop-rejection-test.true c.loop-rejection.invariant c.from_residual.ensures.1
    (rw (c.as_slice.ensures, c.push_rejection.ensures) at c.in_err-write_piece.ensures)

pub loop-rejection-preserved : goal.loop-rejection-preserved
loop-rejection-preserved g c = one_more_written _ _ _ rejection_line c.args.rejections.now c.loop-rejection.rejection-index _ _ _ _
    c.loop-rejection-test.true c.loop-rejection.invariant (rw (c.as_slice.ensures, c.push_rejection.ensures) at c.in_ok-write_piece.ensures)
