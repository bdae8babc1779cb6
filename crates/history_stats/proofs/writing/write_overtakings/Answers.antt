use Rattle.text_lines.proofs.Putting.{one_more_written, stops_in_next}
use Rattle.history_stats.specs.Text.{overtaking_line}
use Rattle.history_stats.proofs.writing.write_overtakings.Goals as goal

pub returns-in_err-write_piece : goal.returns-in_err-write_piece
returns-in_err-write_piece g c = stops_in_next _ _ _ overtaking_line _ c.from_residual.result c.args.overtakings.now c.loop-overtaking.overtaking-index _ _ _ _
    c.loop-overtaking-test.true c.loop-overtaking.invariant c.from_residual.ensures.1
    (rw (c.as_slice.ensures, c.push_overtaking.ensures) at c.in_err-write_piece.ensures)

pub loop-overtaking-preserved : goal.loop-overtaking-preserved
loop-overtaking-preserved g c = one_more_written _ _ _ overtaking_line c.args.overtakings.now c.loop-overtaking.overtaking-index _ _ _ _
    c.loop-overtaking-test.true c.loop-overtaking.invariant (rw (c.as_slice.ensures, c.push_overtaking.ensures) at c.in_ok-write_piece.ensures)
