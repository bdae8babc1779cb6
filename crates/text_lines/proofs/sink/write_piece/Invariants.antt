use Rattle.text_lines.proofs.Common.{◌-◌, ◌≤◌, length, take, TakesAll}
use Rattle.text_lines.proofs.sink.write_piece.Given as goal

abbrev pub invariant-loop-done : goal.invariant-loop-done
invariant-loop-done g l = record {
  within : l.done ≤ length l.piece;
  written : TakesAll g.W.TextSink.contents g.W.TextSink.has_refused g.W.TextSink.transition
      (take l.done l.piece) l.fn.writer l.writer;
}

abbrev pub decreases-loop-done : goal.decreases-loop-done
decreases-loop-done g l = length l.initial.piece - l.done
