use Rattle.commands.proofs.Common.{rejection_lines, take}
use Rattle.text_lines.specs.Writing.{TakesAll}
use Rattle.commands.proofs.show.write_rejections.Given as goal

abbrev pub invariant-loop-rejection : goal.invariant-loop-rejection
invariant-loop-rejection g l = TakesAll g.W.TextSink.contents g.W.TextSink.has_refused g.W.TextSink.transition
    (rejection_lines (take l.rejection-index l.rejections)) l.fn.writer l.writer
