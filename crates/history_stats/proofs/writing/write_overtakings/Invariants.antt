use Rattle.std.proofs.Common.{take}
use Rattle.text_lines.specs.Writing.{TakesAll}
use Rattle.history_stats.specs.Text.{overtakings_text}
use Rattle.history_stats.proofs.writing.write_overtakings.Given as goal

abbrev pub invariant-loop-overtaking : goal.invariant-loop-overtaking
invariant-loop-overtaking g l = TakesAll g.W.TextSink.contents g.W.TextSink.has_refused g.W.TextSink.transition
    (overtakings_text (take l.overtaking-index l.overtakings)) l.fn.writer l.writer
