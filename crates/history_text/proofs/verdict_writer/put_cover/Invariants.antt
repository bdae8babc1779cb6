use Rattle.history_text.proofs.Common.{flat_map, take, lines_text, places_of_step, TakesSome}
use Rattle.history_text.proofs.verdict_writer.put_cover.Given as goal

abbrev pub invariant-loop-step : goal.invariant-loop-step
invariant-loop-step g l = TakesSome g.W.TextSink.contents g.W.TextSink.has_refused g.W.TextSink.transition l.fn.kept l.kept
    (flat_map (λ step. lines_text l.lines.initial.now l.lines.operations.now (places_of_step step)) (take l.step-index l.steps)) l.fn.writer l.writer
