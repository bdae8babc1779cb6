use Rattle.history_text.proofs.Common.{lines_text, one_more_put, places_of_step, stops_at_next}
use Rattle.history_text.proofs.verdict_writer.put_cover.Goals as goal

pub returns-in_err-put_with_last : goal.returns-in_err-put_with_last
returns-in_err-put_with_last g c =
    stops_at_next _ _ _ (λ step. lines_text c.args.lines.now.initial.now c.args.lines.now.operations.now (places_of_step step)) _ c.from_residual.result
    c.args.steps.now c.loop-step.step-index c.step-item.result _ _ _ _ _ _ c.loop-step-test.true c.loop-step.invariant c.from_residual.ensures.1
    (rw (c.from.ensures, c.step-item.is) at c.in_err-put_with_last.ensures)

pub loop-step-preserved : goal.loop-step-preserved
loop-step-preserved g c =
    one_more_put _ _ _ (λ step. lines_text c.args.lines.now.initial.now c.args.lines.now.operations.now (places_of_step step)) c.args.steps.now
    c.loop-step.step-index c.step-item.result _ _ _ _ _ _ c.loop-step-test.true c.loop-step.invariant
    (rw (c.from.ensures, c.step-item.is) at c.in_ok-put_with_last.ensures)
