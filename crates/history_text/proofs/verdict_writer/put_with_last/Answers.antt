use Rattle.history_text.proofs.Common.{line_text, maybe_place, PutsText, subst}
use Rattle.history_text.proofs.WrittenClaims.{first_stops, last_text, others_then}
use Rattle.history_text.proofs.verdict_writer.put_with_last.Goals as goal

pub returns-in_err-put_each : goal.returns-in_err-put_each
returns-in_err-put_each g c = first_stops _ _ _ (line_text c.args.lines.now.initial.now c.args.lines.now.operations.now) _ c.from_residual.result c.args.first.now
    (maybe_place c.args.last) _ _ _ _ c.from_residual.ensures.1 c.in_err-put_each.ensures.text

pub returns : goal.returns
returns g c = others_then _ _ _ (line_text c.args.lines.now.initial.now c.args.lines.now.operations.now) c.put_each-2.result c.args.first.now
    (maybe_place c.args.last) _ _ _ _ _ _ c.in_ok-put_each.ensures.text
    (subst (λ t. PutsText g.W.TextSink.contents g.W.TextSink.has_refused g.W.TextSink.transition c.put_each.new.kept c.put_each-2.new.kept t
    c.put_each.new.writer c.put_each-2.new.writer c.put_each-2.result)
    (last_text (line_text c.args.lines.now.initial.now c.args.lines.now.operations.now) c.args.last c.as_slice.result.now c.as_slice.ensures) c.put_each-2.ensures.text)
