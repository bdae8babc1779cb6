use Rattle.text_lines.proofs.Common.{or-true, ◌∙◌, arith, rules}
use Rattle.text_lines.proofs.Appending.{stops_at_zero, stops_at_failure, goes_on, no_refusal}
use Rattle.text_lines.proofs.Asking.{refused_last, took, written_more}
use Rattle.text_lines.proofs.Putting.{refused_text}
use Rattle.text_lines.proofs.sink.write_piece.Goals as goal

pub returns-in_err-count : goal.returns-in_err-count
returns-in_err-count g c = refused_text _ _ _ _ c.from_residual.result c.args.piece.now _ _ c.from_residual.ensures.1 (record {
  bytes = stops_at_failure c.args.piece.now c.loop-done.done _ _ _ c.loop-done.invariant.written.bytes c.in_err-count.ensures.bytes;
  asked = refused_last g.W.TextSink.transition _ _ _ c.loop-done.invariant.written.asked c.in_err-count.ensures.asked;
  refused = c.in_err-count.ensures.refused ∙ or-true _;
})

pub returns-in-0 : goal.returns-in-0
returns-in-0 g c = record {
  bytes = stops_at_zero c.args.piece.now _ c.loop-done.done c.in_ok-count.count _ _ _ (search rules) c.loop-done.invariant.written.bytes
      c.in_ok-count.ensures.bytes;
  asked = search rules;
  refused = search rules;
}

pub loop-done-preserved : goal.loop-done-preserved
loop-done-preserved g c = record {
  within = omega (arith, c.in_ok-count.ensures.bound);
  written = record {
    bytes = goes_on c.args.piece.now c.loop-done.done c.in_ok-count.count _ _ _ c.loop-done.invariant.written.bytes c.in_ok-count.ensures.bytes;
    asked = written_more g.W.TextSink.transition _ _ _ c.loop-done.invariant.written.asked
        (took g.W.TextSink.transition c.in_ok-count.count _ _ _ (search rules) c.in_ok-count.ensures.asked);
    refused = no_refusal _ _ _ c.in_ok-count.count _ c.in_ok-count.ensures.refused (search rules) c.loop-done.invariant.written.refused;
  };
}
