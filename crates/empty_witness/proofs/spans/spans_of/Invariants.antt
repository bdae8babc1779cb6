use Rattle.empty_witness.proofs.ValueSpans.{AreSpansSoFar}
use Rattle.empty_witness.proofs.spans.spans_of.Given as goal

abbrev pub invariant-loop-place : goal.invariant-loop-place
invariant-loop-place l = AreSpansSoFar l.values l.place l.spans.items
