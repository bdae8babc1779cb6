use Rattle.empty_witness.proofs.Common.{arith, IsWithSpan, length, subst, ◌<◌}
use Rattle.empty_witness.proofs.ValueSpans.{are_spans, no_spans, with_value, without_value}
use Rattle.empty_witness.proofs.spans.spans_of.Goals.{else-stay, then-stay+in_ok-add_stay}
use Rattle.empty_witness.proofs.spans.spans_of.Goals as goal

pub loop-place-init : goal.loop-place-init
loop-place-init c = rw c.new-spans.ensures.items (no_spans c.values-values.result)

pub loop-place-preserved : goal.loop-place-preserved
loop-place-preserved c =
    let values = c.values-values.result in
    let spans = c.loop-place.spans.items in
    let within : c.loop-place.place < length values = omega (arith, c.loop-place-test.true, c.len-place-end.ensures) in
    elim c.if-stay.branch [
      | then-stay+in_ok-add_stay w ↦ rw w.spans-is (with_value values c.loop-place.place spans c.get.result c.loop-place.invariant within c.get.ensures
          w.add_stay.new.spans.items (subst (λ stay. IsWithSpan spans stay w.add_stay.new.spans.items) c.stay_of-stay.ensures w.in_ok-add_stay.ensures))
      | else-stay w ↦ rw w.spans-is (without_value values c.loop-place.place spans c.get.result c.loop-place.invariant within c.get.ensures
          (rw c.stay_of-stay.ensures at w.if-stay.false))
    ]

pub returns : goal.returns
returns c =
    are_spans _ c.values-values.result c.loop-place.place c.loop-place.spans.items c.values-values.ensures.clear c.values-values.ensures.values
    (omega (arith, c.loop-place-test.false, c.len-place-end.ensures)) c.loop-place.invariant
