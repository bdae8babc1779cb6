use Rattle.order_violation.proofs.Common.{arith, dequeue_of, FindsLongest, IsMaybeOperation, IsNamed}
use Rattle.order_violation.proofs.Common.{length, Overtakes, refl, subst, sym, ◌<◌}
use Rattle.value_match.proofs.Fronts.{longest_changes}
use Rattle.order_violation.proofs.Chosen.{called_in_order, longest_stays}
use Rattle.order_violation.proofs.search.longest_among.Goals.{else-overtakes, then-overtakes}
use Rattle.order_violation.proofs.search.longest_among.Goals as goal

pub loop-place-preserved : goal.loop-place-preserved
loop-place-preserved c =
    let b = c.args.b.now in
    let values = c.values-values.result in
    let a = c.get-a.result in
    let within : c.loop-place.place < length values = omega (arith, c.loop-place-test.true, c.len-place-end.ensures) in
    elim c.if-overtakes.branch [
      | then-overtakes w ↦
          subst (FindsLongest (Overtakes b) _) (sym w.longest-is) (longest_changes (Overtakes b) values _ a w.longer_with.result c.loop-place.longest
          within c.get-a.ensures c.loop-place.invariant (w.if-overtakes.ensures.0 refl) w.longer_with.ensures)
      | else-overtakes w ↦
          subst (FindsLongest (Overtakes b) _) (sym w.longest-is) (longest_stays (Overtakes b) values _ a c.loop-place.longest
          within c.get-a.ensures c.loop-place.invariant (λ passes. let yes = w.if-overtakes.ensures.1 passes in cc))
    ]

-- a value that is dequeued first, by its place, isn't overtaken
pub loop-place-preserved-in-loop-place : goal.loop-place-preserved-in-loop-place
loop-place-preserved-in-loop-place c =
    let values = c.values-values.result in
    let within : c.loop-place.place < length values = omega (arith, c.loop-place-test.true, c.len-place-end.ensures) in
    let history = c.args.matching.now in
    let x_named = subst (λ m. IsNamed history.initial history.operations m.source m.dequeue m.life) (sym c.get.ensures)
    (c.values-values.ensures.values.named c.loop-place.place c.get.result within) in
    let first = called_in_order history c.values-values.ensures.clear _ _ (dequeue_of c.get.result.life) (dequeue_of c.args.b.now)
    (omega (arith, c.number.ensures, c.number-in-loop-place.ensures, c.if-number.true))
    (subst (λ p. IsMaybeOperation history.operations p (dequeue_of c.get.result.life)) c.in-Some.is x_named.1)
    (subst (λ p. IsMaybeOperation history.operations p (dequeue_of c.args.b.now)) c.in-Some-dequeue.is c.requires) in
    longest_stays (Overtakes c.args.b.now) values _ c.get.result c.loop-place.longest within c.get.ensures c.loop-place.invariant
    (λ over. absurd (omega (arith, first, over.1)))
