use Rattle.value_match.proofs.Common.{[], ap, arith, get_or_read, IsDequeuePlace, map-append, None, Pair, refl}
use Rattle.value_match.proofs.Common.{slice_get_read, Some, subst, sym, value_at, ◌∙◌, ◌∷◌}
use Rattle.value_match.proofs.ByKind.{pair_dequeue, pair_enqueue, sorted_enqueue, sorted_other}
use Rattle.value_match.proofs.values.by_kind.Goals.{in-Dequeue, in-DequeueEmpty+in_ok-push-in-DequeueEmpty, in-Enqueue}
use Rattle.value_match.proofs.values.by_kind.Goals.{in-EnqueueFailed+in_ok-push-in-EnqueueFailed}
use Rattle.value_match.proofs.values.by_kind.Goals as goal

pub loop-place-preserved : goal.loop-place-preserved
loop-place-preserved c =
    let here = slice_get_read _ _ _ _ refl c.loop-place-test.true c.index-operations-place.is ∙ ap Some (sym c.unpack-kind.ensures.operation) in
    let known = c.loop-place.invariant.0 in
    let pushed = c.push_accepted.ensures in
    let pair : Pair = record { enqueue = c.loop-place.place; dequeue = c.index-dequeues-place.result } in (
      elim c.match-kind.branch [
        | in-Enqueue w ↦
            let from = subst (IsDequeuePlace c.args.operations.now _) (sym
            (get_or_read c.args.dequeues.now _ _ (omega (arith, c.loop-place-test.true, c.requires.dequeues.one_each)) c.index-dequeues-place.is
            None)) (c.requires.dequeues.each _ _ _ here w.in-Enqueue.is) in
            rw (w.empties-is, w.failed-is, pushed.accepted _ w.in-Enqueue.is, map-append (value_at c.args.operations.now) c.loop-place.values.items (pair ∷ []))
            (sorted_enqueue _ _ _ _ _ _ here known _ (value_at c.args.operations.now pair) _ w.in-Enqueue.is
            (pair_enqueue c.args.operations.now _ _ pair refl here) (pair_dequeue c.args.operations.now _ _ pair refl from) (refl, refl)
            c.requires.clear from)
        | in-DequeueEmpty+in_ok-push-in-DequeueEmpty w ↦
            rw (w.empties-is, w.failed-is, w.in_ok-push-in-DequeueEmpty.ensures.items, w.new.ensures, pushed.other (λ v same. let other = w.in-DequeueEmpty.is in cc))
            (rw w.in-DequeueEmpty.is at (sorted_other _ _ _ _ _ _ here known (rw w.in-DequeueEmpty.is refl)))
        | in-EnqueueFailed+in_ok-push-in-EnqueueFailed w ↦
            rw (
              w.empties-is,
              w.failed-is,
              w.in_ok-push-in-EnqueueFailed.ensures.items,
              w.new-in-EnqueueFailed.ensures,
              pushed.other (λ v same. let other = w.in-EnqueueFailed.is in cc),
            )
            (rw w.in-EnqueueFailed.is at (sorted_other _ _ _ _ _ _ here known (rw w.in-EnqueueFailed.is refl)))
        | in-Dequeue w ↦ rw (w.empties-is, w.failed-is, pushed.other (λ v same. let other = w.in-Dequeue.is in cc))
            (rw w.in-Dequeue.is at (sorted_other _ _ _ _ _ _ here known (rw w.in-Dequeue.is refl)))
      ],
      omega (arith, pushed.len, c.loop-place.invariant.1),
      rw pushed.capacity c.loop-place.invariant.2,
    )
