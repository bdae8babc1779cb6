use Rattle.linearizer.proofs.Common.{ap, arith, greatest_leaves_from, inl, inr, IsDequeueFrom, IsMergedUpTo}
use Rattle.linearizer.proofs.Common.{IsValueFrom, leaves_from, length, max, NoneBelow}
use Rattle.linearizer.proofs.Common.{refl, slice_get_read, slice_get_within, Some, StandsBefore, subst, sym, take}
use Rattle.linearizer.proofs.Common.{ℕ, ◌+◌, ◌<◌, ◌∙◌, ◌≡◌, ordered_lives}
use Rattle.linearizer.proofs.Merging.{below_limit, below_next, dequeue_added, next_dequeue, passed, IsTurn}
use Rattle.linearizer.proofs.Merging.{dequeue_stands, left_more, turn_alone, turn_is, turn_with_dequeue, turn_within}
use Rattle.linearizer.proofs.Elements.{lives_long}
use Rattle.linearizer.proofs.placing.place_dequeues.Goals as goal
use Rattle.linearizer.proofs.placing.place_dequeues.Goals.{After-max-left}
use Rattle.linearizer.proofs.placing.place_dequeues.Goals.{in-Some+else-stands_after+in_ok-place_noops+in_ok-push}
use Rattle.linearizer.proofs.placing.place_dequeues.Goals.{in_default}

pub get-value-requires : goal.get-value-requires
get-value-requires c = turn_within c.args.matching.now c.values-values.result c.args.order.now _ _ c.values-values.ensures.clear
    c.values-values.ensures.values c.requires.order
    (slice_get_read _ _ _ _ refl c.loop-so_far-test.true c.index-order-rank.is ∙ ap Some (sym c.unpack-entered.ensures))

turn : (c : After-max-left) → IsTurn c.args.matching.now (ordered_lives c.args.matching.now c.args.order.now)
    c.loop-so_far.so_far.dequeues
    c.get-value.result c.unpack-entered.result.time
turn c = turn_is _ _ _ _ _ c.values-values.ensures.clear c.values-values.ensures.values c.requires.order
    (slice_get_read _ _ _ _ refl c.loop-so_far-test.true c.index-order-rank.is ∙ ap Some (sym c.unpack-entered.ensures)) _ c.get-value.ensures

left_is : (c : After-max-left)
    → c.max-left.result ≡ max (leaves_from c.get-value.result.life) c.loop-so_far.so_far.left
left_is c = c.max-left.ensures ∙ ap (λ n. max n c.loop-so_far.so_far.left) c.leaves_from.ensures

within : (c : After-max-left)
    → c.loop-so_far.so_far.dequeues < length (ordered_lives c.args.matching.now c.args.order.now)
within c = slice_get_within _ _ _ (turn c).at

-- the time from which all values up to this one can have left, once those before it are merged
left_so_far : (c : After-max-left) (i : ℕ) → IsMergedUpTo c.args.matching.now
    (ordered_lives c.args.matching.now c.args.order.now) c.args.noops.now i c.loop-so_far.so_far.dequeues c.loop-so_far.so_far.left
    c.loop-so_far.so_far.noops c.loop-so_far.places.items
    → c.max-left.result ≡ greatest_leaves_from (take (c.loop-so_far.so_far.dequeues + 1)
    (ordered_lives c.args.matching.now c.args.order.now))
left_so_far c i merged = left_more _ _ _ _ _ _ _ (turn c) (left_is c) i _ merged.held

pub returns-then-stands_after-clause-up_to : goal.returns-then-stands_after-clause-up_to
returns-then-stands_after-clause-up_to c = λ i none before.
    let here = (goal.at.returns-then-stands_after-clause-up_to c).After-max-left in
    let stands = dequeue_stands _ _ _ _ _ c.of_dequeue-position.result (turn here).gap_is
    (left_so_far here i (c.loop-so_far.invariant i none before)) c.max.ensures c.of_dequeue-position.ensures in
    below_limit (IsDequeueFrom (ordered_lives c.args.matching.now c.args.order.now) c.loop-so_far.so_far.dequeues) c.args.before
    c.of_dequeue-position.result c.stands_after.result c.stands_after.ensures c.if-stands_after.true
    (λ p is. subst (λ q. ¬ (StandsBefore p q)) (sym stands) (next_dequeue _ _ p is))

pub loop-so_far-preserved : goal.loop-so_far-preserved
loop-so_far-preserved c = λ i none before.
    let here = (goal.at.loop-so_far-preserved c).After-max-left in
    let merged = c.loop-so_far.invariant i none before in
    elim c.match-value.branch [
      | in-Some+else-stands_after+in_ok-place_noops+in_ok-push w ↦
          let stands = dequeue_stands _ _ _ _ _ w.of_dequeue-position.result (turn here).gap_is
          (left_so_far here i merged) w.max.ensures w.of_dequeue-position.ensures in
          let enqueues = below_next _ c.args.before w.of_dequeue-position.result w.stands_after.result w.stands_after.ensures w.if-stands_after.false none in
          let values : NoneBelow (IsValueFrom (ordered_lives c.args.matching.now c.args.order.now) i c.loop-so_far.so_far.dequeues)
          (Some w.of_dequeue-position.result) = λ p is. elim is [
            | inl enqueue ↦ enqueues p enqueue
            | inr dequeue ↦ subst (λ q. ¬ (StandsBefore p q)) (sym stands) (next_dequeue _ _ p dequeue)
          ] in
          let noops = w.in_ok-place_noops.ensures.adds _ _ i _ _ values merged in
          let more = turn_with_dequeue _ _ _ _ _ _ _ (turn here) (left_is here) i _ noops.held _ _ _ w.in-Some.is w.max.ensures w.of_dequeue-position.ensures in
          rw (w.so_far-is, w.places-is, w.in_ok-push.ensures.items)
          (dequeue_added _ _ _ _ _ _ _ _ noops c.max-left.result _ more.1 (within here) stands enqueues w.in_ok-place_noops.ensures.up_to)
      | in_default w ↦ rw (w.so_far-is, w.places-is) (passed _ _ _ _ _ _ _ _ merged c.max-left.result
          (turn_alone _ _ _ _ _ _ _ (turn here) (left_is here) i _ merged.held w.in_default.is))
    ]

pub returns-clause-up_to : goal.returns-clause-up_to
returns-clause-up_to c = λ i none before p is.
    absurd (omega (arith, c.loop-so_far-test.false, lives_long c.args.matching.now c.args.order.now c.requires.order, is.1, is.2))
