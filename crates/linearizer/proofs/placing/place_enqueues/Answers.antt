use Rattle.linearizer.proofs.Common.{ap, append-nil, arith, cons_option, enqueue_position, enqueues, inl, inr}
use Rattle.linearizer.proofs.Common.{IsEnqueueFrom, IsMergedUpTo, IsValueFrom, length, NoneBelow, ordered_lives}
use Rattle.linearizer.proofs.Common.{position_of, refl, slice_get_read, slice_get_within, Some, StandsBefore, subst}
use Rattle.linearizer.proofs.Common.{sym, [], ◌++◌, ◌+◌, ◌∙◌, ◌≡◌}
use Rattle.linearizer.proofs.Merging.{enqueue_added, next_enqueue, nothing_merged, enqueue_more, turn_is, turn_within}
use Rattle.linearizer.proofs.placing.place_enqueues.Goals as goal
use Rattle.linearizer.proofs.placing.place_enqueues.Goals.{in-Some+in_ok-push, in_default}

pub get-requires : goal.get-requires
get-requires c = turn_within c.args.matching.now c.values-values.result c.args.order.now _ _ c.values-values.ensures.clear
    c.values-values.ensures.values c.requires.order
    (slice_get_read _ _ _ _ refl c.loop-rank-test.true c.index-order-rank.is ∙ ap Some (sym c.unpack-entered.ensures))

pub loop-rank-init : goal.loop-rank-init
loop-rank-init c = rw c.requires.none (nothing_merged _ _ _)

pub loop-rank-preserved : goal.loop-rank-preserved
loop-rank-preserved c =
    let history = c.args.matching.now in
    let lives = ordered_lives history c.args.order.now in
    let i = c.loop-rank.rank in
    let turn = turn_is _ _ _ _ _ c.values-values.ensures.clear c.values-values.ensures.values c.requires.order
    (slice_get_read _ _ _ _ refl c.loop-rank-test.true c.index-order-rank.is ∙ ap Some (sym c.unpack-entered.ensures)) _ c.get.ensures in
    let within = slice_get_within lives i _ turn.at in
    let stands : position_of c.of_enqueue.result ≡ enqueue_position lives i =
    c.of_enqueue.ensures ∙ ap (λ g. record { gap = g; class = enqueues; rank = i }) turn.gap_is in
    let none : NoneBelow (IsEnqueueFrom lives i) (Some c.of_enqueue.result) =
    (λ p is. subst (λ q. ¬ (StandsBefore p q)) (sym stands) (next_enqueue lives i p is)) in
    let past = c.in_ok-place_dequeues.ensures.up_to i none c.loop-rank.invariant in
    let values : NoneBelow (IsValueFrom lives i c.place_dequeues.new.so_far.dequeues) (Some c.of_enqueue.result) =
    (λ p is. elim is [ inl enqueue ↦ none p enqueue | inr dequeue ↦ past p dequeue ]) in
    let merged = c.in_ok-place_noops.ensures.adds history lives i _ _ values (c.in_ok-place_dequeues.ensures.adds i none c.loop-rank.invariant) in
    let more = enqueue_added history lives _ i _ _ _ _ merged _
    (enqueue_more history lives i _ _ turn _ _ _ c.of_enqueue.result merged.held c.of_enqueue.ensures) within stands past
    c.in_ok-place_noops.ensures.up_to in
    let told = subst (λ p. IsMergedUpTo history lives c.args.noops.now (i + 1) c.place_dequeues.new.so_far.dequeues c.place_dequeues.new.so_far.left
    c.place_noops.new.count (c.place_noops.new.places.items ++ cons_option p [])) (sym c.place_of.ensures) more in
    elim c.match-place_of.branch [
      | in-Some+in_ok-push w ↦ rw (w.places-is, w.in_ok-push.ensures.items) (subst (λ p. IsMergedUpTo history lives c.args.noops.now (i + 1)
          c.place_dequeues.new.so_far.dequeues c.place_dequeues.new.so_far.left c.place_noops.new.count
          (c.place_noops.new.places.items ++ cons_option p [])) w.in-Some.is told)
      | in_default w ↦ rw w.places-is (subst (IsMergedUpTo history lives c.args.noops.now (i + 1) c.place_dequeues.new.so_far.dequeues
          c.place_dequeues.new.so_far.left c.place_noops.new.count) (ap (λ p. c.place_noops.new.places.items ++ cons_option p []) w.in_default.is
          ∙ append-nil c.place_noops.new.places.items) told)
    ]

pub returns : goal.returns
returns c =
    let all : c.loop-rank.rank ≡ length c.args.order.now = omega (arith, c.loop-rank-test.false, c.loop-rank.auto.rank-end) in
    subst (λ n. IsMergedUpTo c.args.matching.now (ordered_lives c.args.matching.now c.args.order.now)
    c.args.noops.now n c.loop-rank.so_far.dequeues
    c.loop-rank.so_far.left c.loop-rank.so_far.noops c.loop-rank.places.items) all c.loop-rank.invariant
