use Rattle.linearizer.proofs.Common.{arith, inl, inr, IsEnqueueFrom, length, None, NoneBelow, ordered_lives}
use Rattle.linearizer.proofs.Merging.{all_merged}
use Rattle.linearizer.proofs.Elements.{lives_long}
use Rattle.linearizer.proofs.placing.merge.Goals as goal

pub returns : goal.returns
returns c =
    let history = c.args.matching.now in
    let order = c.args.order.now in
    let start = c.in_ok-so_far.ensures in
    let none : NoneBelow (IsEnqueueFrom (ordered_lives history order) (length order)) None =
    (λ p left. absurd (omega (arith, lives_long history order c.requires.order, left.1, left.2))) in
    let past = c.in_ok-place_dequeues.ensures.up_to _ none start in
    let merged = c.in_ok-place_noops.ensures.adds history (ordered_lives history order) _ _ _
    (λ p left. elim left [ inl enqueue ↦ none p enqueue | inr dequeue ↦ past p dequeue ]) (c.in_ok-place_dequeues.ensures.adds _ none start) in
    all_merged history order c.args.noops.now _ _ _ _ _ c.requires.order (omega arith) past c.in_ok-place_noops.ensures.up_to merged
