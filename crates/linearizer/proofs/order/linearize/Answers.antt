use Rattle.linearizer.proofs.Common.{AreChosenAndLegal, course_of, IfOk-weaker, IsClear, IsMerge, subst}
use Rattle.linearizer.proofs.Told.{chosen_and_legal}
use Rattle.linearizer.proofs.order.linearize.Goals as goal

pub noops_of-requires-clause-clear : goal.noops_of-requires-clause-clear
noops_of-requires-clause-clear c = subst (λ h. IsClear (course_of h)) c.requires.values c.order-order.ensures.clear

pub returns : goal.returns
returns c =
    let history = c.args.matching.now in
    IfOk-weaker c.merge.result (λ places. IsMerge history c.in_ok-noops.noops places.items)
    (λ places. AreChosenAndLegal history.initial history.operations places.items)
    (λ places. chosen_and_legal history c.in_ok-noops.noops places.items
    (subst (λ h. IsClear (course_of h)) c.requires.values c.order-order.ensures.clear) c.requires.no_order_violation c.in_ok-noops.ensures)
    c.merge.ensures
