use Rattle.order_violation.proofs.Common.{FindsFirst, subst}
use Rattle.order_violation.proofs.Chosen.{first_found}
use Rattle.order_violation.proofs.search.find_order.Goals as goal

pub chosen_pair-requires : goal.chosen_pair-requires
chosen_pair-requires c = first_found c.args.matching.now c.values.ensures.clear c.values.result c.values.ensures.values _
    (subst (λ values. FindsFirst values values c.first_overtaking-first.result) c.in_ok-table.ensures
    (rw c.values-2.ensures at c.first_overtaking-first.ensures))
