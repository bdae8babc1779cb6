use Rattle.linearizer.proofs.Common.{[], Adds, filter, is_empty_answer, IsNonDecreasingBy-from_sort_by_key, PLACES}
use Rattle.linearizer.proofs.Common.{arith, rules, subst, timed, ◌*◌, ◌+◌}
use Rattle.linearizer.proofs.OneOrder.{noops_held, noops_never_fall, noops_within}
use Rattle.linearizer.proofs.noops.noops_of.Goals as goal
use Rattle.linearizer.proofs.noops.noops_of.Goals.{After-sort_unstable_by_key}

first : (c : After-sort_unstable_by_key)
    → Adds c.args.matching.now (filter is_empty_answer (timed c.args.matching.now.operations)) []
    c.add_empties.new.noops.items
first c = subst (λ old. Adds c.args.matching.now (filter is_empty_answer (timed c.args.matching.now.operations)) old c.add_empties.new.noops.items)
    c.in_ok-noops.ensures.items c.in_ok-add_empties.ensures

pub new-requires : goal.new-requires
new-requires c = rw c.operations-operations.ensures.operations (noops_within _ c.requires.clear _ _ (first (goal.at.new-requires c).After-sort_unstable_by_key)
    c.in_ok-add_failed.ensures _ c.sort_unstable_by_key.ensures.permutation)

pub returns : goal.returns
returns c =
    let history = c.args.matching.now in
    let known = c.operations-operations.ensures in
    let empties = first (goal.at.returns c).After-sort_unstable_by_key in
    let moved = c.sort_unstable_by_key.ensures.permutation in
    let rises = IsNonDecreasingBy-from_sort_by_key (λ noop. PLACES * noop.time + noop.place) _ c.sort_unstable_by_key.ensures.sorted
    (λ a r q k. search rules) in
    let within = noops_within history c.requires.clear _ _ empties c.in_ok-add_failed.ensures _ moved in
    rw (c.new.ensures, known.operations) (noops_held history c.requires.clear _ _ empties c.in_ok-add_failed.ensures _ moved
    (noops_never_fall history c.requires.clear _ (omega (arith, known.few)) within rises))
