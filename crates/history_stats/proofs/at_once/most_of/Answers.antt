use Rattle.std.proofs.Common.{subst, sym}
use Rattle.std.specs.List.Sorted.{IsNonDecreasing}
use Rattle.std.proofs.lemmas.List.Sorted.{IsNonDecreasingBy-from_sort}
use Rattle.history_stats.proofs.AtOnce.{most_permuted}
use Rattle.history_stats.proofs.at_once.most_of.Goals as goal

pub most_in_order-requires-clause-arrivals : goal.most_in_order-requires-clause-arrivals
most_in_order-requires-clause-arrivals c =
    subst IsNonDecreasing (sym c.deref.ensures.value) (IsNonDecreasingBy-from_sort (λ x. x) _ c.sort_unstable.ensures.sorted)

pub most_in_order-requires-clause-departures : goal.most_in_order-requires-clause-departures
most_in_order-requires-clause-departures c =
    subst IsNonDecreasing (sym c.deref-2.ensures.value) (IsNonDecreasingBy-from_sort (λ x. x) _ c.sort_unstable-2.ensures.sorted)

pub returns : goal.returns
returns c =
    let is = rw (c.deref.ensures.value, c.deref-2.ensures.value) at c.most_in_order.ensures in
    most_permuted c.args.first c.most_in_order.result c.args.arrivals.items _ c.args.departures.items _ c.sort_unstable.ensures.permutation
    c.sort_unstable-2.ensures.permutation is
