use Rattle.std.proofs.Common.{subst, sym}
use Rattle.std.specs.List.Sorted.{IsNonDecreasing}
use Rattle.std.proofs.lemmas.List.Sorted.{IsNonDecreasingBy-from_sort}
use Rattle.std.proofs.lemmas.Result.{IfOk-weaker}
use Rattle.history_stats.proofs.FailedEnqueues.{permuted_maybe}
use Rattle.history_stats.proofs.failed_enqueues.refused_at_among.Goals as goal

pub refused_at_in_order-requires-clause-arrivals : goal.refused_at_in_order-requires-clause-arrivals
refused_at_in_order-requires-clause-arrivals c =
    subst IsNonDecreasing (sym c.deref.ensures.value) (IsNonDecreasingBy-from_sort (λ x. x) _ c.sort_unstable.ensures.sorted)

pub refused_at_in_order-requires-clause-departures : goal.refused_at_in_order-requires-clause-departures
refused_at_in_order-requires-clause-departures c =
    subst IsNonDecreasing (sym c.deref-2.ensures.value) (IsNonDecreasingBy-from_sort (λ x. x) _ c.sort_unstable-2.ensures.sorted)

pub returns : goal.returns
returns c = IfOk-weaker c.refused_at_in_order.result _ _
    (λ least is. permuted_maybe c.args.first least c.args.arrivals.items _ c.args.departures.items _ c.args.operations.now c.sort_unstable.ensures.permutation
    c.sort_unstable-2.ensures.permutation is) (rw (c.deref.ensures.value, c.deref-2.ensures.value) at c.refused_at_in_order.ensures)
