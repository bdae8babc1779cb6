use Rattle.std.proofs.Common.{◌+◌, ◌-◌, ◌∙◌, ap, arith, length, refl, sym}
use Rattle.std.specs.List.{list_any}
use Rattle.std.proofs.lemmas.Bool.{eqb-false, eqb-true}
use Rattle.history_stats.specs.Inner.FailedEnqueues.{stays_within}
use Rattle.history_stats.proofs.FailedEnqueues.{none_failed, refused_at_is, stays_at_last, windows_end}
use Rattle.history_stats.proofs.failed_enqueues.refused_at_in_order.Goals as goal

pub returns-then-is_empty : goal.returns-then-is_empty
returns-then-is_empty c =
    let empty = eqb-true _ _ (sym c.is_empty.ensures ∙ c.if-is_empty.true) in
    none_failed c.args.first c.args.arrivals.now c.args.departures.now c.args.operations.now c.in_ok-windows.windows.items
    c.in_ok-windows.ensures (omega (arith, c.in_ok-windows.windows.ok.0, empty))

pub least_within-requires-clause-last : goal.least_within-requires-clause-last
least_within-requires-clause-last c =
    let first = c.args.first in
    let arrivals = c.args.arrivals.now in
    let some = eqb-false _ _ (sym c.is_empty.ensures ∙ c.if-is_empty.false) in
    (λ i. list_any (stays_within (c.deref.ensures.value i) (first + length arrivals)) (c.deref-2.ensures.value i))
    ∙ stays_at_last first (first + length arrivals) arrivals c.args.departures.now c.in_ok-heights.heights.items c.args.operations.now
    c.in_ok-windows.windows.items c.in_ok-windows.ensures c.in_ok-heights.ensures refl (omega (arith, c.in_ok-windows.windows.ok.0, some))

pub least_within-requires-clause-ends : goal.least_within-requires-clause-ends
least_within-requires-clause-ends c = windows_end c.args.first c.args.arrivals.now c.args.departures.now c.deref.result.now c.args.operations.now
    c.deref-2.result.now (c.deref-2.ensures.value ∙ c.in_ok-windows.ensures)
    (ap length c.deref.ensures.value ∙ c.in_ok-heights.ensures.one_each)

pub returns : goal.returns
returns c =
    let heights = c.in_ok-heights.heights.items in
    let windows = c.in_ok-windows.windows.items in
    refused_at_is c.args.first c.least_within.result c.args.arrivals.now c.args.departures.now heights c.args.operations.now windows c.requires.arrivals
    c.in_ok-heights.ensures c.requires.forward c.in_ok-windows.ensures
    ((λ i. list_any (stays_within (sym c.deref.ensures.value i) c.least_within.result) (sym c.deref-2.ensures.value i)) ∙ c.least_within.ensures.within)
    (λ some. (λ i. list_any (stays_within (sym c.deref.ensures.value i) (c.least_within.result - 1)) (sym c.deref-2.ensures.value i))
    ∙ c.least_within.ensures.least some)
