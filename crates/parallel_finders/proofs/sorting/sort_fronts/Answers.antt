use Rattle.parallel_finders.proofs.Common.{always_returns_same, arith, IsNonDecreasingBy, rules, subst, sym, ◌≡◌}
use Rattle.std.proofs.lemmas.List.Sorted.{IsNonDecreasingBy-from_sort}
use Rattle.parallel_finders.proofs.InPlace.{in_place, moved_twice, rises_if_sorted}
use Rattle.parallel_finders.proofs.sorting.sort_fronts.Goals as goal

pub returns-then-not-is_sorted_by_key-clause-permutation : goal.returns-then-not-is_sorted_by_key-clause-permutation
returns-then-not-is_sorted_by_key-clause-permutation g c =
    let settled = c.presort.new.elements in
    let sorted = c.par_sort_unstable_by_key in
    moved_twice c.args.fronts.now.items settled.items c.as_mut_slice.result.now sorted.new.s settled.len c.presort.ensures c.as_mut_slice.ensures.value
    (omega (arith, settled.ok.0)) sorted.ensures.len sorted.ensures.permutation

pub returns-then-not-is_sorted_by_key-clause-rises : goal.returns-then-not-is_sorted_by_key-clause-rises
returns-then-not-is_sorted_by_key-clause-rises g c =
    let settled = c.presort.new.elements in
    let sorted = c.par_sort_unstable_by_key in
    subst (IsNonDecreasingBy (λ e. e.enqueue_return)) (sym (in_place settled.items c.as_mut_slice.result.now sorted.new.s settled.len
    c.as_mut_slice.ensures.value (omega (arith, settled.ok.0)) sorted.ensures.len))
    (IsNonDecreasingBy-from_sort (λ e. e.enqueue_return) _ (sorted.ensures.sorted (λ e. e.enqueue_return)
    (always_returns_same _ (λ a r. r ≡ a.0.now.enqueue_return) _ (λ e r q k. search rules))))

pub returns-else-not-is_sorted_by_key-clause-rises : goal.returns-else-not-is_sorted_by_key-clause-rises
returns-else-not-is_sorted_by_key-clause-rises g c =
    subst (IsNonDecreasingBy (λ e. e.enqueue_return)) c.deref.ensures.value
    (rises_if_sorted (λ e. e.enqueue_return) c.deref.result.now c.is_sorted_by_key.result c.is_sorted_by_key.ensures.cases
    (always_returns_same _ (λ a r. r ≡ a.0.now.enqueue_return) _ (λ e r q k. search rules)) c.if-not-is_sorted_by_key.false)
