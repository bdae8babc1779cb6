use Rattle.std.proofs.Common.{◌∙◌, map, rules, subst, sym}
use Rattle.std.specs.Prelude.{filter_map}
use Rattle.std.specs.List.Sorted.{IsNonDecreasing}
use Rattle.std.proofs.lemmas.List.Sorted.{IsNonDecreasingBy-from_sort_by_key}
use Rattle.history_stats.specs.Inner.Overtaking.{CountStays, overtaking_among}
use Rattle.history_stats.proofs.Overtaken.{calls_in_order, complete_rise, found_in_history}
use Rattle.history_stats.proofs.overtaking.overtakings_of.Goals as goal

pub stays_of-requires-clause-in_order : goal.stays_of-requires-clause-in_order
stays_of-requires-clause-in_order c =
    let operations = c.by_time-operations.result.now in
    subst IsNonDecreasing (sym (c.as_slice.ensures.value ∙ c.in_ok-calls.ensures))
    (calls_in_order operations (complete_rise operations c.by_time-operations.ensures.complete))

pub find_all-requires-clause-calls : goal.find_all-requires-clause-calls
find_all-requires-clause-calls c =
    let operations = c.by_time-operations.result.now in
    subst IsNonDecreasing (sym (c.as_slice-2.ensures.value ∙ c.in_ok-calls.ensures))
    (calls_in_order operations (complete_rise operations c.by_time-operations.ensures.complete))

pub returns : goal.returns
returns c =
    let operations = c.by_time-operations.result.now in
    let calls = c.in_ok-calls.calls.items in
    let stays = c.in_ok-stays.stays.items in
    let takings = c.in_ok-takings.takings.items in
    found_in_history c.args.history.now operations calls stays takings c.in_ok-found.found.items c.sort_unstable_by_key.new.self.items
    c.by_time-operations.ensures.by_time c.by_time-operations.ensures.complete
    (subst (λ cs. CountStays operations cs stays) c.as_slice.ensures.value c.in_ok-stays.ensures.counted) c.in_ok-takings.ensures.each_once
    (c.in_ok-found.ensures ∙ (λ i. filter_map (overtaking_among (c.as_slice-2.ensures.value i) (c.as_slice-3.ensures.value i)) (c.as_slice-4.ensures.value i)))
    c.sort_unstable_by_key.ensures.permutation
    (IsNonDecreasingBy-from_sort_by_key (λ x. x.ticket) c.sort_unstable_by_key.new.self.items c.sort_unstable_by_key.ensures.sorted (λ a r q k. search rules))
