use Rattle.std.proofs.Common.{rules, arith, ap, sym, ◌∙◌, length, subst, IsPermutation}
use Rattle.std.proofs.lemmas.List.Sorted.{length_permutation}
use Rattle.history_merge.specs.Initial.{IsCompleteFrom}
use Rattle.commands.proofs.OfOperations.{few_before, no_history, two_events_each}
use Rattle.commands.proofs.operations.history_of_operations.Goals as goal

pub history_from-requires-clause-few_initial : goal.history_from-requires-clause-few_initial
history_from-requires-clause-few_initial c =
    let few = few_before c.args.operations.now in
    let is = ap length c.in_ok-initial.ensures in
    search (rules, arith, few, is, c.requires)

pub history_from-requires-clause-few_events : goal.history_from-requires-clause-few_events
history_from-requires-clause-few_events c =
    let two = two_events_each c.args.operations.now in
    let is = ap length c.in_ok-events_of_operations.ensures in
    let moved = length_permutation c.in_ok-events_of_operations.field-0.items c.in_ok-events.events.items c.in_ok-events.ensures.moved in
    let same = ap length c.deref.ensures.value in
    omega (arith, two, is, moved, same, c.requires)

pub returns : goal.returns
returns c =
    let initial = c.in_ok-initial.initial.items in
    let moved = subst (λ events. IsPermutation events c.in_ok-events.events.items) c.in_ok-events_of_operations.ensures c.in_ok-events.ensures.moved in
    no_history c.args.operations.now initial c.in_ok-events.events.items c.in_ok-initial.ensures moved c.in_ok-events.ensures.sorted
    (λ complete. let memory = c.in-Err.ensures.refused (subst (IsCompleteFrom initial) (sym c.deref.ensures.value) complete) in
    search (rules, memory, c.eq.ensures, c.if-eq.false))
