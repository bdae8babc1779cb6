use Rattle.std.proofs.Common.{◌≤◌, length, rules}
use Rattle.std.proofs.lemmas.List.Sorted.{All-permutation, IsNonDecreasingBy-from_sort_by_key}
use Rattle.history_stats.proofs.Staying.{counted_sorted}
use Rattle.history_stats.proofs.stays.stays_of.Goals as goal

pub returns-clause-counted : goal.returns-clause-counted
returns-clause-counted c = counted_sorted c.args.operations.now c.args.calls.now c.in_ok-stays.stays.items c.sort_unstable_by_key.new.self.items
    c.sort_unstable_by_key.ensures.permutation c.in_ok-stays.ensures.counted

pub returns-clause-in_order : goal.returns-clause-in_order
returns-clause-in_order c =
    IsNonDecreasingBy-from_sort_by_key (λ s. s.put) c.sort_unstable_by_key.new.self.items c.sort_unstable_by_key.ensures.sorted (λ a r q k. search rules)

pub returns-clause-taken : goal.returns-clause-taken
returns-clause-taken c = All-permutation (λ s. s.taken ≤ length c.args.calls.now) c.in_ok-stays.stays.items c.sort_unstable_by_key.new.self.items
    c.sort_unstable_by_key.ensures.permutation c.in_ok-stays.ensures.taken
