use Rattle.linearizer.proofs.Common.{IsNonDecreasingBy-from_sort_by_key, IsPermutation-trans, rules}
use Rattle.linearizer.proofs.by_time.sorted.Goals as goal

pub returns-clause-permutation : goal.returns-clause-permutation
returns-clause-permutation c = IsPermutation-trans _ _ _ c.presort.ensures c.sort_unstable_by_key.ensures.permutation

pub returns-clause-never_falls : goal.returns-clause-never_falls
returns-clause-never_falls c = IsNonDecreasingBy-from_sort_by_key (λ timed. timed.time) _ c.sort_unstable_by_key.ensures.sorted (λ a r q k. search rules)
