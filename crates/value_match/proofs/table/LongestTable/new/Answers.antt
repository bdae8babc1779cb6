use Rattle.value_match.proofs.Common.{IsNonDecreasingBy-from_sort_by_key, IsPermutation-trans, rules}
use Rattle.value_match.proofs.Fronts.{entries_moved}
use Rattle.value_match.proofs.table.LongestTable.new.Goals as goal

pub by_return-requires : goal.by_return-requires
by_return-requires c =
    let sorted = c.sort_unstable_by_key.ensures in record {
      are = entries_moved _ _ _ c.in_ok-fronts.ensures (IsPermutation-trans _ _ _ c.presort.ensures sorted.permutation);
      rises = IsNonDecreasingBy-from_sort_by_key (λ e. e.enqueue_return) _ sorted.sorted (λ e r q k. search rules);
    }
