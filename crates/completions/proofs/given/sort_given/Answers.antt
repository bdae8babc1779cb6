use Rattle.std.proofs.Common.{ℕ}
use Rattle.std.proofs.lemmas.List.Sorted.{IsNonDecreasingBy-from_sort}
use Rattle.completions.proofs.Walks.{sorted_are_given}
use Rattle.completions.proofs.given.sort_given.Goals as goal

pub returns : goal.returns
returns c = λ events is. sorted_are_given events c.args.given.now.items c.sort_unstable.new.self.items is c.sort_unstable.ensures.permutation
    (IsNonDecreasingBy-from_sort (λ (x : ℕ). x) c.sort_unstable.new.self.items c.sort_unstable.ensures.sorted)
