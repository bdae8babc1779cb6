use Rattle.history_merge.proofs.Common.{arith, length_permutation}
use Rattle.history_merge.proofs.recorded.merged_from.Goals as goal

pub history_from-requires-clause-few_events : goal.history_from-requires-clause-few_events
history_from-requires-clause-few_events c = omega (arith, length_permutation _ _ c.in_ok-events.ensures.holds_each_once, c.requires.few)
