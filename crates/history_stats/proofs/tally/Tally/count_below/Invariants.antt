use Rattle.history_stats.proofs.Blocks.{CountedBelow}
use Rattle.history_stats.proofs.tally.Tally.count_below.Given as goal

abbrev pub invariant-loop-level : goal.invariant-loop-level
invariant-loop-level l = CountedBelow l.number l.level l.block l.below l.self.levels.items
