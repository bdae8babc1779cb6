use Rattle.history_stats.proofs.Blocks.{AddedBelow}
use Rattle.history_stats.proofs.tally.Tally.add.Given as goal

abbrev pub invariant-loop-level : goal.invariant-loop-level
invariant-loop-level l = AddedBelow l.number l.level l.block l.fn.self.levels.items l.self.levels.items
