use Rattle.std.proofs.Common.{◌≡◌}
use Rattle.history_stats.proofs.Blocks.{HasEmptyLevels}
use Rattle.history_stats.proofs.tally.Tally.new.Given as goal

abbrev pub invariant-loop-last_block : goal.invariant-loop-last_block
invariant-loop-last_block l = HasEmptyLevels l.limit l.last_block l.levels.items

abbrev pub decreases-loop-last_block : goal.decreases-loop-last_block
decreases-loop-last_block l = l.last_block
