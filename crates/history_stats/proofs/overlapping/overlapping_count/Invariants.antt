use Rattle.history_stats.proofs.Overlaps.{Counted}
use Rattle.history_stats.proofs.overlapping.overlapping_count.Given as goal

abbrev pub invariant-loop-operation : goal.invariant-loop-operation
invariant-loop-operation l = Counted l.operations l.later l.count l.last_return
