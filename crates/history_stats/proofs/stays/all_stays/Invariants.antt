use Rattle.history_stats.proofs.Staying.{StaysSoFar}
use Rattle.history_stats.proofs.stays.all_stays.Given as goal

abbrev pub invariant-loop-operation : goal.invariant-loop-operation
invariant-loop-operation l = StaysSoFar l.operations l.calls l.operation-index l.stays.items
