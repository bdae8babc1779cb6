use Rattle.std.proofs.Common.{take}
use Rattle.history_stats.specs.Inner.Overtaking.{AreEnqueueCalls}
use Rattle.history_stats.proofs.takings.enqueue_calls.Given as goal

abbrev pub invariant-loop-operation : goal.invariant-loop-operation
invariant-loop-operation l = AreEnqueueCalls (take l.operation-index l.operations) l.calls
