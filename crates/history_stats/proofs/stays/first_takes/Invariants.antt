use Rattle.std.proofs.Common.{take}
use Rattle.history_stats.specs.Inner.Overtaking.{AreFirstTakes}
use Rattle.history_stats.proofs.stays.first_takes.Given as goal

abbrev pub invariant-loop-operation : goal.invariant-loop-operation
invariant-loop-operation l = AreFirstTakes (take l.operation-index l.operations) l.takes
