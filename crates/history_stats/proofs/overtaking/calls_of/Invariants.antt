use Rattle.std.proofs.Common.{◌≡◌, map, take}
use Rattle.history_stats.proofs.overtaking.calls_of.Given as goal

abbrev pub invariant-loop-operation : goal.invariant-loop-operation
invariant-loop-operation l = l.calls.items ≡ map (λ o. o.call) (take l.operation-index l.operations)
