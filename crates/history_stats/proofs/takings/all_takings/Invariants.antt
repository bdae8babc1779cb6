use Rattle.std.proofs.Common.{◌≡◌, take}
use Rattle.std.specs.Prelude.{filter_map}
use Rattle.history_stats.specs.Inner.Overtaking.{taking_by}
use Rattle.history_stats.proofs.takings.all_takings.Given as goal

abbrev pub invariant-loop-operation : goal.invariant-loop-operation
invariant-loop-operation l = l.takings.items ≡ filter_map (λ o. taking_by l.operations o o.kind) (take l.operation-index l.operations)
