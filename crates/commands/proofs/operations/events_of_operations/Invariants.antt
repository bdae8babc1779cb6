use Rattle.std.proofs.Common.{◌≡◌}
use Rattle.std.specs.Prelude.{take}
use Rattle.commands.specs.Operations.{events_of_operations}
use Rattle.commands.proofs.operations.events_of_operations.Given as goal

abbrev pub invariant-loop-operation : goal.invariant-loop-operation
invariant-loop-operation l = l.events.items ≡ events_of_operations (take l.operation-index l.operations)
