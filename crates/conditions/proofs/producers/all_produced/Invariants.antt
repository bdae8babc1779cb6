use Rattle.std.proofs.Common.{◌≡◌, filter_map, take}
use Rattle.conditions.specs.Inner.Producers.{produced_by}
use Rattle.conditions.proofs.producers.all_produced.Given as goal

abbrev pub invariant-loop-operation : goal.invariant-loop-operation
invariant-loop-operation l = l.all.items ≡ filter_map produced_by (take l.operation-index l.by_time)
