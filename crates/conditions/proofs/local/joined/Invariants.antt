use Rattle.std.proofs.Common.{◌≡◌, take}
use Rattle.std.specs.Prelude.{flat_map}
use Rattle.conditions.specs.declared.local.LocalOrder.{LocalOrder}
use Rattle.conditions.proofs.local.joined.Given as goal

abbrev pub invariant-loop-local : goal.invariant-loop-local
invariant-loop-local l = l.places.items ≡ flat_map (λ (x : LocalOrder). x.order) (take l.local-index l.orders)
