use Rattle.std.proofs.Common.{◌≡◌, map, take}
use Rattle.conditions.specs.Inner.Moved.{moved_place}
use Rattle.conditions.proofs.moved.moved_order.Given as goal

abbrev pub invariant-loop-place : goal.invariant-loop-place
invariant-loop-place l = l.moved.items ≡ map (moved_place l.places) (take l.place-index l.order)
