use Rattle.std.proofs.Common.{◌≡◌, ◌+◌}
use Rattle.tickets.specs.Inner.Ring.{Glances, position}
use Rattle.tickets.proofs.ring.with_room.Given as goal

abbrev pub ghosts-glance_by : goal.ghosts-glance_by
ghosts-glance_by a = record {
  then = λ _ before found after.
      Glances a.call a.value (position a.place.room (a.place.at + 1)) a.place.room before.0 found after.0 × (after.1 ≡ before.1);
}
