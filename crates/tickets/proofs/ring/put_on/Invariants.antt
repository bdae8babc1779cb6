use Rattle.std.proofs.Common.{◌≡◌}
use Rattle.tickets.specs.Inner.Ring.{Publishes}
use Rattle.tickets.proofs.ring.put_on.Given as goal

abbrev pub ghosts-publish_by : goal.ghosts-publish_by
ghosts-publish_by a = record { then = λ _ before _ after. Publishes a.call a.value before.0 after.0 × (after.1 ≡ before.1) }
