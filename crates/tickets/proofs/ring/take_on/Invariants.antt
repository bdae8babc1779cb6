use Rattle.std.proofs.Common.{◌≡◌}
use Rattle.tickets.specs.Inner.Ring.{FindsOne, Frees}
use Rattle.tickets.proofs.ring.take_on.Given as goal

abbrev pub ghosts-find_by : goal.ghosts-find_by
ghosts-find_by a = record { then = λ _ before found after. FindsOne a.call a.place.at before.0 found after.0 × (after.1 ≡ before.1) }

abbrev pub ghosts-free_by : goal.ghosts-free_by
ghosts-free_by a = record { then = λ _ before _ after. Frees a.call a.value before.0 after.0 × (after.1 ≡ before.1) }
