use Rattle.std.proofs.Common.{◌≡◌, ◌≤◌, ◌-◌}
use Rattle.tickets.specs.declared.account.Aim.TheVariants.{Put}
use Rattle.tickets.specs.Inner.Shared.{BeginsToPut, walk_at, walking}
use Rattle.tickets.proofs.shared.push_on.Given as goal

abbrev pub ghosts-begin_put_by : goal.ghosts-begin_put_by
ghosts-begin_put_by a = record { then = λ _ before found after. BeginsToPut a.call a.value a.tickets.now.room before.0 found after.0 × (after.1 ≡ before.1) }

abbrev pub invariant-loop-at : goal.invariant-loop-at
invariant-loop-at l =
    (l.seat.table_id ≡ l.fn.seat.table_id) × (l.at ≤ l.tickets.room)
    × (l.seat.me ≡ (walking (walk_at l.call l.tickets.room l.at (Put l.value)) l.fn.seat.me.0, l.fn.seat.me.1))

abbrev pub decreases-loop-at : goal.decreases-loop-at
decreases-loop-at l = l.tickets.room - l.at
