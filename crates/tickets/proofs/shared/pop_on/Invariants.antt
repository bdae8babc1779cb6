use Rattle.std.proofs.Common.{◌≡◌, ◌≤◌, ◌-◌}
use Rattle.tickets.specs.declared.account.Aim.TheVariants.{Find}
use Rattle.tickets.specs.Inner.Shared.{BeginsToTake, walk_at, walking}
use Rattle.tickets.proofs.shared.pop_on.Given as goal

abbrev pub ghosts-begin_take_by : goal.ghosts-begin_take_by
ghosts-begin_take_by a = record { then = λ _ before found after. BeginsToTake a.call a.tickets.now.room before.0 found after.0 × (after.1 ≡ before.1) }

abbrev pub invariant-loop-table : goal.invariant-loop-table
invariant-loop-table l =
    (l.seat.table_id ≡ l.fn.seat.table_id) × (l.at ≤ l.tickets.room)
    × (l.seat.me ≡ (walking (walk_at l.call l.tickets.room l.at Find) l.fn.seat.me.0, l.fn.seat.me.1))

abbrev pub decreases-loop-table : goal.decreases-loop-table
decreases-loop-table l = l.tickets.room - l.at
