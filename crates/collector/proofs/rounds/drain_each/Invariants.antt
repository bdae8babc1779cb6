use Rattle.std.proofs.Common.{◌≡◌, ◌+◌, ◌*◌, ◌≤◌}
use Rattle.event_records.specs.declared.limits.TheConstants.{MAX_RING}
use Rattle.collector.specs.Ends.{count_received}
use Rattle.collector.proofs.Draining.{IsDraining}
use Rattle.collector.proofs.rounds.drain_each.Given as goal

abbrev pub invariant-loop-place : goal.invariant-loop-place
invariant-loop-place l =
    IsDraining l.max l.place l.fn.rings.items l.rings.items
    × (count_received l.rings.items ≡ count_received l.fn.rings.items + l.total)
    × (l.total ≤ l.place * MAX_RING)
