use Rattle.value_match.proofs.Common.{length, map, value_at, ◌≤◌}
use Rattle.std.proofs.Common.{vec_capacity, vec_len}
use Rattle.value_match.proofs.ByKind.{IsByKind}
use Rattle.value_match.proofs.values.by_kind.Given as goal

abbrev pub invariant-loop-place : goal.invariant-loop-place
invariant-loop-place l = IsByKind l.operations l.place (map (value_at l.operations) l.values.items) l.empties.items l.failed.items
    × (vec_len l.values ≤ l.place) × (length l.operations ≤ vec_capacity l.values)
