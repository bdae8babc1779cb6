use Rattle.std.proofs.Common.{◌≤◌, length}
use Rattle.completions.proofs.pending.first_pending.Given as goal

abbrev pub invariant-loop-from : goal.invariant-loop-from
invariant-loop-from l = l.from ≤ length l.events

abbrev pub decreases-loop-from : goal.decreases-loop-from
decreases-loop-from l = l.from
