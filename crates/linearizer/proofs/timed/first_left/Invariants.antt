use Rattle.linearizer.proofs.Common.{All, IsTaken, length, take, ◌-◌}
use Rattle.linearizer.proofs.timed.first_left.Given as goal

abbrev pub invariant-loop-first : goal.invariant-loop-first
invariant-loop-first l = All (IsTaken l.taken) (take l.first l.entries)

abbrev pub decreases-loop-first : goal.decreases-loop-first
decreases-loop-first l = length l.entries - l.first
