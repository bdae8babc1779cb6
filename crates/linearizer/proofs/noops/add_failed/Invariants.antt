use Rattle.linearizer.proofs.Common.{Adds, filter, is_failed, take, timed}
use Rattle.linearizer.proofs.noops.add_failed.Given as goal

abbrev pub invariant-loop-at : goal.invariant-loop-at
invariant-loop-at l = Adds l.matching (take l.at (filter is_failed (timed l.matching.operations))) l.initial.noops.items l.noops.items
