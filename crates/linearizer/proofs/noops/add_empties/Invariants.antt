use Rattle.linearizer.proofs.Common.{Adds, filter, is_empty_answer, take, timed}
use Rattle.linearizer.proofs.noops.add_empties.Given as goal

abbrev pub invariant-loop-at : goal.invariant-loop-at
invariant-loop-at l = Adds l.matching (take l.at (filter is_empty_answer (timed l.matching.operations))) l.initial.noops.items l.noops.items
