use Rattle.value_match.proofs.Fronts.{HasSoFar}
use Rattle.value_match.proofs.table.name_longest.Given as goal

abbrev pub invariant-loop-front : goal.invariant-loop-front
invariant-loop-front l = HasSoFar l.values l.initial.fronts l.front-index l.fronts l.so_far
