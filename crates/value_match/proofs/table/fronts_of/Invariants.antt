use Rattle.value_match.proofs.Fronts.{ListsValues}
use Rattle.value_match.proofs.table.fronts_of.Given as goal

abbrev pub invariant-loop-place : goal.invariant-loop-place
invariant-loop-place l = ListsValues l.values l.place l.fronts.items
