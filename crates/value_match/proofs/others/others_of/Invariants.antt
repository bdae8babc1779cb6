use Rattle.value_match.proofs.CallPlaces.{MetOthers}
use Rattle.value_match.proofs.others.others_of.Given as goal

abbrev pub invariant-loop-place : goal.invariant-loop-place
invariant-loop-place l = MetOthers l.wanted l.operations l.place l.others.items
