use Rattle.value_match.proofs.CallPlaces.{FindsOthers}
use Rattle.value_match.proofs.sources.find_others.Given as goal

abbrev pub invariant-loop-place : goal.invariant-loop-place
invariant-loop-place l = FindsOthers l.operations l.prefix l.place l.sources l.others
