use Rattle.value_match.proofs.Common.{HoldsNear}
use Rattle.value_match.proofs.sources.near_sources.Given as goal

abbrev pub invariant-loop-place : goal.invariant-loop-place
invariant-loop-place l = HoldsNear l.wanted l.operations l.prefix l.place l.sources.items
