use Rattle.value_match.proofs.FreshDequeues.{IsFirstFresh}
use Rattle.value_match.proofs.fresh.first_fresh.Given as goal

abbrev pub invariant-loop-place : goal.invariant-loop-place
invariant-loop-place l = IsFirstFresh l.operations l.place l.first
