use Rattle.value_match.proofs.RepeatedDequeues.{HasMet}
use Rattle.value_match.proofs.takers.find_takers.Given as goal

abbrev pub invariant-loop-place : goal.invariant-loop-place
invariant-loop-place l = HasMet l.operations l.firsts.items l.place l.found
