use Rattle.value_match.proofs.Common.{IsPermutation}
use Rattle.value_match.proofs.presorting.presort_slice.Given as goal

abbrev pub invariant-loop-place : goal.invariant-loop-place
invariant-loop-place g l = IsPermutation l.fn.elements l.elements
