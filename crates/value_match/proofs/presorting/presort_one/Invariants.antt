use Rattle.value_match.proofs.Common.{IsPermutation, length, ◌<◌}
use Rattle.value_match.proofs.presorting.presort_one.Given as goal

abbrev pub invariant-loop-at : goal.invariant-loop-at
invariant-loop-at g l = record {
  moved : IsPermutation l.fn.elements l.elements;
  inside : l.at < length l.elements;
}

abbrev pub decreases-loop-at : goal.decreases-loop-at
decreases-loop-at g l = l.at
