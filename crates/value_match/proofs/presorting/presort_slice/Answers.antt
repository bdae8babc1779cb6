use Rattle.value_match.proofs.Common.{IsPermutation-trans}
use Rattle.value_match.proofs.presorting.presort_slice.Goals.{else-number-via-else-number}
use Rattle.value_match.proofs.presorting.presort_slice.Goals.{else-number-via-then-number+else-not-presort_one}
use Rattle.value_match.proofs.presorting.presort_slice.Goals as goal

pub loop-place-preserved : goal.loop-place-preserved
loop-place-preserved g c = elim c.else-number.branch [
  | else-number-via-then-number+else-not-presort_one w ↦ rw w.elements-is (IsPermutation-trans _ _ _ c.loop-place.invariant w.presort_one.ensures)
  | else-number-via-else-number w ↦ rw w.elements-is c.loop-place.invariant
]

pub returns-then-not-presort_one : goal.returns-then-not-presort_one
returns-then-not-presort_one g c = IsPermutation-trans _ _ _ c.loop-place.invariant c.presort_one.ensures
