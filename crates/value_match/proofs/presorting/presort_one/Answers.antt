use Rattle.value_match.proofs.Common.{arith, IsPermutation-trans}
use Rattle.value_match.proofs.presorting.presort_one.Goals as goal

pub loop-at-preserved : goal.loop-at-preserved
loop-at-preserved g c = record {
  moved = IsPermutation-trans _ _ _ c.loop-at.invariant.moved c.swap.ensures.permutation;
  inside = omega (arith, c.swap.ensures.len, c.loop-at.invariant.inside);
}
