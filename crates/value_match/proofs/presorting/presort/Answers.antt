use Rattle.value_match.proofs.Common.{arith, length_permutation}
use Rattle.value_match.proofs.Lists.{moved_in_place}
use Rattle.value_match.proofs.presorting.presort.Goals as goal

pub returns : goal.returns
returns g c =
    moved_in_place _ _ _ _ c.as_mut_slice.ensures.value (omega (arith, c.args.elements.now.ok.0)) (length_permutation _ _ c.presort_slice.ensures)
    c.presort_slice.ensures
