use Rattle.std.proofs.Common.{arith}
use Rattle.empty_witness.proofs.Answers.{answer_is_empty, places_are_empty}
use Rattle.comparison.proofs.tests.first_gap_in.Goals as goal

pub gap_for-requires : goal.gap_for-requires
gap_for-requires c =
    answer_is_empty _ c.empties-empties.result 0 c.get.result (places_are_empty _ c.empties-empties.result c.empties-empties.ensures)
    (omega (arith, c.if-len-eq0.false, c.len.ensures)) c.get.ensures
