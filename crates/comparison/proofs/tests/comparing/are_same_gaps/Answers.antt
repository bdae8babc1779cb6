use Rattle.std.proofs.Common.{arith}
use Rattle.empty_witness.proofs.Answers.{answer_is_empty, places_are_empty}
use Rattle.comparison.proofs.tests.comparing.are_same_gaps.Goals as goal

pub gap_for-requires : goal.gap_for-requires
gap_for-requires c =
    answer_is_empty _ c.empties-empties.result c.loop-index.index c.get-empty.result (places_are_empty _ c.empties-empties.result c.empties-empties.ensures)
    (omega (arith, c.loop-index-test.true, c.len-index-end.ensures)) c.get-empty.ensures
