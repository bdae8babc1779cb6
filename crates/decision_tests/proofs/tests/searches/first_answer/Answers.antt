use Rattle.std.proofs.Common.{arith}
use Rattle.empty_witness.proofs.Answers.{answer_is_empty, places_are_empty}
use Rattle.decision_tests.proofs.tests.searches.first_answer.Goals as goal

pub gap_for-requires : goal.gap_for-requires
gap_for-requires c =
    let places = c.empties-empties.result in
    answer_is_empty c.args.matching.now.operations places 0 c.get.result
    (places_are_empty c.args.matching.now.operations places c.empties-empties.ensures) (omega (arith, c.if-len-eq0.false, c.len.ensures)) c.get.ensures
