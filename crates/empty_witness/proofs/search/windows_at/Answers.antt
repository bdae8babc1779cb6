use Rattle.empty_witness.proofs.Common.{All, All-drop, arith, course_of, IsEmptyAnswerAt, length, subst, sym, ◌+◌, ◌<◌}
use Rattle.empty_witness.proofs.Answers.{answer_is_empty, first_of_one, from_the_first, one_more_gap}
use Rattle.empty_witness.proofs.search.windows_at.Goals as goal

pub answer_at-answer-requires : goal.answer_at-answer-requires
answer_at-answer-requires c = answer_is_empty c.args.matching.now.operations c.args.empties.now c.loop-index.index c.get.result c.requires.empties
    (omega (arith, c.loop-index-test.true, c.len-index-end.ensures)) c.get.ensures

pub first_covered-requires-clause-others : goal.first_covered-requires-clause-others
first_covered-requires-clause-others c =
    let operations = c.args.matching.now.operations in
    subst (All (IsEmptyAnswerAt operations)) (sym c.split_at-others.ensures.others)
    (All-drop (IsEmptyAnswerAt operations) (c.loop-index.index + 1) c.args.empties.now c.requires.empties)

pub returns-in-None : goal.returns-in-None
returns-in-None c =
    let history = course_of c.args.matching.now in
    let answer = c.answer_at-answer in
    let within : c.loop-index.index < length c.args.empties.now = omega (arith, c.loop-index-test.true, c.len-index-end.ensures) in
    let covered = first_of_one history c.get.result answer.result answer.ensures.place answer.ensures.at answer.ensures.is_empty
    (c.in-None.ensures c.args.matching.now c.requires.spans) in
    from_the_first history c.args.empties.now c.loop-index.gaps.items c.split_at-others.result.1 c.loop-index.index c.get.result answer.result
    c.first_covered.result within c.get.ensures c.loop-index.invariant covered c.split_at-others.ensures.others c.first_covered.ensures

pub loop-index-preserved : goal.loop-index-preserved
loop-index-preserved c =
    let history = course_of c.args.matching.now in
    let answer = c.answer_at-answer in
    let within : c.loop-index.index < length c.args.empties.now = omega (arith, c.loop-index-test.true, c.len-index-end.ensures) in
    rw c.in_ok-push-in-Some.ensures.items
    (one_more_gap history c.args.empties.now c.loop-index.gaps.items c.loop-index.index c.get.result c.in-Some.gap
    answer.result.operation within c.get.ensures c.loop-index.invariant answer.ensures.at
    (c.in-Some.ensures c.args.matching.now c.requires.spans))
