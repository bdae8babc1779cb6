use Rattle.empty_witness.proofs.Common.{AreSpansOf, course_of, subst, sym}
use Rattle.empty_witness.proofs.search.gap_for.Goals as goal

pub returns-in-Some : goal.returns-in-Some
returns-in-Some c =
    let matching = c.args.matching.now in
    let are = subst (AreSpansOf (course_of matching)) (sym c.as_slice.ensures.value) c.in_ok-spans.ensures in
    (c.answer_at-answer.result.operation, c.answer_at-answer.ensures.at, c.in-Some.ensures matching are)

pub returns : goal.returns
returns c =
    let matching = c.args.matching.now in
    let are = subst (AreSpansOf (course_of matching)) (sym c.as_slice.ensures.value) c.in_ok-spans.ensures in
    let cover = c.in_ok-cover_of-in-None.ensures in
    (c.answer_at-answer.result.operation, cover.0, c.answer_at-answer.ensures.at, cover.1, c.in-None.ensures matching are, cover.2, cover.3)
