use Rattle.empty_witness.proofs.Common.{append-nil, arith, course_of, IsFirstCovered, length, rules, subst, sym}
use Rattle.empty_witness.proofs.Common.{take_all, ◌++◌, ◌<◌}
use Rattle.empty_witness.proofs.Answers.{answer_is_empty, covered_if_none, first_of_one, gap_if_some, one_more_covered}
use Rattle.empty_witness.proofs.Answers.{one_more_free}
use Rattle.empty_witness.proofs.search.first_covered.Goals.{else-is_none, then-is_none}
use Rattle.empty_witness.proofs.search.first_covered.Goals as goal

pub answer_at-answer-requires : goal.answer_at-answer-requires
answer_at-answer-requires c = answer_is_empty c.args.matching.now.operations c.args.others.now c.loop-index.index c.get.result c.requires.others
    (omega (arith, c.loop-index-test.true, c.len-index-end.ensures)) c.get.ensures

pub loop-index-init : goal.loop-index-init
loop-index-init c = λ seen first. subst (λ ps. IsFirstCovered (course_of c.args.matching.now) ps c.args.covered) (sym (append-nil seen)) first

pub loop-index-preserved : goal.loop-index-preserved
loop-index-preserved c = λ seen first.
    let history = course_of c.args.matching.now in
    let others = c.args.others.now in
    let answer = c.answer_at-answer in
    let i = c.loop-index.index in
    let so_far = c.loop-index.invariant seen first in
    let within : i < length others = omega (arith, c.loop-index-test.true, c.len-index-end.ensures) in
    let window = c.least_free_gap.ensures c.args.matching.now c.requires.spans in
    elim c.if-is_none.branch [
      | then-is_none w ↦
          let covered = first_of_one history c.get.result answer.result answer.ensures.place answer.ensures.at answer.ensures.is_empty
          (covered_if_none history answer.result.operation c.least_free_gap.result window (search rules)) in
          rw w.first-is (one_more_covered history seen others i c.get.result c.loop-index.first answer.result w.sooner_of-first.result
          within c.get.ensures so_far covered w.sooner_of-first.ensures)
      | else-is_none w ↦
          let gap = gap_if_some history answer.result.operation c.least_free_gap.result window (search rules) in
          rw w.first-is (one_more_free history seen others i c.get.result gap.0 answer.result.operation c.loop-index.first
          within c.get.ensures so_far answer.ensures.at gap.1)
    ]

pub returns : goal.returns
returns c = λ seen first. subst (λ ps. IsFirstCovered (course_of c.args.matching.now) (seen ++ ps) c.loop-index.first)
    (take_all c.loop-index.index c.args.others.now (omega (arith, c.loop-index-test.false, c.len-index-end.ensures))) (c.loop-index.invariant seen first)
