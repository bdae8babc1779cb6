use Rattle.empty_witness.proofs.Common.{ap, arith, Did, DequeueEmpty, IsAt, later_by, NEVER, ORIGIN, slice_get}
use Rattle.empty_witness.proofs.Common.{Some, sym, timed, ◌+◌, ◌<◌, ◌∙◌, ◌≡◌, ◌≤◌}
use Rattle.empty_witness.proofs.Answers.{answer_timed}
use Rattle.empty_witness.proofs.search.answer_at.Goals.{After-unwrap-operation}
use Rattle.empty_witness.proofs.search.answer_at.Goals as goal

answer : (c : After-unwrap-operation)
    → IsAt (timed c.args.matching.now.operations) c.args.empty (later_by ORIGIN c.unwrap-operation.result)
    × Did (timed c.args.matching.now.operations) (later_by ORIGIN c.unwrap-operation.result) DequeueEmpty
    × (c.unwrap-operation.result.call ≤ c.unwrap-operation.result.ret) × (c.unwrap-operation.result.ret + ORIGIN < NEVER)
answer c =
    let matching = c.args.matching.now in
    let stands : slice_get matching.operations c.args.empty ≡ Some c.unwrap-operation.result =
    ap (λ os. slice_get os c.args.empty) (sym c.operations.ensures.operations) ∙ sym c.get.ensures ∙ c.unwrap-operation.ensures in
    answer_timed matching c.args.empty c.unwrap-operation.result c.operations.ensures.clear c.requires stands

pub timed-requires-clause-call : goal.timed-requires-clause-call
timed-requires-clause-call c = let is = answer ((goal.at.timed-requires-clause-call c).After-unwrap-operation) in omega (arith, is.2, is.3)

pub timed-requires-clause-ret : goal.timed-requires-clause-ret
timed-requires-clause-ret c = let is = answer ((goal.at.timed-requires-clause-ret c).After-unwrap-operation) in omega (arith, is.3)

pub returns-clause-at : goal.returns-clause-at
returns-clause-at c = rw c.timed.ensures (answer ((goal.at.returns-clause-at c).After-unwrap-operation)).0

pub returns-clause-is_empty : goal.returns-clause-is_empty
returns-clause-is_empty c = rw c.timed.ensures (answer ((goal.at.returns-clause-is_empty c).After-unwrap-operation)).1
