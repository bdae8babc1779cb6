use Rattle.std.proofs.Common.{sym}
use Rattle.completions.proofs.Walks.{found_if_given, stands_if_given}
use Rattle.completions.proofs.given.is_given_near.Goals as goal

pub returns-then-given-place : goal.returns-then-given-place
returns-then-given-place c = λ events are.
    sym (stands_if_given events c.args.given.now c.args.value _ _ are c.if-place-given.true c.if-given-place.true)

pub returns-in-Ok : goal.returns-in-Ok
returns-in-Ok c = λ events are.
    rw c.in-Ok.is at (found_if_given events c.args.given.now c.args.value c.binary_search.result are c.binary_search.ensures.position)

pub returns-in-Err : goal.returns-in-Err
returns-in-Err c = λ events are.
    rw c.in-Err.is at (found_if_given events c.args.given.now c.args.value c.binary_search.result are c.binary_search.ensures.position)
