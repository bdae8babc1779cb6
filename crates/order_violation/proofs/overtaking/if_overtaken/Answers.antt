use Rattle.order_violation.proofs.Common.{arith, enqueue_call, EntersBefore, FindsLongest, Overtakes, subst, sym}
use Rattle.order_violation.proofs.Chosen.{longest_is_not_overtaken, longest_is_overtaken, none_overtaken}
use Rattle.order_violation.proofs.overtaking.if_overtaken.Goals as goal

pub returns-in_err-a : goal.returns-in_err-a
returns-in_err-a c = λ values finds.
    let b = c.args.b.now in
    let none = subst (FindsLongest (EntersBefore (enqueue_call b)) values) c.in_err-a.was finds in
    subst (FindsLongest (Overtakes b) values) (sym c.from_residual.ensures) (none_overtaken values b none)

pub returns-then-left-dequeue_call : goal.returns-then-left-dequeue_call
returns-then-left-dequeue_call c = λ values finds.
    let b = c.args.b.now in
    let longest = subst (FindsLongest (EntersBefore (enqueue_call b)) values) c.in_ok-a.was finds in
    longest_is_overtaken values b c.in_ok-a.a longest (omega arith)

pub returns-else-left-dequeue_call : goal.returns-else-left-dequeue_call
returns-else-left-dequeue_call c = λ values finds.
    let b = c.args.b.now in
    let longest = subst (FindsLongest (EntersBefore (enqueue_call b)) values) c.in_ok-a.was finds in
    longest_is_not_overtaken values b c.in_ok-a.a longest (omega arith)
