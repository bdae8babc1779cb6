use Rattle.order_violation.proofs.Common.{arith, Contains-append_left, Contains-append_right, FindsFirst, subst}
use Rattle.order_violation.proofs.Chosen.{high_is_first, low_is_first, sooner_is_first}
use Rattle.order_violation.proofs.overtaking.first_of.Goals as goal

pub returns-in-None-default : goal.returns-in-None-default
returns-in-None-default c values xs ys a b = high_is_first values xs ys c.args.second (subst (FindsFirst values xs) c.in-None-default.is-0 a) b

pub returns-in-Some-None : goal.returns-in-Some-None
returns-in-Some-None c values xs ys a b = low_is_first values xs ys c.in-Some-None.first (subst (FindsFirst values xs) c.in-Some-None.is-0 a)
    (subst (FindsFirst values ys) c.in-Some-None.is-1 b)

pub returns-then-dequeue_return : goal.returns-then-dequeue_return
returns-then-dequeue_return c values xs ys a b =
    let both = c.in-Some-Some in
    let is_a = subst (FindsFirst values xs) both.is-0 a in
    sooner_is_first values xs ys xs both.first both.second both.first is_a (subst (FindsFirst values ys) both.is-1 b) is_a
    (Contains-append_left xs ys both.first is_a.among) (omega arith)
    (omega (arith, c.dequeue_return.ensures, c.dequeue_return-in-Some-Some.ensures, c.if-dequeue_return.true))

pub returns-else-dequeue_return : goal.returns-else-dequeue_return
returns-else-dequeue_return c values xs ys a b =
    let both = c.in-Some-Some in
    let is_b = subst (FindsFirst values ys) both.is-1 b in
    sooner_is_first values xs ys ys both.first both.second both.second (subst (FindsFirst values xs) both.is-0 a) is_b is_b
    (Contains-append_right xs ys both.second is_b.among)
    (omega (arith, c.dequeue_return.ensures, c.dequeue_return-in-Some-Some.ensures, c.if-dequeue_return.false)) (omega arith)
