use Rattle.history_merge.proofs.Common.{All, All-tail, ORIGIN, subst, ◌≤◌}
use Rattle.history_merge.proofs.operations.OperationsIterator.next.Goals as goal

pub invariant_of-self : goal.invariant_of-self
invariant_of-self c =
    All-tail (λ o. (ORIGIN ≤ o.call) × (ORIGIN ≤ o.ret)) c.in_ok-first.first.now c.in_ok-first.others.now
    (subst (All (λ o. (ORIGIN ≤ o.call) × (ORIGIN ≤ o.ret))) c.in_ok-first.ensures.cases.0 c.self.invariant)
