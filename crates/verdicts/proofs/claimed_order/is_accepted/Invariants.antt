use Rattle.verdicts.proofs.Common.{accept_all, drop, map, ◌≡◌}
use Rattle.verdicts.proofs.claimed_order.is_accepted.Given as goal

abbrev pub invariant-loop-line : goal.invariant-loop-line
invariant-loop-line l =
    accept_all l.first_held (map (λ o. o.kind) l.lines) ≡ accept_all l.queue.items (map (λ o. o.kind) (drop l.line-index l.lines))
