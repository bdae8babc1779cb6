use Rattle.value_match.proofs.Common.{arith}
use Rattle.value_match.proofs.ByKind.{pair_within}
use Rattle.value_match.proofs.accepted.Values.get.Goals as goal

pub value_of-requires-clause-enqueue : goal.value_of-requires-clause-enqueue
value_of-requires-clause-enqueue c =
    (pair_within _ _ _ _ c.self.invariant (omega (arith, c.if-place-pairs.false)) c.index-pairs-place.is).0

pub value_of-requires-clause-dequeue : goal.value_of-requires-clause-dequeue
value_of-requires-clause-dequeue c =
    (pair_within _ _ _ _ c.self.invariant (omega (arith, c.if-place-pairs.false)) c.index-pairs-place.is).1
