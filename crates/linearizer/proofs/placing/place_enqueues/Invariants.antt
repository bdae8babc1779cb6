use Rattle.linearizer.proofs.Common.{IsMergedUpTo, ordered_lives}
use Rattle.linearizer.proofs.placing.place_enqueues.Given as goal

abbrev pub invariant-loop-rank : goal.invariant-loop-rank
invariant-loop-rank l = IsMergedUpTo l.matching (ordered_lives l.matching l.order) l.noops l.rank
    l.so_far.dequeues l.so_far.left l.so_far.noops l.places.items
