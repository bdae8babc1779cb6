use Rattle.linearizer.proofs.Common.{IsEnqueueFrom, IsMergedUpTo, length, NoneBelow, ordered_lives, ℕ, ◌-◌}
use Rattle.linearizer.proofs.placing.place_dequeues.Given as goal

abbrev pub invariant-loop-so_far : goal.invariant-loop-so_far
invariant-loop-so_far l = (i : ℕ) → NoneBelow (IsEnqueueFrom (ordered_lives l.matching l.order) i) l.before
    → IsMergedUpTo l.matching (ordered_lives l.matching l.order) l.noops i l.initial.so_far.dequeues
    l.initial.so_far.left l.initial.so_far.noops
    l.initial.places.items
    → IsMergedUpTo l.matching (ordered_lives l.matching l.order) l.noops i l.so_far.dequeues l.so_far.left
    l.so_far.noops l.places.items

abbrev pub decreases-loop-so_far : goal.decreases-loop-so_far
decreases-loop-so_far l = length l.order - l.so_far.dequeues
