use Rattle.linearizer.proofs.Common.{IsMergedUpTo, IsValueFrom, length, Life, List, NoneBelow, ℕ, ◌-◌, Contents}
use Rattle.linearizer.proofs.placing.place_noops.Given as goal

abbrev pub invariant-loop-count : goal.invariant-loop-count
invariant-loop-count l = (history : Contents) (lives : List Life) (i j left : ℕ) → NoneBelow (IsValueFrom lives i j) l.before
    → IsMergedUpTo history lives l.noops i j left l.initial.count l.initial.places.items
    → IsMergedUpTo history lives l.noops i j left l.count l.places.items

abbrev pub decreases-loop-count : goal.decreases-loop-count
decreases-loop-count l = length l.noops - l.count
