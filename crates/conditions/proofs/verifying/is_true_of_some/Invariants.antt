use Rattle.verdicts.specs.Selection.{contents_of}
use Rattle.conditions.specs.declared.producer.Emptiness.{Emptiness}
use Rattle.conditions.specs.Inner.Sharing.{AreSharedOut}
use Rattle.conditions.proofs.InTurn.{IsOfNone}
use Rattle.conditions.proofs.verifying.is_true_of_some.Given as goal

abbrev pub invariant-loop-rank : goal.invariant-loop-rank
invariant-loop-rank l = (emptiness : Emptiness) → AreSharedOut emptiness (contents_of l.history) l.selections.used l.selections.buckets.items
    → IsOfNone emptiness (contents_of l.history) l.rank l.claimed
