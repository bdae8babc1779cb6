use Rattle.verdicts.specs.Selection.{contents_of}
use Rattle.conditions.specs.declared.producer.Emptiness.{Emptiness}
use Rattle.conditions.specs.Inner.Judging.{AreJudged}
use Rattle.conditions.specs.Inner.Sharing.{AreSharedOut}
use Rattle.conditions.proofs.local.decide_selections.Given as goal

abbrev pub invariant-loop-rank : goal.invariant-loop-rank
invariant-loop-rank g l = (emptiness : Emptiness) → AreSharedOut emptiness (contents_of l.history) l.selections.used l.selections.buckets.items
    → AreJudged emptiness (contents_of l.history) l.rank l.orders.items
