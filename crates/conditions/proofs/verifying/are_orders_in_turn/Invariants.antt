use Rattle.verdicts.specs.Selection.{contents_of}
use Rattle.conditions.specs.declared.producer.Emptiness.{Emptiness}
use Rattle.conditions.specs.Inner.Sharing.{AreSharedOut}
use Rattle.conditions.proofs.InTurn.{IsLeft}
use Rattle.conditions.proofs.verifying.are_orders_in_turn.Given as goal

abbrev pub invariant-loop-rank : goal.invariant-loop-rank
invariant-loop-rank l = (emptiness : Emptiness) → AreSharedOut emptiness (contents_of l.history) l.selections.used l.selections.buckets.items
    → IsLeft emptiness (contents_of l.history) l.rank l.rest l.lines
