use Rattle.value_match.proofs.Common.{AreTakers, subst}
use Rattle.value_match.proofs.RepeatedDequeues.{clear_from_takers, dequeues_by_enqueues}
use Rattle.value_match.proofs.values.find.Goals as goal

pub by_kind-requires-clause-clear : goal.by_kind-requires-clause-clear
by_kind-requires-clause-clear c =
    clear_from_takers _ c.in-Once.dequeues.items c.requires.complete c.in_default.ensures (subst (AreTakers _) c.in-Once.is c.takers_of.ensures)

pub by_kind-requires-clause-dequeues : goal.by_kind-requires-clause-dequeues
by_kind-requires-clause-dequeues c =
    rw c.as_slice-in-Once.ensures.value (dequeues_by_enqueues _ c.in-Once.dequeues.items c.in_default.ensures (subst (AreTakers _) c.in-Once.is c.takers_of.ensures))
