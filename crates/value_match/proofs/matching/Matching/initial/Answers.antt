use Rattle.value_match.proofs.Common.{course_of, IsClear, operations_of, refl, subst}
use Rattle.value_match.proofs.HistoryPlaces.{clear_told}
use Rattle.value_match.proofs.matching.Matching.initial.Goals as goal

pub returns-clause-clear : goal.returns-clause-clear
returns-clause-clear c =
    let history = c.self.inside.history.now in
    let is = c.initial.ensures in
    subst (λ matching. IsClear (course_of matching)) c.self.view_is (clear_told history.initial (operations_of history.events)
    (history.events, refl, is.complete, is.few) c.self.invariant.clear)
