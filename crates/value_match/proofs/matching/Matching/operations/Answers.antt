use Rattle.value_match.proofs.Common.{arith, course_of, IsClear, operations_of, refl, subst}
use Rattle.history_merge.proofs.Timelines.{length_timeline}
use Rattle.value_match.proofs.HistoryPlaces.{clear_told, few_initial}
use Rattle.value_match.proofs.matching.Matching.operations.Goals as goal

pub returns-clause-few : goal.returns-clause-few
returns-clause-few c =
    let history = c.self.inside.history.now in
    let few = c.self.invariant.few in
    rw (← c.self.view_is) (omega (arith, few, length_timeline history.initial (operations_of history.events)))

pub returns-clause-clear : goal.returns-clause-clear
returns-clause-clear c =
    let history = c.self.inside.history.now in
    let operations = operations_of history.events in
    let few = few_initial history.initial operations c.self.invariant.clear.complete in
    subst (λ matching. IsClear (course_of matching)) c.self.view_is
    (clear_told history.initial operations (history.events, refl, c.operations.ensures.from, few) c.self.invariant.clear)
