use Rattle.value_match.proofs.Common.{AreChosenFresh, AreChosenRepeat, IsClear, IsMatchOutcomeOf, on, operations_of}
use Rattle.value_match.proofs.Common.{refl, subst}
use Rattle.value_match.proofs.HistoryPlaces.{clear_told, fresh_told, repeat_told}
use Rattle.value_match.proofs.values.match_values.Goals as goal

pub returns-in-Fresh-clause-matched : goal.returns-in-Fresh-clause-matched
returns-in-Fresh-clause-matched c =
    let history = c.args.history.now in
    let found = subst (IsMatchOutcomeOf _) c.in-Fresh.is c.in_ok-sorted.ensures in
    let chosen = subst (λ all. AreChosenFresh all c.in-Fresh.places) c.by_time.ensures.by_time found in
    rw (c.fresh_violation.ensures, c.initial-initial_count.ensures.initial)
    (fresh_told history.initial (operations_of history.events) c.initial-initial_count.ensures.few c.in-Fresh.places chosen)

pub returns-in-Repeat-clause-matched : goal.returns-in-Repeat-clause-matched
returns-in-Repeat-clause-matched c =
    let history = c.args.history.now in
    let found = subst (IsMatchOutcomeOf _) c.in-Repeat.is c.in_ok-sorted.ensures in
    let chosen = subst (λ all. AreChosenRepeat all c.in-Repeat.places) c.by_time.ensures.by_time found in
    rw (c.repeat_violation.ensures, c.initial-initial_count.ensures.initial)
    (repeat_told history.initial (operations_of history.events) c.initial-initial_count.ensures.few c.in-Repeat.places chosen)

pub returns-in-Clear-clause-matched : goal.returns-in-Clear-clause-matched
returns-in-Clear-clause-matched c =
    let history = c.args.history.now in
    let is = c.initial-initial_count.ensures in
    let found = subst (IsMatchOutcomeOf _) c.in-Clear.is c.in_ok-sorted.ensures in
    let clear = subst (λ all. IsClear (on all)) c.by_time.ensures.by_time found.clear in
    (c.new.ensures, clear_told history.initial (operations_of history.events) (history.events, refl, is.complete, is.few) clear)
