use Rattle.value_match.proofs.Common.{operations_of}
use Rattle.value_match.proofs.HistoryPlaces.{few_initial, lists_its_lives, values_told}
use Rattle.value_match.proofs.matching.Matching.values.Goals as goal

pub returns-clause-values : goal.returns-clause-values
returns-clause-values c =
    let history = c.self.inside.history.now in
    let operations = operations_of history.events in
    rw (← c.self.view_is, c.new.ensures, c.by_time.ensures.by_time, c.as_slice.ensures.value, c.initial.ensures.initial, ← c.self.view_is)
    (values_told history.initial operations (few_initial history.initial operations c.self.invariant.clear.complete) c.self.inside.sorted.values.items
    c.self.invariant.values)

pub returns-clause-lives : goal.returns-clause-lives
returns-clause-lives c = lists_its_lives _ _ c.initial.ensures.clear
