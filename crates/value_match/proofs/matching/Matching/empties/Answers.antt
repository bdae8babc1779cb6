use Rattle.value_match.proofs.Common.{operations_of}
use Rattle.value_match.proofs.HistoryPlaces.{empties_told}
use Rattle.value_match.proofs.matching.Matching.empties.Goals as goal

pub returns : goal.returns
returns c =
    let history = c.self.inside.history.now in
    rw (← c.self.view_is, c.new.ensures, c.initial.ensures.initial, c.as_slice.ensures.value)
    (empties_told history.initial (operations_of history.events) c.initial.ensures.few c.self.inside.sorted.empties.items c.self.invariant.empties)
