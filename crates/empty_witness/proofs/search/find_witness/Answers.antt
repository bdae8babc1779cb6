use Rattle.empty_witness.proofs.Common.{nil_from_length, rules}
use Rattle.empty_witness.proofs.Answers.{empties_timed, places_are_empty}
use Rattle.empty_witness.proofs.search.find_witness.Goals as goal

pub witness_of-requires : goal.witness_of-requires
witness_of-requires c =
    let none = nil_from_length c.empties-empties.result (search rules) in
    (c.empties-empties.result, empties_timed _ _ c.empties-empties.ensures, rw (none, c.new.ensures.items) tt)

pub windows_at-requires-clause-empties : goal.windows_at-requires-clause-empties
windows_at-requires-clause-empties c = places_are_empty c.args.matching.now.operations c.empties-empties.result c.empties-empties.ensures

pub witness_of-requires-2 : goal.witness_of-requires-2
witness_of-requires-2 c = (c.empties-empties.result, empties_timed _ _ c.empties-empties.ensures, c.in_ok-windows.ensures)
