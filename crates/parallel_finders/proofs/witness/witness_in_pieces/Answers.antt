use Rattle.empty_witness.proofs.Answers.{empties_timed, places_are_empty}
use Rattle.parallel_finders.proofs.witness.witness_in_pieces.Goals as goal

pub windows_at_par-requires-clause-empties : goal.windows_at_par-requires-clause-empties
windows_at_par-requires-clause-empties g c κs within =
    places_are_empty c.args.matching.now.operations c.empties-empties.result c.empties-empties.ensures

pub witness_of-requires : goal.witness_of-requires
witness_of-requires g c = (c.empties-empties.result, empties_timed _ _ c.empties-empties.ensures, c.in_ok-windows.ensures)
