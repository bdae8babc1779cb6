use Rattle.std.proofs.Common.{refl}
use Rattle.stress_run.proofs.Ended.{proved_ring, within_ring}
use Rattle.stress_run.proofs.proving.run_between.Goals as goal

pub returns-clause-proved : goal.returns-clause-proved
returns-clause-proved g c =
    let run = c.in_ok-lists.ensures in
    let end = c.close_with_ring-total.ensures in
    let total = c.close_with_ring-total.result in
    proved_ring _ _ _ _ _ _ end.log c.requires.run.2 c.args.start.names (run.lists total end.drawn) (run.told refl)
    _ _ _ c.args.start.within (run.recorded total end.drawn)

pub returns-clause-bounded : goal.returns-clause-bounded
returns-clause-bounded g c =
    let run = c.in_ok-lists.ensures in
    let end = c.close_with_ring-total.ensures in
    within_ring _ _ _ _ _ _ end.log c.requires.run.2 c.args.start.names (run.lists c.close_with_ring-total.result end.drawn) (run.told refl) _ c.requires.run.3
