use Rattle.std.proofs.Common.{◌≡◌, ◌∙◌, length, ap, refl, arith}
use Rattle.std.specs.Prelude.{max}
use Rattle.stress_run.specs.declared.TheConstants.{RING_PLACES}
use Rattle.stress_run.proofs.Ended.{proved_ring, within_ring}
use Rattle.stress_run.proofs.proving.run_ring.Goals as goal

pub returns-clause-proved : goal.returns-clause-proved
returns-clause-proved g c =
    let initial = c.in_ok-tickets.ensures.initial ∙ c.as_slice.ensures.value in
    let run = c.in_ok-lists.ensures in
    let end = c.close_with_ring-total.ensures in
    let total = c.close_with_ring-total.result in
    proved_ring _ _ _ _ _ _ end.log initial c.args.start.names (run.lists total end.drawn) (run.told refl)
    _ _ _ c.args.start.within (run.recorded total end.drawn)

pub returns-clause-bounded : goal.returns-clause-bounded
returns-clause-bounded g c =
    let initial = c.in_ok-tickets.ensures.initial ∙ c.as_slice.ensures.value in
    let run = c.in_ok-lists.ensures in
    let end = c.close_with_ring-total.ensures in
    let long : c.len.result ≡ length c.args.start.held.items = (let ok = c.args.start.held.ok.0 in omega (arith, ok, c.len.ensures)) in
    let room = c.in_ok-tickets.ensures.room ∙ c.max.ensures ∙ ap (max RING_PLACES) long in
    within_ring _ _ _ _ _ _ end.log initial c.args.start.names (run.lists c.close_with_ring-total.result end.drawn) (run.told refl) _ room
