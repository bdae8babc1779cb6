use Rattle.std.proofs.Common.{List, ℕ, subst, refl, ◌∙◌}
use Rattle.history_merge.specs.Queue.{IsAccepted}
use Rattle.stress_run.specs.Noted.{kinds_noted}
use Rattle.stress_run.proofs.Accepting.{noted_accepted}
use Rattle.stress_run.proofs.Ended.{proved_run}
use Rattle.stress_run.proofs.proving.run_lock_free.Goals as goal

pub returns-clause-proved : goal.returns-clause-proved
returns-clause-proved g c =
    let run = c.in_ok-lists.ensures in
    let total = c.close_with_shared_nodes-total.result in
    let drawn = c.close_with_shared_nodes-total.ensures.drawn in
    let end = c.close_with_shared_nodes-total.ensures.log in
    proved_run _ _ _ _ _ c.args.start.names (run.lists total drawn) (run.told refl) end.1 end.2
    (subst (λ (values : List ℕ). IsAccepted values (kinds_noted end.0)) (c.in_ok-tickets.ensures.initial ∙ c.as_slice.ensures.value) (noted_accepted _ end.0 end.3)) _ _ _
    c.args.start.within (run.recorded total drawn)
