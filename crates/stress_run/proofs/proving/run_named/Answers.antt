use Rattle.std.proofs.Common.{List, ℕ, sym, subst, refl}
use Rattle.history_merge.specs.Queue.{IsAccepted}
use Rattle.stress_run.specs.Noted.{kinds_noted}
use Rattle.stress_run.proofs.Ended.{proved_run}
use Rattle.stress_run.proofs.proving.run_named.Goals as goal

pub returns-clause-proved : goal.returns-clause-proved
returns-clause-proved g c =
    let run = c.in_ok-lists.ensures in
    let end = c.close_with_log-total.ensures in
    let total = c.close_with_log-total.result in
    proved_run _ _ _ _ _ c.args.start.names (run.lists total end.drawn) (run.told refl) end.noted end.rise
    (subst (λ (values : List ℕ). IsAccepted values (kinds_noted c.into_log-log.result.notes)) (sym c.requires.run.1) c.into_log-log.ensures.accepted) _ _ _ c.args.start.within
    (run.recorded total end.drawn)
