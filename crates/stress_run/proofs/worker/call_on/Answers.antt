use Rattle.std.proofs.Common.{◌≤◌, ap, length, subst, sym, ◌∙◌}
use Rattle.stress_run.specs.Workers.{WorkerView}
use Rattle.stress_run.proofs.Once.{stalls_still}
use Rattle.stress_run.proofs.worker.call_on.Goals as goal

pub returns-then-worker-clause-stalls : goal.returns-then-worker-clause-stalls
returns-then-worker-clause-stalls g c =
    let same = c.worker.view_is in
    stalls_still _ _ (sym (ap (λ (w : WorkerView). w.stopped) same) ∙ c.if-worker.true)
    (subst (λ (w : WorkerView). w.capacity ≤ length w.sent) same (c.worker.invariant.2 c.if-worker.true))
