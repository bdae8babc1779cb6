use Rattle.std.proofs.Common.{◌≡◌, subst, arith}
use Rattle.std.proofs.lemmas.Grind.{common_steps}
use Rattle.stress_run.specs.Workers.{WorksOrStalls, row_of}
use Rattle.stress_run.proofs.crew.work_row.Goals as goal

pub returns-clause-works : goal.returns-clause-works
returns-clause-works g c =
    let row : c.as_slice.result.now ≡ row_of c.args.rows.now c.args.worker = grind (arith, common_steps) in
    subst (λ kinds. WorksOrStalls (g.Q.Asked.may c.args.queue.now) kinds c.args.worker c.work.result) row c.work.ensures.works
