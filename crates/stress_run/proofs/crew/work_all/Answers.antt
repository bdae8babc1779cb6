use Rattle.std.proofs.Common.{arith, sym, subst, get_or, rules}
use Rattle.stress_run.specs.Noted.{KeepsNotes}
use Rattle.stress_run.specs.Workers.{WorksIn, WorkerView}
use Rattle.stress_run.proofs.Zipped.{IfOk-both}
use Rattle.collector.proofs.Draining.{zip_each}
use Rattle.stress_run.proofs.crew.work_all.Goals as goal

pub returns-clause-worked : goal.returns-clause-worked
returns-clause-worked g c =
    let R : WorkerView → WorkerView → Type 0 = WorksIn (g.Q.Asked.may c.args.queue.now) c.args.rows.now in
    IfOk-both c.map_vec.result _ _ _ c.map_vec.ensures.len c.map_vec.ensures.each
    (λ v len each. zip_each R c.args.workers.items v.items (omega (arith, len, v.ok.0, c.args.workers.ok.0))
    (λ i h x y. let j = (each i y h).1 in
    let P : WorkerView → Type 0 = λ z. R z (get_or v.items i y) in
    subst P (sym (j.job_is x)) (let ran = j.call in search rules)))

pub returns-clause-told : goal.returns-clause-told
returns-clause-told g c =
    let R : WorkerView → WorkerView → Type 0 = KeepsNotes (g.Q.Asked.notes c.args.queue.now) in
    IfOk-both c.map_vec.result _ _ _ c.map_vec.ensures.len c.map_vec.ensures.each
    (λ v len each. zip_each R c.args.workers.items v.items (omega (arith, len, v.ok.0, c.args.workers.ok.0))
    (λ i h x y. let j = (each i y h).1 in
    let P : WorkerView → Type 0 = λ z. R z (get_or v.items i y) in
    subst P (sym (j.job_is x)) (let ran = j.call in search rules)))
