use Rattle.std.proofs.Common.{◌≡◌, ◌⊎◌, ◌*◌, List, [], length, map, sum_by, refl, ap, sym, subst, ◌∙◌}
use Rattle.std.proofs.lemmas.Result.{IfOk-weaker, IfErr-weaker}
use Rattle.tickets.specs.Views.{PassView, fresh_pass}
use Rattle.event_records.specs.declared.kind.Kind.{Kind}
use Rattle.collector.specs.Ends.{AreInOrder, AreFresh, rings_of}
use Rattle.workloads.specs.Plans.{IsPlan}
use Rattle.stress_run.specs.Ends.{no_ends}
use Rattle.stress_run.specs.Operations.{IsRun}
use Rattle.stress_run.specs.Roles.{HasOneOfEach}
use Rattle.stress_run.specs.Inner.Crew.{AreClosed}
use Rattle.stress_run.specs.Failed.{IsFaultOfRun}
use Rattle.stress_run.specs.Crew.{token_of}
use Rattle.stress_run.proofs.Finished.{closing_fault, tokens_own, in_order, ends_fresh, ready, keys, rings, whole, is_run}
use Rattle.stress_run.proofs.Noting.{noted_all}
use Rattle.stress_run.proofs.Recording.{are_recorded}
use Rattle.stress_run.proofs.runs.run_on.Goals as goal

pub with_room-requires-clause-order : goal.with_room-requires-clause-order
with_room-requires-clause-order g c =
    let e = c.in_ok-rest.ensures in
    subst AreInOrder (sym e.ends) (in_order _ _ _ _ e.workers)

pub with_room-requires-clause-fresh : goal.with_room-requires-clause-fresh
with_room-requires-clause-fresh g c =
    let e = c.in_ok-rest.ensures in
    subst AreFresh (sym e.ends) (ends_fresh c.in_ok-rest.field-0.workers.items)

pub close_and_seal-requires-clause-keys : goal.close_and_seal-requires-clause-keys
close_and_seal-requires-clause-keys g c = keys _ _ _ _ c.in_ok-rest.ensures.workers _ _ c.in_ok-workers.ensures.worked

pub close_and_seal-requires-clause-rest : goal.close_and_seal-requires-clause-rest
close_and_seal-requires-clause-rest g c = ap (λ (pass : PassView). pass.key) c.in_ok-rest.ensures.rest

pub close_and_seal-requires-clause-rings : goal.close_and_seal-requires-clause-rings
close_and_seal-requires-clause-rings g c =
    let e = c.in_ok-rest.ensures in
    let k = c.in_ok-workers.ensures in
    rings _ _ _ _ e.workers _ _ k.worked ∙ sym (k.rings ∙ ap rings_of (ap (λ v. v.rings) c.in_ok-collector.ensures ∙ e.ends))

pub close_and_seal-requires-clause-order : goal.close_and_seal-requires-clause-order
close_and_seal-requires-clause-order g c = tokens_own _ _ _ _ c.in_ok-rest.ensures.workers _ _ c.in_ok-workers.ensures.worked _ refl

pub make_crew-requires-clause-plan : goal.make_crew-requires-clause-plan
make_crew-requires-clause-plan g c =
    let r = c.rows-rows.ensures in
    subst IsPlan (sym r.rows) r.limits

pub make_crew-requires-clause-pass : goal.make_crew-requires-clause-pass
make_crew-requires-clause-pass g c =
    c.requires.pass ∙ ap (λ (rows : List (List Kind)). fresh_pass c.args.tickets.now.key (2 * sum_by length rows)) (sym c.rows-rows.ensures.rows)

pub make_crew-requires-clause-roles : goal.make_crew-requires-clause-roles
make_crew-requires-clause-roles g c = subst (λ (rows : List (List Kind)). (c.args.own ≡ no_ends) ⊎ HasOneOfEach rows) (sym c.rows-rows.ensures.rows) c.requires.roles

pub work_and_collect-requires-clause-ready : goal.work_and_collect-requires-clause-ready
work_and_collect-requires-clause-ready g c κs within =
    let e = c.in_ok-rest.ensures in
    let r = c.rows-rows.ensures in
    ready _ _ _ _ e.workers (subst IsPlan (sym r.rows) r.limits) _ c.args.own c.requires.serves e.served

pub returns-clause-key : goal.returns-clause-key
returns-clause-key g c =
    IfOk-weaker c.close_and_seal.result _ _ (λ r end. end.closed.key ∙ ap (λ (pass : PassView). pass.key) c.in_ok-rest.ensures.rest)
    c.close_and_seal.ensures.sealed

pub returns-clause-whole : goal.returns-clause-whole
returns-clause-whole g c =
    let e = c.in_ok-rest.ensures in
    let k = c.in_ok-workers.ensures in
    let after = c.in_ok-workers.workers.items in
    IfOk-weaker c.close_and_seal.result _ _ (λ r end.
    whole _ _ _ _ e.workers _ _ k.worked _ _ (subst (λ (rest : PassView). AreClosed rest after (map token_of after) r.1) e.rest end.closed)
    ∙ ap (λ (rows : List (List Kind)). 2 * sum_by length rows) c.rows-rows.ensures.rows) c.close_and_seal.ensures.sealed

pub returns-clause-recorded : goal.returns-clause-recorded
returns-clause-recorded g c =
    let e = c.in_ok-rest.ensures in
    let k = c.in_ok-workers.ensures in
    let after = c.in_ok-workers.workers.items in
    IfOk-weaker c.close_and_seal.result _ _ (λ r end total drawn.
    subst (λ (rows : List (List Kind)). IsRun (g.Q.Asked.may c.args.queue.now) rows r.0 total) c.rows-rows.ensures.rows
    (is_run _ _ _ _ e.workers _ _ k.worked _ _ (subst (λ (rest : PassView). AreClosed rest after (map token_of after) r.1) e.rest end.closed)
    _ _ drawn end.lists_are)) c.close_and_seal.ensures.sealed

pub returns-clause-lists : goal.returns-clause-lists
returns-clause-lists g c =
    IfOk-weaker c.close_and_seal.result _ _ (λ r run total drawn.
    are_recorded _ c.args.plan.now _ total c.rows-rows.ensures.limits (run total drawn)) (returns-clause-recorded g c)

pub returns-clause-told : goal.returns-clause-told
returns-clause-told g c =
    let e = c.in_ok-rest.ensures in
    let k = c.in_ok-workers.ensures in
    let after = c.in_ok-workers.workers.items in
    IfOk-weaker c.close_and_seal.result _ _ (λ r end on.
    noted_all _ _ _ on _ _ _ e.workers k.told _ _ (subst (λ (rest : PassView). AreClosed rest after (map token_of after) r.1) e.rest end.closed)
    _ end.lists_are) c.close_and_seal.ensures.sealed

pub returns-clause-fault : goal.returns-clause-fault
returns-clause-fault g c =
    let e = c.in_ok-rest.ensures in
    IfErr-weaker c.close_and_seal.result _ _ (λ f is.
    subst (λ (rs : List (List Kind)). IsFaultOfRun (g.Q.Asked.may c.args.queue.now) [] rs c.args.sizes f) c.rows-rows.ensures.rows
    (closing_fault _ _ _ _ e.workers _ _ c.in_ok-workers.ensures.worked [] f c.requires.sizes is)) c.close_and_seal.ensures.fault
