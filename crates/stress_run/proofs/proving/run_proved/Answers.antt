use Rattle.std.proofs.Common.{inr, List, ℕ, subst, ap, ◌∙◌}
use Rattle.std.specs.Prelude.{IfOk, IfSome}
use Rattle.std.proofs.lemmas.Result.{IfOk-weaker, IfErr-weaker}
use Rattle.event_records.specs.declared.event.Event.{Event}
use Rattle.history_merge.specs.Initial.{IsCompleteFrom}
use Rattle.history_merge.specs.Legal.{IsLinearizable}
use Rattle.history_merge.specs.Merge.{IsMerged}
use Rattle.history_merge.specs.Operations.{operations_of}
use Rattle.recorder_core.specs.Replay.{Replays}
use Rattle.stress_run.specs.Bounded.{room_of}
use Rattle.stress_run.specs.Crew.{SizesView}
use Rattle.stress_run.specs.Inner.Proved.{IsRunWithin}
use Rattle.stress_run.proofs.Preloads.{fault_from, names_no_value}
use Rattle.stress_run.proofs.proving.run_proved.Goals as goal

pub returns-clause-linearizable : goal.returns-clause-linearizable
returns-clause-linearizable g c = IfOk-weaker c.run_held.result _ _ (λ r is.
    subst (λ (values : List ℕ). (merged : List Event) → IsMerged r.lists merged → IsLinearizable values (operations_of merged))
    c.in_ok-sizes.ensures.held.0 is.linearizable) c.run_held.ensures.proved

pub returns-clause-bounded : goal.returns-clause-bounded
returns-clause-bounded g c =
    subst (λ (values : List ℕ). IfSome (room_of c.args.queue values c.args.plan.now) (λ room. IfOk c.run_held.result (IsRunWithin room values)))
    c.in_ok-sizes.ensures.held.0 c.run_held.ensures.bounded

pub returns-clause-fits : goal.returns-clause-fits
returns-clause-fits g c = IfOk-weaker c.run_held.result _ _ (λ r is.
    subst (λ (values : List ℕ). (merged : List Event) → IsMerged r.lists merged → IsCompleteFrom values merged)
    c.in_ok-sizes.ensures.held.0 is.fits) c.run_held.ensures.proved

pub returns-clause-replays : goal.returns-clause-replays
returns-clause-replays g c =
    let ring = ap (λ (s : SizesView). s.ring) c.in_ok-sizes.ensures.sizes.0 in
    IfOk-weaker c.run_held.result _ _ (λ r is.
    subst (λ (n : ℕ). Replays n c.args.initial.now r.lists) ring
    (subst (λ (values : List ℕ). Replays c.in_ok-sizes.sizes.ring values r.lists) c.in_ok-sizes.ensures.held.0 is.replays)) c.run_held.ensures.proved

pub returns-clause-fault : goal.returns-clause-fault
returns-clause-fault g c =
    IfErr-weaker c.run_held.result _ _ (λ fault is. inr (fault_from _ c.args.initial.now c.args.plan.now c.in_ok-sizes.sizes
    (record { ring = c.args.ring; tries = c.args.tries }) fault c.in_ok-sizes.ensures.sizes.0 c.in_ok-sizes.ensures.sizes.1 is)) c.run_held.ensures.fault

pub returns-clause-preloads : goal.returns-clause-preloads
returns-clause-preloads g c = λ place is. names_no_value _ c.args.plan.now _ c.run_held.result place is c.run_held.ensures.fault

pub returns-clause-sizes : goal.returns-clause-sizes
returns-clause-sizes g c = λ not_within. absurd (not_within c.in_ok-sizes.ensures.sizes.1)

pub returns-clause-names : goal.returns-clause-names
returns-clause-names g c = λ not_names. absurd (not_names c.in_ok-sizes.ensures.held.1)

pub returns-clause-recorded : goal.returns-clause-recorded
returns-clause-recorded g c = IfOk-weaker c.run_held.result _ _ (λ r is. is.recorded) c.run_held.ensures.proved

pub returns-clause-lists : goal.returns-clause-lists
returns-clause-lists g c = IfOk-weaker c.run_held.result _ _ (λ r is. is.lists) c.run_held.ensures.proved

pub returns-clause-initial : goal.returns-clause-initial
returns-clause-initial g c = IfOk-weaker c.run_held.result _ _ (λ r is. is.from_initial ∙ c.in_ok-sizes.ensures.held.0) c.run_held.ensures.proved
