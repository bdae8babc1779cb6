use Rattle.std.proofs.Common.{◌∙◌, ℕ, List, IfOk, ap, sym, subst}
use Rattle.recorder_core.specs.Initial.{AreInitialNames}
use Rattle.stress_run.specs.Faults.{IsWithinLimits}
use Rattle.std.proofs.lemmas.Result.{IfOk-weaker, IfErr-weaker}
use Rattle.event_records.specs.declared.event.Event.{Event}
use Rattle.history_merge.specs.Initial.{IsCompleteFrom}
use Rattle.history_merge.specs.Merge.{IsMerged}
use Rattle.recorder_core.specs.Replay.{Replays}
use Rattle.stress_run.specs.Crew.{SizesView}
use Rattle.stress_run.proofs.Preloads.{fault_from, names_no_value}
use Rattle.stress_run.proofs.runs.run_from.Goals as goal

pub returns-clause-fits : goal.returns-clause-fits
returns-clause-fits g c =
    subst (λ (values : List ℕ). IfOk c.run_within.result (λ r. (merged : List Event) → IsMerged r.lists merged → IsCompleteFrom values merged))
    c.in_ok-sizes.ensures.held.0 c.run_within.ensures.fits

pub returns-clause-fault : goal.returns-clause-fault
returns-clause-fault g c =
    IfErr-weaker c.run_within.result _ _ (λ fault is. fault_from _ c.args.initial.now c.args.plan.now c.in_ok-sizes.sizes
    (record { ring = c.args.ring; tries = c.args.tries }) fault c.in_ok-sizes.ensures.sizes.0 c.in_ok-sizes.ensures.sizes.1 is) c.run_within.ensures.fault

pub returns-clause-refused : goal.returns-clause-refused
returns-clause-refused g c = λ place is.
    absurd (names_no_value _ c.args.plan.now _ c.run_within.result place is c.run_within.ensures.fault)

pub returns-clause-recorded : goal.returns-clause-recorded
returns-clause-recorded g c = c.run_within.ensures.recorded

pub returns-clause-initial : goal.returns-clause-initial
returns-clause-initial g c = IfOk-weaker c.run_within.result _ _ (λ r same. same ∙ c.in_ok-sizes.ensures.held.0) c.run_within.ensures.initial

pub returns-clause-lists : goal.returns-clause-lists
returns-clause-lists g c = c.run_within.ensures.lists

pub returns-clause-replays : goal.returns-clause-replays
returns-clause-replays g c =
    let ring = ap (λ (s : SizesView). s.ring) c.in_ok-sizes.ensures.sizes.0 in
    IfOk-weaker c.run_within.result _ _ (λ r h.
    subst (λ (n : ℕ). Replays n c.args.initial.now r.lists) ring
    (subst (λ (values : List ℕ). Replays c.in_ok-sizes.sizes.ring values r.lists) c.in_ok-sizes.ensures.held.0 h)) c.run_within.ensures.replays

pub returns-clause-sizes : goal.returns-clause-sizes
returns-clause-sizes g c = λ not_within. absurd (not_within c.in_ok-sizes.ensures.sizes.1)

pub run_within-requires-clause-sizes : goal.run_within-requires-clause-sizes
run_within-requires-clause-sizes g c κs within =
    let e = c.in_ok-sizes.ensures.sizes in subst (λ (s : SizesView). IsWithinLimits s.ring s.tries) (sym e.0) e.1

pub run_within-requires-clause-names : goal.run_within-requires-clause-names
run_within-requires-clause-names g c κs within = let e = c.in_ok-sizes.ensures.held in subst AreInitialNames (sym e.0) e.1

pub returns-clause-names : goal.returns-clause-names
returns-clause-names g c = λ not_names. absurd (not_names c.in_ok-sizes.ensures.held.1)

pub returns-in_err-preload_all-clause-names : goal.returns-in_err-preload_all-clause-names
returns-in_err-preload_all-clause-names g c = λ not_names. absurd (not_names c.in_ok-sizes.ensures.held.1)

pub returns-in_err-preload_all-clause-sizes : goal.returns-in_err-preload_all-clause-sizes
returns-in_err-preload_all-clause-sizes g c = λ not_within. absurd (not_within c.in_ok-sizes.ensures.sizes.1)
