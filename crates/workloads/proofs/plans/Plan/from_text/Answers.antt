use Rattle.std.proofs.Common.{ℕ, List, sym, ◌∙◌, subst}
use Rattle.event_records.specs.declared.kind.Kind.{Kind}
use Rattle.workloads.specs.declared.texts.PlanFault.TheVariants.{Memory}
use Rattle.workloads.specs.Plans.{IsPlan}
use Rattle.workloads.specs.Texts.{IsFaultOf}
use Rattle.workloads.proofs.FaultsOfTexts.{one_fault, memory_is}
use Rattle.workloads.proofs.LinesOfTexts.{read_once}
use Rattle.workloads.proofs.plans.Plan.from_text.Goals as goal

pub within_limits-requires : goal.within_limits-requires
within_limits-requires c =
    let plan = c.in_default.ensures in
    subst (λ (rows : List (List Kind)). IsPlan rows) (read_once plan.rows c.in_ok-rows.rows.items (sym plan.text_is ∙ c.in_ok-rows.ensures)) plan.within

pub returns-in-Some-clause-exact : goal.returns-in-Some-clause-exact
returns-in-Some-clause-exact c = λ fault is.
    let here = subst (λ (text : List ℕ). IsFaultOf text fault) (sym c.as_bytes-text.ensures.value) is in
    one_fault c.as_bytes-text.result.now _ fault c.in-Some.ensures here

pub returns-in_err-rows-clause-exact : goal.returns-in_err-rows-clause-exact
returns-in_err-rows-clause-exact c = λ fault is.
    let here = subst (λ (text : List ℕ). IsFaultOf text fault) (sym c.as_bytes-text.ensures.value) is in
    let same = one_fault c.as_bytes-text.result.now Memory fault c.in_default.ensures here in
    memory_is c.from_residual.result fault c.from_residual.ensures.1 same

pub returns-clause-exact : goal.returns-clause-exact
returns-clause-exact c = λ fault is.
    let here = subst (λ (text : List ℕ). IsFaultOf text fault) (sym c.as_bytes-text.ensures.value) is in
    sym (one_fault c.as_bytes-text.result.now Memory fault c.in_default.ensures here)
