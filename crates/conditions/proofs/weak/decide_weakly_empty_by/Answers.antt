use Rattle.std.proofs.Common.{ap, sym, true, false}
use Rattle.std.specs.Prelude.{slice_get}
use Rattle.std.proofs.lemmas.Result.{IfOk-weaker}
use Rattle.conditions.proofs.Places.{decided_of_part}
use Rattle.conditions.proofs.Parts.{all_pass}
use Rattle.conditions.proofs.weak.decide_weakly_empty_by.Goals as goal

pub returns : goal.returns
returns g c =
    let whole = c.args.history.now in
    IfOk-weaker c.moved_verdict.result _ _
    (λ moved is. decided_of_part whole (λ value. true) (λ call. false) c.in_ok-part.part c.in_ok-verdict.verdict c.as_slice.result.now moved c.in_ok-part.ensures
    c.as_slice.ensures.value (λ p within. ap (λ values. slice_get values p) (sym (all_pass whole.initial))) c.in_ok-verdict.ensures is)
    c.moved_verdict.ensures
