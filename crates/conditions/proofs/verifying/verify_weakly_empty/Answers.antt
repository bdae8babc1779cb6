use Rattle.std.proofs.Common.{◌↔◌, IsTrue, subst}
use Rattle.std.proofs.lemmas.Result.{IfOk-weaker}
use Rattle.conditions.specs.Claims.{IsTrueOf}
use Rattle.conditions.proofs.verifying.verify_weakly_empty.Goals as goal

pub returns : goal.returns
returns c = record {
  exact = IfOk-weaker c.verify.result _ _
      (λ valid is. subst (λ contents. IsTrue valid ↔ IsTrueOf contents c.args.claimed.now) c.in_ok-part.ensures.contents is) c.verify.ensures.exact;
}
