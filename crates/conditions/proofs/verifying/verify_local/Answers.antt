use Rattle.std.proofs.Common.{◌↔◌, ◌∙◌, ap, IsTrue, subst, sym}
use Rattle.std.proofs.lemmas.Result.{IfOk-weaker}
use Rattle.verdicts.specs.Selection.{contents_of}
use Rattle.claims.specs.declared.claimed.Claimed.TheVariants.{Yes}
use Rattle.conditions.specs.Claims.{IsTrueLocalClaim}
use Rattle.conditions.proofs.verifying.verify_local.Goals as goal

pub returns-in-Yes : goal.returns-in-Yes
returns-in-Yes c = record {
  exact = IfOk-weaker c.are_orders_in_turn.result _ _
      (λ valid is. subst (λ claimed. IsTrue valid ↔ IsTrueLocalClaim c.args.emptiness (contents_of c.args.history.now) claimed)
      (ap Yes c.as_slice.ensures ∙ sym c.in-Yes.is) (is c.args.emptiness c.in_ok-selections.ensures)) c.are_orders_in_turn.ensures;
}

pub returns : goal.returns
returns c = record {
  exact = IfOk-weaker c.is_true_of_some.result _ _
      (λ valid is. is c.args.emptiness c.in_ok-selections.ensures _ _ c.in-No.is) c.is_true_of_some.ensures;
}
