use Rattle.std.proofs.Common.{◌↔◌, ◌≡◌, Bool, false, IsTrue, refl, subst, sym, true}
use Rattle.std.proofs.lemmas.Result.{IfOk-weaker}
use Rattle.commands.specs.Conditions.{emptiness_if, IsTrueBy}
use Rattle.conditions.specs.Claims.{IsTrueLocalClaim}
use Rattle.history_merge.specs.Initial.{Contents}
use Rattle.verdicts.specs.Selection.{contents_of}
use Rattle.claims.specs.declared.claimed.Claimed.{Claimed}
use Rattle.commands.proofs.judging.verify_under.Goals as goal

-- a fact with these flags is one with equal flags
with_flags : (valid local weak is_local is_weak : Bool) (whole : Contents) (claimed : Claimed) → local ≡ is_local → weak ≡ is_weak
    → IsTrue valid ↔ IsTrueBy is_local is_weak whole claimed → IsTrue valid ↔ IsTrueBy local weak whole claimed
with_flags valid local weak is_local is_weak whole claimed same also is =
    subst (λ b. IsTrue valid ↔ IsTrueBy b weak whole claimed) (sym same) (subst (λ b. IsTrue valid ↔ IsTrueBy is_local b whole claimed) (sym also) is)

pub returns-then-condition : goal.returns-then-condition
returns-then-condition c =
    let whole = contents_of c.args.history.now in
    let condition = c.args.condition in record {
      exact = IfOk-weaker c.verify_local.result _ _ (λ valid is.
          with_flags valid condition.is_local condition.is_weakly_empty true condition.is_weakly_empty whole c.args.claimed.now c.if-condition.true refl
          (subst (λ e. IsTrue valid ↔ IsTrueLocalClaim e whole c.args.claimed.now) c.emptiness_of.ensures is)) c.verify_local.ensures.exact;
    }

pub returns-then-condition-2 : goal.returns-then-condition-2
returns-then-condition-2 c =
    let whole = contents_of c.args.history.now in
    let condition = c.args.condition in record {
      exact = IfOk-weaker c.verify_weakly_empty.result _ _ (λ valid is.
          with_flags valid condition.is_local condition.is_weakly_empty false true whole c.args.claimed.now c.if-condition.false c.if-condition-2.true is)
          c.verify_weakly_empty.ensures.exact;
    }

pub returns-else-condition-2 : goal.returns-else-condition-2
returns-else-condition-2 c =
    let whole = contents_of c.args.history.now in
    let condition = c.args.condition in record {
      exact = IfOk-weaker c.verify.result _ _ (λ valid is.
          with_flags valid condition.is_local condition.is_weakly_empty false false whole c.args.claimed.now c.if-condition.false c.if-condition-2.false is)
          c.verify.ensures.exact;
    }
