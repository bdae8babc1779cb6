use Rattle.std.proofs.Common.{subst, sym}
use Rattle.std.proofs.lemmas.Result.{IfOk-weaker}
use Rattle.commands.proofs.Conditions.{within_locally}
use Rattle.claims.specs.Claiming.{IsWithin}
use Rattle.verdicts.specs.Selection.{contents_of}
use Rattle.commands.proofs.judging.decide_under.Goals as goal

pub returns-in_ok-found-clause-places : goal.returns-in_ok-found-clause-places
returns-in_ok-found-clause-places g c =
    let whole = contents_of c.args.history.now in
    IfOk-weaker c.into_verdict.result _ _ (λ verdict is. subst (IsWithin whole.initial whole.operations) (sym is)
    (within_locally c.emptiness_of.result whole c.in_ok-found.found c.in_ok-found.ensures)) c.into_verdict.ensures
