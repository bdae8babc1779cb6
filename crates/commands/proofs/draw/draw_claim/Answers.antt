use Rattle.commands.proofs.Common.{ap, arith, carries, claim_on, inl, inr, IsSmall, length, None, refl, said_in, subst, sym}
use Rattle.commands.specs.Judging.{IsEvident}
use Rattle.commands.proofs.draw.draw_claim.Goals as goal

pub returns-in_err-drawn-clause-found : goal.returns-in_err-drawn-clause-found
returns-in_err-drawn-clause-found c = λ version.
    rw (carries c.from_residual.result _ c.from_residual.ensures.1) (c.in_err-drawn.ensures.large version None)

pub returns-then-not-branch-clause-found : goal.returns-then-not-branch-clause-found
returns-then-not-branch-clause-found c = λ version.
    let small : IsSmall c.args.options (claim_on (said_in version c.args.history.now) c.args.claimed.now) = record {
      few_lines = c.in_ok-drawn.ensures.few_lines;
      few_operations = omega (arith, ap length c.in_ok-drawn.ensures.drawn, c.in_ok-drawn.ensures.few);
    } in
    let text = said_in version c.args.history.now in
    inl (inl (
      small,
      inr (
        λ evident.
            let yes = c.in_ok-verify_under.ensures.exact.1 (subst (λ k. IsEvident k (claim_on text c.args.claimed.now)) (sym c.strict.ensures) evident) in cc,
        refl,
      ),
    ))
