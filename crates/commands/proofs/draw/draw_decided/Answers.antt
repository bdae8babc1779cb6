use Rattle.commands.proofs.Common.{⊎_map, carries, subst}
use Rattle.commands.proofs.OneAnswer.{decided_is_true}
use Rattle.commands.specs.Drawing.{strict}
use Rattle.commands.specs.Judging.{IsVerdictClaim}
use Rattle.commands.proofs.draw.draw_decided.Goals as goal

pub draw_evidence-requires-clause-evidence : goal.draw_evidence-requires-clause-evidence
draw_evidence-requires-clause-evidence c =
    let history = c.args.history.now in
    let right = subst (λ k. IsVerdictClaim k history c.in_ok-claimed.claimed) c.strict.ensures c.in_ok-claimed.ensures in
    decided_is_true (strict c.args.options.condition) history c.in_ok-claimed.claimed c.recall_complete.ensures.sound c.recall_complete.ensures.few right

pub returns-in_err-drawn-clause-found : goal.returns-in_err-drawn-clause-found
returns-in_err-drawn-clause-found c = λ version.
    let history = c.args.history.now in
    let right = subst (λ k. IsVerdictClaim k history c.in_ok-claimed.claimed) c.strict.ensures c.in_ok-claimed.ensures in
    rw (carries c.from_residual-in_err-drawn.result _ c.from_residual-in_err-drawn.ensures.1) (⊎_map (λ sound. record {
      claimed = c.in_ok-claimed.claimed;
      right = right;
      evident = decided_is_true (strict c.args.options.condition) history c.in_ok-claimed.claimed c.recall_complete.ensures.sound c.recall_complete.ensures.few right;
      answered = sound;
    }) (λ memory. memory) (c.in_err-drawn.ensures.large version c.args.added_from))

pub returns-clause-found : goal.returns-clause-found
returns-clause-found c = λ version.
    let history = c.args.history.now in
    let right = subst (λ k. IsVerdictClaim k history c.in_ok-claimed.claimed) c.strict.ensures c.in_ok-claimed.ensures in
    ⊎_map (λ sound. record {
      claimed = c.in_ok-claimed.claimed;
      right = right;
      evident = decided_is_true (strict c.args.options.condition) history c.in_ok-claimed.claimed c.recall_complete.ensures.sound c.recall_complete.ensures.few right;
      answered = sound;
    }) (λ memory. memory) (c.draw_evidence.ensures.found version)
