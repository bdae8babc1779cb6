use Rattle.commands.proofs.Common.{⊎_map, answer_of, AnswersOrNoMemory, carries, claim_on, inr, said_by, said_in, subst}
use Rattle.commands.proofs.Drawings.{drawn_part}
use Rattle.commands.proofs.OneAnswer.{faulty_or}
use Rattle.commands.specs.Drawing.{DrawsClaim, DrawsSound}
use Rattle.commands.specs.Inputs.{history_in}
use Rattle.std.proofs.Common.{None}
use Rattle.commands.proofs.draw.draw_claimed.Goals as goal

pub returns-in_err-whole-clause-found : goal.returns-in_err-whole-clause-found
returns-in_err-whole-clause-found c = rw (carries c.from_residual.result _ c.from_residual.ensures.1)
    (faulty_or (said_by (history_in c.args.text.now)) _ c.in_err-whole.ensures.fault)

pub returns-clause-found : goal.returns-clause-found
returns-clause-found c =
    let part = c.in_ok-history.ensures in
    let options = c.args.options in
    let version = c.args.text.now.version in
    subst (λ t. AnswersOrNoMemory (DrawsClaim options) (claim_on t c.args.claimed.now) (answer_of c.draw_claim.result))
    c.in_ok-whole.ensures.history
    (⊎_map (λ sound. inr (
      c.recall_complete.ensures.sound,
      drawn_part options.condition.is_weakly_empty (said_in version c.in_ok-whole.whole) c.in_ok-history.history
          (λ t a. DrawsSound options None (claim_on t c.args.claimed.now) a) _ part.whole part.selected part.events part.complete sound,
    ))
    (λ memory. memory) (c.draw_claim.ensures.found version))
