use Rattle.commands.proofs.Common.{alone, ap, arith, carries, claim_on, IsClaimOf, IsDrawableOf, List, refl, sym, verdict_text, ℕ, ◌++◌, ◌∙◌}
use Rattle.commands.proofs.Inputs.{drawable_end_fault, drawable_read_fault, drawable_text_fault, drawable_verdict_fault, none_next, over_left}
use Rattle.commands.proofs.Inputs.{plain_text, read_whole, whole_left}
use Rattle.commands.specs.Inputs.{history_in}
use Rattle.std.proofs.Common.{not}
use Rattle.history_text.proofs.Consuming.{taken_through, Takes-append}
use Rattle.history_text.specs.Pending.{pending_text}
use Rattle.commands.proofs.input.text_of.Goals as goal

pub returns-in_err-text-clause-fault : goal.returns-in_err-text-clause-fault
returns-in_err-text-clause-fault g c = rw (carries c.from_residual.result _ c.from_residual.ensures.1)
    (drawable_text_fault _ _ (rw c.requires.lines at c.in_err-text.ensures.fault))

pub returns-in_err-at_end-clause-fault : goal.returns-in_err-at_end-clause-fault
returns-in_err-at_end-clause-fault g c =
    let whole = read_whole _ _ _ _ _ c.in_ok-text.ensures.text in
    rw (carries c.from_residual-in_err-at_end.result _ c.from_residual-in_err-at_end.ensures.1)
    (drawable_end_fault _ _ _ _ (sym c.is_some.ensures ∙ c.if-is_some.true) whole.1 whole.2 c.in_err-at_end.ensures.fault)

pub returns-then-is_some-clause-drawable : goal.returns-then-is_some-clause-drawable
returns-then-is_some-clause-drawable g c =
    let text = c.in_ok-text.text in
    let whole = read_whole _ _ _ _ _ c.in_ok-text.ensures.text in
    let end = c.in_ok-at_end.ensures.left in
    whole_left _ _ _ (pending_text text) (λ input. IsDrawableOf input (alone text)) whole.2 end.0 end.1 (whole.1, record { bytes = refl; ending = refl })

pub returns-in_err-next-clause-fault : goal.returns-in_err-next-clause-fault
returns-in_err-next-clause-fault g c =
    let whole = read_whole _ _ _ _ _ c.in_ok-text.ensures.text in
    rw (carries c.from_residual-in_err-next.result _ c.from_residual-in_err-next.ensures.1)
    (drawable_read_fault _ _ _ _ (sym c.is_some.ensures ∙ c.if-is_some.false) whole.1 whole.2 c.in_err-next.ensures.fault)

pub returns-then-is_none-clause-drawable : goal.returns-then-is_none-clause-drawable
returns-then-is_none-clause-drawable g c =
    let text = c.in_ok-text.text in
    let whole = read_whole _ _ _ _ _ c.in_ok-text.ensures.text in
    whole_left _ _ _ (pending_text text) (λ input. IsDrawableOf input (alone text)) whole.2 c.in_ok-next.ensures.left
    (none_next _ _ (c.is_none.ensures ∙ ap not c.if-is_none.true) c.in_ok-next.ensures.next) (whole.1, record { bytes = refl; ending = refl })

pub returns-in_err-claimed-clause-fault : goal.returns-in_err-claimed-clause-fault
returns-in_err-claimed-clause-fault g c =
    let whole = read_whole _ _ _ _ _ c.in_ok-text.ensures.text in
    let counted = c.in_ok-text.ensures.count whole.0 in
    rw (carries c.from_residual-in_err-claimed.result _ c.from_residual-in_err-claimed.ensures.1)
    (drawable_verdict_fault _ _ _ _ _ _ _ (sym c.is_some.ensures ∙ c.if-is_some.false) whole.1 whole.2 c.in_ok-next.ensures.left
    (c.is_none.ensures ∙ ap not c.if-is_none.false) c.in_ok-next.ensures.next
    (omega (arith, counted, c.requires.lines, c.in_ok-next.ensures.lines)) c.in_err-claimed.ensures.fault)

pub returns-clause-drawable : goal.returns-clause-drawable
returns-clause-drawable g c =
    let text = c.in_ok-text.text in
    let whole = read_whole _ _ _ _ _ c.in_ok-text.ensures.text in
    let claimed = c.in_ok-claimed.ensures.claim in
    let plain = plain_text text (sym c.is_some.ensures ∙ c.if-is_some.false) whole.1 in
    over_left _ _ (pending_text text ++ verdict_text c.in_ok-claimed.claimed)
    (λ input. IsClaimOf input (claim_on (history_in text) c.in_ok-claimed.claimed))
    (Takes-append _ _ _ _ _ (taken_through _ _ _ _ whole.2 c.in_ok-next.ensures.left) claimed.1) claimed.2
    (record {
      history = plain.0;
      verdict = claimed.0;
      whole = record { bytes = ap (λ (t : List ℕ). t ++ verdict_text c.in_ok-claimed.claimed) plain.1; ending = refl };
    })
