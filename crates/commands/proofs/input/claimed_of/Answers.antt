use Rattle.commands.proofs.Common.{◌++◌, arith, carries, claim_on, IsClaimOf, refl, text_of, verdict_text}
use Rattle.commands.proofs.Inputs.{claim_history_fault, over_input, verdict_fault}
use Rattle.history_text.proofs.Consuming.{Takes-append}
use Rattle.commands.proofs.input.claimed_of.Goals as goal

pub returns-in_err-gathered-clause-fault : goal.returns-in_err-gathered-clause-fault
returns-in_err-gathered-clause-fault g c = rw (carries c.from_residual.result _ c.from_residual.ensures.1)
    (claim_history_fault (g.S.TextSource.ahead c.args.reader) _ (rw c.new-texts.ensures at c.in_err-gathered.ensures.fault))

pub returns-in_err-claimed-clause-fault : goal.returns-in_err-claimed-clause-fault
returns-in_err-claimed-clause-fault g c = rw (carries c.from_residual-in_err-claimed.result _ c.from_residual-in_err-claimed.ensures.1)
    (let read = rw c.new-texts.ensures at c.in_ok-gathered.ensures.text in
    verdict_fault (g.S.TextSource.ahead c.args.reader) _ read.0 _ _ read.1 read.2 (omega (arith, read.3)) c.in_err-claimed.ensures.fault)

pub returns-clause-claim : goal.returns-clause-claim
returns-clause-claim g c =
    let read = rw c.new-texts.ensures at c.in_ok-gathered.ensures.text in
    let claimed = c.in_ok-claimed.ensures.claim in (
      read.0,
      read.1,
      read.3.1,
      over_input (g.S.TextSource.ahead c.args.reader) _ (text_of read.0 ++ verdict_text c.in_ok-claimed.claimed)
          (λ input. IsClaimOf input (claim_on read.0 c.in_ok-claimed.claimed)) (Takes-append _ _ _ _ _ read.2 claimed.1) claimed.2
          (record { history = read.1; verdict = claimed.0; whole = record { bytes = refl; ending = refl } }),
    )
