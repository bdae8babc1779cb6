use Rattle.history_text.proofs.Common.{arith, claim_line_format, first_line, inr, IsVerdictTextFault, ItemFault, line}
use Rattle.history_text.proofs.Common.{None, NoRoom, NoRoomForVerdict, operation_format, refl, Some, ◌+◌}
use Rattle.history_text.proofs.Consuming.{taken_through, Takes-append}
use Rattle.history_text.proofs.FirstFaults.{carries, later_fault}
use Rattle.history_text.proofs.reader.TextReader.lines_of_claim.Goals as goal

pub returns-in_err-items-in-None-clause-fault : goal.returns-in_err-items-in-None-clause-fault
returns-in_err-items-in-None-clause-fault g c =
    rw (carries c.from_residual-in_err-items-in-None.result _ c.from_residual-in_err-items-in-None.ensures.1)
    (later_fault (λ n e r f. ItemFault operation_format n e f r) (IsVerdictTextFault c.args.self.now.lines) (NoRoom operation_format) NoRoomForVerdict
    (c.args.self.now.lines + 2) _ _ _ (line (first_line None)) _ (omega (arith, c.in_ok-answer.ensures.lines))
    (rw c.in-None.is at c.in_ok-answer.ensures.ok) (λ e r f k. inr (None, (r, refl, k))) (λ r k. (None, (r, refl, k)))
    c.in_err-items-in-None.ensures.fault)

pub returns-in_err-items-in-Some-clause-fault : goal.returns-in_err-items-in-Some-clause-fault
returns-in_err-items-in-Some-clause-fault g c =
    let answer = Some c.in-Some.kind in
    rw (carries c.from_residual-in_err-items-in-Some.result _ c.from_residual-in_err-items-in-Some.ensures.1)
    (later_fault (λ n e r f. ItemFault claim_line_format n e f r) (IsVerdictTextFault c.args.self.now.lines) (NoRoom claim_line_format)
    NoRoomForVerdict (c.args.self.now.lines + 2) _ _ _ (line (first_line answer)) _ (omega (arith, c.in_ok-answer.ensures.lines))
    (rw c.in-Some.is at c.in_ok-answer.ensures.ok) (λ e r f k. inr (answer, (r, refl, k))) (λ r k. (answer, (r, refl, k)))
    c.in_err-items-in-Some.ensures.fault)

pub returns-in-None-clause-claim : goal.returns-in-None-clause-claim
returns-in-None-clause-claim g c =
    let first = rw c.in-None.is at c.in_ok-answer.ensures.ok in
    let read = c.in_ok-items-in-None.ensures.taken in
    rw c.from_vec-operations.ensures (
      c.in_ok-items-in-None.ensures.each,
      Takes-append _ _ _ _ _ first (taken_through _ _ _ _ read.1 read.2.0),
      read.2.1,
    )

pub returns-in-Some-clause-claim : goal.returns-in-Some-clause-claim
returns-in-Some-clause-claim g c =
    let first = rw c.in-Some.is at c.in_ok-answer.ensures.ok in
    let read = c.in_ok-items-in-Some.ensures.taken in
    rw c.from_vec-lines.ensures (
      c.in_ok-items-in-Some.ensures.each,
      Takes-append _ _ _ _ _ first (taken_through _ _ _ _ read.1 read.2.0),
      read.2.1,
    )
