use Rattle.commands.proofs.Common.{carries, HasText, IsHistoryOf, IsTextFault, NoRoomForText, refl, text_of}
use Rattle.commands.proofs.Inputs.{end_fault, text_fault, whole_input}
use Rattle.commands.proofs.input.gathered_of.Goals as goal

pub returns-in_err-gathered-clause-fault : goal.returns-in_err-gathered-clause-fault
returns-in_err-gathered-clause-fault g c = rw (carries c.from_residual.result _ c.from_residual.ensures.1)
    (text_fault HasText text_of IsTextFault NoRoomForText (g.S.TextSource.ahead c.args.reader) _
    (rw c.new-texts.ensures at c.in_err-gathered.ensures.fault))

pub returns-in_err-at_end-clause-fault : goal.returns-in_err-at_end-clause-fault
returns-in_err-at_end-clause-fault g c =
    let read = rw c.new-texts.ensures at c.in_ok-gathered.ensures.text in
    rw (carries c.from_residual-in_err-at_end.result _ c.from_residual-in_err-at_end.ensures.1)
    (end_fault HasText text_of IsTextFault NoRoomForText (g.S.TextSource.ahead c.args.reader) _ read.0 _ read.1 read.2 c.in_err-at_end.ensures.fault)

pub returns-clause-text : goal.returns-clause-text
returns-clause-text g c =
    let read = rw c.new-texts.ensures at c.in_ok-gathered.ensures.text in
    let end = c.in_ok-at_end.ensures.left in (
      read.0,
      read.1,
      read.3.1,
      whole_input (g.S.TextSource.ahead c.args.reader) _ _ (text_of read.0) (λ input. IsHistoryOf input read.0) read.2 end.0 end.1
          (read.1, record { bytes = refl; ending = refl }),
    )
