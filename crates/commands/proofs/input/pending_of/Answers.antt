use Rattle.commands.proofs.Common.{carries, inl, inr, refl}
use Rattle.commands.proofs.Inputs.{end_fault, from_start, text_fault, whole_input}
use Rattle.commands.specs.Completing.{IsPendingOf}
use Rattle.history_text.specs.Pending.{HasPendingText, IsPendingTextFault, NoRoomForPending, pending_text}
use Rattle.commands.proofs.input.pending_of.Goals as goal
use Rattle.commands.proofs.input.pending_of.Goals.{then-is_whole+in_ok-at_end, else-is_whole}

pub returns-in_err-text-clause-fault : goal.returns-in_err-text-clause-fault
returns-in_err-text-clause-fault g c = rw (carries c.from_residual.result _ c.from_residual.ensures.1)
    (text_fault HasPendingText pending_text (IsPendingTextFault c.args.takes_cut) NoRoomForPending (g.S.TextSource.ahead c.args.reader) _
    (rw c.new-texts.ensures at c.in_err-text.ensures.fault))

pub returns-in_err-at_end-clause-fault : goal.returns-in_err-at_end-clause-fault
returns-in_err-at_end-clause-fault g c =
    let read = rw (c.new-texts.ensures, c.if-is_whole.true) at c.in_ok-text.ensures.text in
    rw (carries c.from_residual-in_err-at_end.result _ c.from_residual-in_err-at_end.ensures.1)
    (end_fault HasPendingText pending_text (IsPendingTextFault c.args.takes_cut) NoRoomForPending (g.S.TextSource.ahead c.args.reader) _ c.in_ok-text.text _
    read.0 read.1 c.in_err-at_end.ensures.fault)

pub returns-clause-text : goal.returns-clause-text
returns-clause-text g c =
    let known = g.S.TextSource.ahead c.args.reader in
    let text = c.in_ok-text.text in
    elim c.if-is_whole.branch [
      | then-is_whole+in_ok-at_end w ↦
          let read = rw (c.new-texts.ensures, w.if-is_whole.true) at c.in_ok-text.ensures.text in
          let end = w.in_ok-at_end.ensures.left in
          whole_input known _ _ (pending_text text) (λ input. IsPendingOf c.args.takes_cut input text) read.1 end.0 end.1
          (inl (read.0, record { bytes = refl; ending = refl }))
      | else-is_whole w ↦
          let read = rw (c.new-texts.ensures, w.if-is_whole.false) at c.in_ok-text.ensures.text in
          let cut = read.1 in
          from_start known (λ input. IsPendingOf c.args.takes_cut input text)
          (record { input = cut.input; may = cut.may; is_so = inr (read.0, cut.is_so) })
    ]
