use Rattle.commands.proofs.Common.{ap, carries, HasText, said_in, sym, ◌∙◌}
use Rattle.commands.specs.Inputs.{history_in}
use Rattle.commands.proofs.input.history_in.Goals as goal

pub returns-in_err-_version-clause-fault : goal.returns-in_err-_version-clause-fault
returns-in_err-_version-clause-fault c =
    let has : HasText (history_in c.args.text.now) = record { initial = c.requires.lines.0; events = c.requires.lines.1 } in
    rw (carries c.from_residual-in_err-_version.result _ c.from_residual-in_err-_version.ensures.1)
    (c.in_err-_version.ensures.fault (history_in c.args.text.now) has c.in_ok-gathered.ensures)

pub returns-in_err-_version-clause-clash : goal.returns-in_err-_version-clause-clash
returns-in_err-_version-clause-clash c =
    let has : HasText (history_in c.args.text.now) = record { initial = c.requires.lines.0; events = c.requires.lines.1 } in
    rw (carries c.from_residual-in_err-_version.result _ c.from_residual-in_err-_version.ensures.1)
    (c.in_err-_version.ensures.clash (history_in c.args.text.now) has c.in_ok-gathered.ensures)

pub returns-clause-history : goal.returns-clause-history
returns-clause-history c =
    let has : HasText (history_in c.args.text.now) = record { initial = c.requires.lines.0; events = c.requires.lines.1 } in
    let is = c.in_ok-_version.ensures.history (history_in c.args.text.now) has c.in_ok-gathered.ensures in
    ap (λ v. said_in v c.in_ok-_version.history) (sym (ap (λ t. t.version) is)) ∙ is
