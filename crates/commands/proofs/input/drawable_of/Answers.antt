use Rattle.commands.proofs.Common.{carries, IsDrawableOf}
use Rattle.commands.proofs.Inputs.{fault_by_first, first_byte_fault, looked_at}
use Rattle.commands.specs.Inputs.{drawable, of_yes}
use Rattle.std.proofs.Common.{false, true}
use Rattle.commands.proofs.input.drawable_of.Goals as goal

pub returns-in_err-begins_as_yes-clause-fault : goal.returns-in_err-begins_as_yes-clause-fault
returns-in_err-begins_as_yes-clause-fault g c = rw (carries c.from_residual.result _ c.from_residual.ensures.1)
    (first_byte_fault (g.S.TextSource.ahead c.args.reader) _ (rw c.new-texts.ensures at c.in_err-begins_as_yes.ensures.fault))

pub returns-in_err-lines-clause-fault : goal.returns-in_err-lines-clause-fault
returns-in_err-lines-clause-fault g c = rw (carries c.from_residual-in_err-lines.result _ c.from_residual-in_err-lines.ensures.1)
    (fault_by_first (g.S.TextSource.ahead c.args.reader) _ true _ (rw c.new-texts.ensures at c.in_ok-begins_as_yes.ensures.left)
    (rw c.if-branch.true at c.in_ok-begins_as_yes.ensures.begins) c.in_err-lines.ensures.fault)

pub returns-then-branch-clause-drawable : goal.returns-then-branch-clause-drawable
returns-then-branch-clause-drawable g c =
    looked_at (g.S.TextSource.ahead c.args.reader) _ (λ input. IsDrawableOf input (of_yes c.in_ok-lines.lines))
    (rw c.new-texts.ensures at c.in_ok-begins_as_yes.ensures.left) c.in_ok-lines.ensures.yes

pub returns-in_err-text-clause-fault : goal.returns-in_err-text-clause-fault
returns-in_err-text-clause-fault g c = rw (carries c.from_residual-in_err-text.result _ c.from_residual-in_err-text.ensures.1)
    (fault_by_first (g.S.TextSource.ahead c.args.reader) _ false _ (rw c.new-texts.ensures at c.in_ok-begins_as_yes.ensures.left)
    (rw c.if-branch.false at c.in_ok-begins_as_yes.ensures.begins) c.in_err-text.ensures.fault)

pub returns-clause-drawable : goal.returns-clause-drawable
returns-clause-drawable g c =
    looked_at (g.S.TextSource.ahead c.args.reader) _ (λ input. IsDrawableOf input (drawable c.in_ok-text.text c.in_ok-text.claimed))
    (rw c.new-texts.ensures at c.in_ok-begins_as_yes.ensures.left) c.in_ok-text.ensures.drawable
