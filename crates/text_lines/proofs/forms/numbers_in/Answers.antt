use Rattle.text_lines.proofs.Common.{◌∙◌, sym}
use Rattle.text_lines.proofs.Tables.{numbers_are_over, numbers_are_all}
use Rattle.text_lines.proofs.forms.numbers_in.Goals.{else-loop-form-test, then-loop-form-test+in_default}
use Rattle.text_lines.proofs.forms.numbers_in.Goals as goal

pub returns-clause-value : goal.returns-clause-value
returns-clause-value c =
    elim c.loop-form-test.branch [
      | else-loop-form-test w ↦ sym (c.loop-form.invariant.rest
          ∙ numbers_are_all c.args.line c.loop-form.numbers c.args.forms.now c.loop-form.form-index _ w.loop-form-test.false)
      | then-loop-form-test+in_default w ↦ let none = w.in_default.is in sym (rw none at c.loop-form.invariant.rest
          ∙ numbers_are_over c.args.line c.loop-form.numbers c.args.forms.now c.loop-form.form-index c.loop-form.left)
    ]
