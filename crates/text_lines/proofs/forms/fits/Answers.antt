use Rattle.text_lines.proofs.Common.{◌∙◌, sym}
use Rattle.text_lines.proofs.Tables.{fields_are_few, fields_are_over}
use Rattle.text_lines.proofs.forms.fits.Goals as goal

pub returns-in_default : goal.returns-in_default
returns-in_default c =
    sym (c.loop-form.invariant ∙ fields_are_few c.args.forms.now c.loop-form.form-index c.loop-form.left c.loop-form-test.true c.in_default.is)

pub returns : goal.returns
returns c =
    sym (c.loop-form.invariant
    ∙ fields_are_over c.args.forms.now c.loop-form.form-index c.loop-form.left c.is_none.result c.loop-form-test.false c.is_none.ensures)
