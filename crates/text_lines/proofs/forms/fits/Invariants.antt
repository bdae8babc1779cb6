use Rattle.text_lines.proofs.Common.{◌≡◌, map, drop, form_of, fields_left, fits, fields_of}
use Rattle.text_lines.proofs.forms.fits.Given as goal

abbrev pub invariant-loop-form : goal.invariant-loop-form
invariant-loop-form l = fits (map form_of l.forms) (fields_of l.bytes) ≡ fits (map form_of (drop l.form-index l.forms)) (fields_left l.left)
