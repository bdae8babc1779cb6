use Rattle.text_lines.proofs.Common.{◌≡◌, ◌≤◌, length, map, drop, form_of, fields_left, numbers_in, fields_of}
use Rattle.text_lines.proofs.Tables.{after_numbers}
use Rattle.text_lines.proofs.forms.numbers_in.Given as goal

abbrev pub invariant-loop-form : goal.invariant-loop-form
invariant-loop-form l = record {
  few : length l.numbers ≤ l.form-index;
  rest : numbers_in l.line (map form_of l.forms) (fields_of l.bytes)
      ≡ after_numbers l.numbers (numbers_in l.line (map form_of (drop l.form-index l.forms)) (fields_left l.left));
}
