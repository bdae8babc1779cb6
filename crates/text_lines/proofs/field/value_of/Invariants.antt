use Rattle.text_lines.proofs.Common.{◌≡◌, take, digits_value}
use Rattle.text_lines.proofs.field.value_of.Given as goal

abbrev pub invariant-loop-digit : goal.invariant-loop-digit
invariant-loop-digit l = l.value ≡ digits_value 10 (take l.digit-index l.digits)
