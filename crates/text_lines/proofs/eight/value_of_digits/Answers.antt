use Rattle.text_lines.proofs.EightDigits.{value_of_eight}
use Rattle.text_lines.proofs.eight.value_of_digits.Goals as goal

pub returns : goal.returns
returns c = λ digits eight is. value_of_eight digits c.args.word eight is
