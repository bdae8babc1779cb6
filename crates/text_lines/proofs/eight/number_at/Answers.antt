use Rattle.text_lines.proofs.Common.{arith}
use Rattle.text_lines.proofs.EightDigits.{number_stands_at}
use Rattle.text_lines.proofs.eight.number_at.Goals as goal

pub returns-clause-number : goal.returns-clause-number
returns-clause-number c =
    number_stands_at c.args.bytes.now c.args.at c.in_ok-count.count c.in_ok-count.value c.in_ok-count.ensures.digits (omega arith) (omega arith)
    (λ many zero. c.if-bytes-at-eq48.false zero)
