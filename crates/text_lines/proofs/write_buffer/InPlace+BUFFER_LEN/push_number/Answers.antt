use Rattle.text_lines.proofs.Common.{length, ap, arith, length-append, decimal, length-decimal-le}
use Rattle.text_lines.proofs.write_buffer.InPlace+BUFFER_LEN.push_number.Goals as goal

pub returns-clause-short : goal.returns-clause-short
returns-clause-short c =
    omega (
      arith,
      ap length c.push_decimal.ensures,
      length-append c.args.self.now (decimal c.args.number),
      length-decimal-le 20 c.args.number (omega arith) (omega arith) (omega arith),
    )
