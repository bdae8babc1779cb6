use Rattle.text_lines.proofs.Common.{◌≡◌, ◌∙◌, ◌++◌, take, length, ap, arith, decimal, length-decimal-le}
use Rattle.text_lines.proofs.Common.{length-take-le}
use Rattle.text_lines.proofs.Digits.{written_at}
use Rattle.text_lines.proofs.in_place.InPlace.push_decimal.Goals as goal

pub overflow_add-end : goal.overflow_add-end
overflow_add-end g c =
    let same : length (take c.self.inside.len c.self.inside.bytes) ≡ length c.args.self.now = ap length c.self.view_is in
    let long = length-take-le c.self.inside.len c.self.inside.bytes (omega arith) in
    let short = length-decimal-le 20 c.args.number (omega arith) (omega arith) (omega arith) in
    omega (arith, same, long, short, g.MOST.fits)

pub write_digits-requires : goal.write_digits-requires
write_digits-requires g c =
    let same : length (take c.self.inside.len c.self.inside.bytes) ≡ length c.args.self.now = ap length c.self.view_is in
    let long = length-take-le c.self.inside.len c.self.inside.bytes (omega arith) in
    let short = length-decimal-le 20 c.args.number (omega arith) (omega arith) (omega arith) in
    (omega arith, omega (arith, same, long, short))

pub returns : goal.returns
returns g c =
    let w = c.write_digits in
    let at : w.result ≡ c.self.inside.len = omega arith in
    written_at c.self.inside.bytes w.new.buf (decimal c.args.number) c.self.inside.len c.decimal_len.result _ (rw at at w.ensures.before)
    (rw at at w.ensures.written) c.decimal_len.ensures ∙ ap (λ bytes. bytes ++ decimal c.args.number) c.self.view_is
