use Rattle.text_lines.proofs.Common.{◌≡◌, ℕ, ◌+◌, ◌*◌, ◌^◌, arith, ap}
use Rattle.text_lines.proofs.EightDigits.{more_digits}
use Rattle.text_lines.proofs.eight.more_digits_at.Goals as goal

pub returns-clause-digits : goal.returns-clause-digits
returns-clause-digits c =
    let more = c.eight_digits_at-more in
    let moved = ap (λ (power : ℕ). c.args.value * power) c.ten_to.ensures in
    let value : c.in_ok-value.value ≡ c.args.value * 10 ^ more.result.0 + more.result.1 =
    omega (arith, moved, c.in_ok-checked_mul.ensures, c.in_ok-value.ensures) in
    rw value (more_digits c.args.bytes.now c.args.at c.args.count _ _ _ c.requires.so_far more.ensures.digits)
