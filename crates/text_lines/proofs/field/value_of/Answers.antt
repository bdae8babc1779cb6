use Rattle.text_lines.proofs.Common.{arith}
use Rattle.text_lines.proofs.Digits.{digits_go_on, digits_are_beyond}
use Rattle.text_lines.proofs.field.value_of.Goals as goal

pub returns-then-value-last : goal.returns-then-value-last
returns-then-value-last c =
    let beyond = digits_are_beyond c.args.digits.now c.loop-digit.digit-index c.loop-digit.value c.from-last.result c.loop-digit-test.true
    c.if-not-is_ascii_digit.ensures.cases c.from-last.ensures c.loop-digit.invariant c.if-value-last.true in
    λ small. omega arith

pub loop-digit-preserved : goal.loop-digit-preserved
loop-digit-preserved c =
    digits_go_on c.args.digits.now c.loop-digit.digit-index c.loop-digit.value c.from-last.result c.loop-digit-test.true
    c.if-not-is_ascii_digit.ensures.cases c.from-last.ensures c.loop-digit.invariant
