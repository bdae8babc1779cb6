use Rattle.text_lines.proofs.Digits.{between_powers, of_zero}
use Rattle.text_lines.proofs.in_place.decimal_len.Goals as goal

pub returns-in-Some : goal.returns-in-Some
returns-in-Some c = between_powers c.in-Some.tens c.args.number c.in-Some.ensures.power_le c.in-Some.ensures.next_power_gt c.ranges.number.fits

pub returns-in-None : goal.returns-in-None
returns-in-None c = of_zero c.args.number c.in-None.ensures.none
