use Rattle.text_lines.proofs.Common.{refl}
use Rattle.core.proofs.dec2flt.Eight.{bytes_of}
use Rattle.core.specs.Dec2flt.Digits.{IsEightBytes}
use Rattle.text_lines.proofs.Digits.{digits_front_are}
use Rattle.text_lines.proofs.EightDigits.{counted, valued}
use Rattle.text_lines.proofs.eight.digits_in.Goals as goal

pub returns-clause-digits : goal.returns-clause-digits
returns-clause-digits c =
    let bytes = c.args.bytes.now in
    let eight : IsEightBytes bytes = (c.told-bytes, bytes_of bytes c.fits-bytes) in
    let count = counted bytes c.from_le_bytes-lanes.result _ _ eight c.from_le_bytes-lanes.ensures refl refl in
    digits_front_are bytes _ _ count (valued bytes c.from_le_bytes-lanes.result _ _ eight c.from_le_bytes-lanes.ensures refl refl _ _ refl c.value_of_digits.ensures)
