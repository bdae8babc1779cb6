-- Digits read eight at a time.
use Rattle.text_lines.proofs.Common.{◌≡◌, ℕ, ◌+◌, ◌-◌, ◌*◌, ◌/◌, ◌^◌, ◌<◌, ◌≤◌, List, [], ◌∷◌, ◌++◌, length, map}
use Rattle.text_lines.proofs.Common.{take, drop, get_or, arith, ap, sym, ◌∙◌, refl, inl, inr, length-drop}
use Rattle.text_lines.proofs.Common.{is_ascii_digit, w64, from_le_bytes, decimal, digits_value, take-add, cases_lt}
use Rattle.text_lines.proofs.Common.{length-take-le, take_all, take_rest, drop-drop, list_all-append}
use Rattle.text_lines.proofs.Common.{prefix_len-le-length, IsDigitsSoFar}
use Rattle.std.proofs.Common.{◌%◌, bit_and, bit_or, bit_xor, eqb, add-zero}
use Rattle.std.specs.Int.{trailing_zeros}
use Rattle.std.proofs.lemmas.List.{get_or-drop}
use Rattle.core.specs.Dec2flt.Digits.{IsEightBytes, IsEightDigits, less_zero}
use Rattle.core.specs.Float.Numeral.{digits_len}
use Rattle.core.specs.Int.Digits.{AllBelowBase, number_from_digits}
use Rattle.core.proofs.dec2flt.DigitsLemmas.{digits_value-append, every_below}
use Rattle.core.proofs.dec2flt.Eight.{all_digits, eight_is, first_other, lanes_are, shifted_is, word_at}
use Rattle.core.proofs.slice.Flagged.{flags_from_ten}
use lib.Dec.{eqb→eq}
use lib.Lanes.{number_l}
use Rattle.text_lines.proofs.Scanning.{number_stands}

-- ---- eight bytes as a word

word_is : (xs : List ℕ) → IsEightBytes xs → from_le_bytes w64 xs ≡ number_l 256 xs
word_is xs eight = word_at xs 0 (omega arith) ∙ ap (number_l 256) (take_all 8 xs (omega arith))

digits_fit : (ds : List ℕ) → AllBelowBase 10 ds → AllBelowBase 256 ds
digits_fit [] below = tt
digits_fit (d ∷ ds) below = (omega arith, digits_fit ds below.1)

-- three multiplications give the number that eight digits write
pub value_of_eight : (ds : List ℕ) (word : ℕ) → IsEightDigits ds → word ≡ from_le_bytes w64 ds
    → (let pairs = (word * 10 % 2 ^ 64 + word / 256) % 2 ^ 64 in
    (bit_and pairs 0x0000_00ff_0000_00ff * 4294967296000100 % 2 ^ 64 + bit_and (pairs / 65536) 0x0000_00ff_0000_00ff * 42949672960001 % 2 ^ 64) % 2 ^ 64 / 2 ^ 32)
    ≡ number_from_digits 10 ds
value_of_eight ds word eight is = eight_is ds word eight (is ∙ word_is ds (eight.0, digits_fit ds eight.1))

module _ (xs : List ℕ) (word others count : ℕ) (eight : IsEightBytes xs) (is : word ≡ from_le_bytes w64 xs) where
  abbrev lanes : ℕ
  lanes = bit_xor word 0x3030_3030_3030_3030

  module _ (others_are : others ≡ bit_and (bit_or (bit_and lanes 0x7f7f_7f7f_7f7f_7f7f + 0x7676_7676_7676_7676) lanes) 0x8080_8080_8080_8080)
      (count_is : count ≡ trailing_zeros w64 others / 8) where
    number : word ≡ number_l 256 xs
    number = is ∙ word_is xs eight

    -- the flags show the number of digits
    pub counted : count ≡ digits_len xs
    unfolding lib.Count.count_trailing_zeros
    counted = elim (cases_lt 0 others) [
      | inl some ↦ count_is ∙ sym (first_other xs word eight number others (λ byte fit by. others_are ∙ flags_from_ten lanes byte fit by) some).0
      | inr none ↦
          let zero : others ≡ 0 = omega (arith, none) in
          let all = all_digits xs word eight number others (λ byte fit by. others_are ∙ flags_from_ten lanes byte fit by) zero in
          count_is ∙ ap (λ n. trailing_zeros w64 n / 8) zero ∙ sym all
    ]

    pub most : count ≤ 8
    most = omega (arith, counted, prefix_len-le-length is_ascii_digit xs, eight.0)

    -- the digits, shifted up, have zeros before them
    pub valued : (shifted value : ℕ) → shifted ≡ lanes * 2 ^ (64 - 8 * count) % 2 ^ 64
        → ((ds : List ℕ) → IsEightDigits ds → shifted ≡ from_le_bytes w64 ds → value ≡ number_from_digits 10 ds)
        → value ≡ digits_value 10 (take count xs)
    valued shifted value shifted_are worth =
        let power : 2 ^ (64 - 8 * count) ≡ 256 ^ (8 - count) =
        eqb→eq _ _ (every_below (λ n. eqb (2 ^ (64 - 8 * n)) (256 ^ (8 - n))) 9 tt count (omega (arith, most))) in
        let up : shifted ≡ number_l 256 (map less_zero xs) * 256 ^ (8 - count) % 2 ^ 64 = shifted_are ∙ rw (power, lanes_are xs word eight number) refl in
        let s = shifted_is xs count shifted eight (omega (arith, counted)) most up in
        worth s.0 s.1 (s.2 ∙ sym (word_is s.0 (s.1.0, digits_fit s.0 s.1.1))) ∙ s.3

-- digits at a place, and those that follow them
pub more_digits : (bytes : List ℕ) (at count more value next : ℕ) → IsDigitsSoFar (drop at bytes) count value
    → IsDigitsSoFar (drop (at + count) bytes) more next
    → IsDigitsSoFar (drop at bytes) (count + more) (value * 10 ^ more + next)
more_digits bytes at count more value next first behind =
    let last = rw (← drop-drop count at bytes) at behind in
    let rest = drop at bytes in
    let all = take-add count more rest in
    let long : length (take more (drop count rest)) ≡ more = length-take-le more (drop count rest) last.within in
    record {
      within = omega (arith, first.within, last.within, length-drop count rest);
      digits = rw (all, list_all-append, first.digits, last.digits) refl;
      value_is = rw (all, digits_value-append, long, ← first.value_is, ← last.value_is) refl;
    }

-- digits without a leading zero are the number at their place
pub number_stands_at : (bytes : List ℕ) (at count value : ℕ) → IsDigitsSoFar (drop at bytes) count value
    → value < 2 ^ 64 → 0 < count
    → (1 < count → get_or bytes at 0 ≡ 48 → ⊥) → drop at bytes ≡ decimal value ++ drop (at + count) bytes
number_stands_at bytes at count value so_far small some lead =
    let first : get_or (drop at bytes) 0 0 ≡ get_or bytes at 0 = get_or-drop at bytes 0 0 ∙ ap (λ (place : ℕ). get_or bytes place 0) (add-zero at) in
    number_stands (drop at bytes) count value so_far some (λ many zero. lead many (sym first ∙ zero)) small
    ∙ ap (λ (rest : List ℕ). decimal value ++ rest) (take_rest (drop at bytes) count ∙ drop-drop count at bytes)
