-- Written fields, numbers and lines are read back, whatever comes after them.
use Rattle.text_lines.proofs.Common.{or-true, ◌≡◌, ℕ, zero, suc, ◌^◌, ◌<◌, ◌≤◌, List, [], ◌∷◌, ◌++◌, length, Bool}
use Rattle.text_lines.proofs.Common.{true, false}
use Rattle.text_lines.proofs.Common.{not, nat_lt, nat_le, nat_eq, arith, ap, ◌∙◌, refl, Ok, ◌==◌, decimal}
use Rattle.text_lines.proofs.Common.{is_ascii_digit, AllByRecursion, list_all, digits_value, get_or, nat_tests}
use Rattle.text_lines.proofs.Common.{list_all-append, slice_split_at, slice_split_none, numerals_by_value}
use Rattle.text_lines.proofs.Common.{decimal_digit, decimal_nonempty, spaced, is_number, number_in, number_between}
use Rattle.text_lines.proofs.Common.{fields_of, begins_as_end, end_in, is_line_feed, has_no_line_feed, IsPartOfLine}
use Rattle.std.specs.List.{All}
use Rattle.std.proofs.lemmas.List.Elements.{All-weaker}
use Rattle.std.proofs.lemmas.List.Sums.{AllPass-from_list_all, list_all-from_AllPass}
use Rattle.std.proofs.lemmas.Fmt.{digits_decimal, digits_value-decimal, first_decimal}
use Rattle.text_lines.proofs.Numbers.{digits_test, both}

-- ---- fields

-- a byte that isn't a space or a line feed
abbrev pub is_inner : ℕ → Bool
is_inner b = nat_lt 32 b

abbrev is_space : ℕ → Bool
is_space b = b == 32

-- bytes without spaces and line feeds
abbrev pub IsField : List ℕ → Type 0
IsField bytes = list_all is_inner bytes ≡ true

-- a test of bytes implies a weaker one
each_passes : (p q : ℕ → Bool) → ((b : ℕ) → p b ≡ true → q b ≡ true) → (bytes : List ℕ) → list_all p bytes ≡ true
    → list_all q bytes ≡ true
each_passes p q weaker bytes all =
    list_all-from_AllPass q bytes (All-weaker (λ b. p b ≡ true) (λ b. q b ≡ true) weaker bytes (AllPass-from_list_all p bytes all))

no_space : (bytes : List ℕ) → IsField bytes → All (λ b. is_space b ≡ false) bytes
no_space bytes one =
    All-weaker (λ b. is_inner b ≡ true) (λ b. is_space b ≡ false) (λ b inner. grind (arith, nat_tests)) bytes (AllPass-from_list_all is_inner bytes one)

fields_of_spaced : (f : List ℕ) (fs : List (List ℕ)) → IsField f → AllByRecursion IsField fs
    → fields_of (spaced (f ∷ fs)) ≡ f ∷ fs
fields_of_spaced f [] one all = slice_split_none is_space f (no_space f one)
fields_of_spaced f (g ∷ gs) one all =
    slice_split_at is_space f 32 (spaced (g ∷ gs)) (no_space f one) refl ∙ ap (λ (r : List (List ℕ)). f ∷ r) (fields_of_spaced g gs all.0 all.1)

-- a field has no line feed
pub field_is_clean : (bytes : List ℕ) → IsField bytes → has_no_line_feed bytes ≡ true
field_is_clean bytes one = each_passes is_inner (λ b. not (is_line_feed b)) (λ b inner. grind (arith, nat_tests)) bytes one

fields_are_clean : (f : List ℕ) (fs : List (List ℕ)) → IsField f → AllByRecursion IsField fs
    → has_no_line_feed (spaced (f ∷ fs)) ≡ true
fields_are_clean f [] one all = field_is_clean f one
fields_are_clean f (g ∷ gs) one all =
    list_all-append (λ b. not (is_line_feed b)) f (32 ∷ spaced (g ∷ gs)) ∙ rw (field_is_clean f one, fields_are_clean g gs all.0 all.1) refl

-- ---- numbers

-- the digits of a number are digits
pub all_digits : (v : ℕ) → v < 2 ^ 64 → list_all is_ascii_digit (decimal v) ≡ true
all_digits v small = digits_decimal (numerals_by_value _ digits_test) v small

-- the digits of a number are a field
pub number_is_field : (v : ℕ) → v < 2 ^ 64 → IsField (decimal v)
number_is_field v small = each_passes is_ascii_digit is_inner (λ b digit. grind (arith, nat_tests)) (decimal v) (all_digits v small)

is_number_decimal : (v : ℕ) → v < 2 ^ 64 → is_number (decimal v) ≡ true
is_number_decimal zero small = rw (decimal_digit 0 (omega arith)) refl
is_number_decimal (suc v) small =
    let some : nat_lt 0 (length (decimal (suc v))) ≡ true = grind (arith, nat_tests, decimal_nonempty (suc v) small) in
    let first = first_decimal (suc v) (omega arith) small in
    let lead : (get_or (decimal (suc v)) 0 0 == 48) ≡ false = grind (arith, nat_tests, first) in
    rw (some, all_digits (suc v) small, lead, or-true) refl

value_decimal : (v : ℕ) → v < 2 ^ 64 → digits_value 10 (decimal v) ≡ v
value_decimal v small = digits_value-decimal (numerals_by_value _ digits_test) v small

-- the digits of a number are read as that number
pub number_read : (n greatest v : ℕ) → v ≤ greatest → greatest < 2 ^ 64 → number_in n greatest (decimal v) ≡ Ok v
number_read n greatest v within small =
    let few : v < 2 ^ 64 = omega (arith, within, small) in
    let ok : nat_le v greatest ≡ true = grind (arith, nat_tests, within) in
    rw (is_number_decimal v few, value_decimal v few, ok) refl

-- the digits of a number in a range are read as that number
pub between_read : (n least greatest v : ℕ) → least ≤ v → v ≤ greatest → greatest < 2 ^ 64
    → number_between n least greatest (decimal v) ≡ Ok v
between_read n least greatest v more within small =
    let enough : nat_le least v ≡ true = grind (arith, nat_tests, more) in
    rw (number_read n greatest v within small, enough) refl

-- the number of a last line is read as that number
pub end_read : (n k : ℕ) → k < 2 ^ 64 → end_in n k (decimal k) ≡ Ok tt
end_read n k small =
    let same : (k == k) ≡ true = grind (arith, nat_tests) in
    rw (is_number_decimal k small, value_decimal k small, same) refl

-- ---- lines

-- the fields are a line, and are read back
pub record IsLineOf (fields : List (List ℕ)) : Type 0 where
  pub part : IsPartOfLine (spaced fields)
  pub back : fields_of (spaced fields) ≡ fields
  pub other : begins_as_end (spaced fields) ≡ false

-- fields without spaces and line feeds are a line
pub line_of_fields : (f : List ℕ) (fs : List (List ℕ)) → IsField f → AllByRecursion IsField fs
    → length (spaced (f ∷ fs)) ≤ 80
    → begins_as_end (spaced (f ∷ fs)) ≡ false → IsLineOf (f ∷ fs)
line_of_fields f fs one all short other = record {
  part = record { one = fields_are_clean f fs one all; short = short };
  back = fields_of_spaced f fs one all;
  other = other;
}

-- a line that begins with a digit isn't the last one
pub digits_begin_other : (ds rest : List ℕ) → 0 < length ds → list_all is_ascii_digit ds ≡ true
    → begins_as_end (ds ++ rest) ≡ false
digits_begin_other [] rest some all = absurd (omega (arith, some))
digits_begin_other (d ∷ ds) rest some all =
    let p = both (is_ascii_digit d) _ all in
    let differs : nat_eq 101 d ≡ false = grind (arith, nat_tests, p.0) in
    rw differs refl
