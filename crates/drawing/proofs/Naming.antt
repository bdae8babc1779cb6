-- Different values have different names, since a value is read back from its name.
use Rattle.drawing.proofs.Common.{All, All-weaker, AllPass-from_list_all, ap, arith, Bool, cond, decimal, drop, false}
use Rattle.drawing.proofs.Common.{get_or, InitialValuesHaveTheirNames, List, list_all, nat_tests, refl, slice_split}
use Rattle.drawing.proofs.Common.{sym, true, ValuesHaveTheirNames, [], ℕ, ◌*◌, ◌+◌, ◌<◌, ◌==◌, ◌^◌, ◌∙◌, ◌∷◌, ◌≡◌}
use Rattle.std.specs.Char.{is_ascii_digit}
use Rattle.std.specs.Str.Parse.{digits_value}
use Rattle.std.proofs.lemmas.Fmt.{digits_value-decimal}
use Rattle.std.proofs.lemmas.List.Splits.{slice_split_at, slice_split_none}
use Rattle.std.proofs.lemmas.Str.Parse.{numerals_by_value}
use Rattle.text_lines.proofs.Numbers.{digits_test}
use Rattle.text_lines.proofs.WrittenLines.{all_digits}
use Rattle.drawing.specs.declared.names.Name.{Name}
use Rattle.drawing.specs.declared.names.Name.TheVariants.{OfThread, OfInitial, Plain}
use Rattle.drawing.specs.Names.{name_of, name_text, initial_text, value_text}

-- ---- reading a name

abbrev is_colon : ℕ → Bool
is_colon b = b == 58

-- the value whose name has these parts: digits; or a thread or a word, and digits
abbrev value_of : List (List ℕ) → ℕ
value_of [] = 0
value_of (digits ∷ []) = digits_value 10 digits
value_of (owner ∷ digits ∷ others) = cond (list_all is_ascii_digit owner) (digits_value 10 owner * 4294967296) 274877906944 + digits_value 10 digits

-- the value with this name, which colons separate into parts
abbrev read : List ℕ → ℕ
read text = value_of (slice_split is_colon text)

-- the initial value with this label: that of its name, unless the label is a name
abbrev read_initial : List ℕ → ℕ
read_initial text = read (cond (get_or text 4 0 == 32) (drop 5 text) text)

-- ---- numbers

no_colon : (n : ℕ) → n < 2 ^ 64 → All (λ b. is_colon b ≡ false) (decimal n)
no_colon n small =
    All-weaker (λ b. is_ascii_digit b ≡ true) (λ b. is_colon b ≡ false) (λ b digit. grind (arith, nat_tests)) (decimal n)
    (AllPass-from_list_all is_ascii_digit (decimal n) (all_digits n small))

one_part : (n : ℕ) → n < 2 ^ 64 → slice_split is_colon (decimal n) ≡ decimal n ∷ []
one_part n small = slice_split_none is_colon (decimal n) (no_colon n small)

number : (n : ℕ) → n < 2 ^ 64 → digits_value 10 (decimal n) ≡ n
number n small = digits_value-decimal (numerals_by_value _ digits_test) n small

-- ---- names

-- a value is read back from its name
read_back : (v : ℕ) → v < 2 ^ 64 → read (value_text v) ≡ v
read_back v small = grind (arith, one_part, number, slice_split_at, no_colon, all_digits)

-- a label of an initial value is read as its name
read_label : (name : Name) → read_initial (initial_text name) ≡ read (name_text name)
read_label (OfThread thread place) = refl
read_label (OfInitial place) = refl
read_label (Plain v) = refl

-- different values have different names
pub values_have_their_names : ValuesHaveTheirNames
values_have_their_names v w small_v small_w e = sym (read_back v small_v) ∙ ap read e ∙ read_back w small_w

-- different initial values have different labels
pub initial_values_have_their_names : InitialValuesHaveTheirNames
initial_values_have_their_names v w small_v small_w e =
    sym (read_back v small_v) ∙ sym (read_label (name_of v)) ∙ ap read_initial e ∙ read_label (name_of w) ∙ read_back w small_w
