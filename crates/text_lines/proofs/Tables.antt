-- Lines parsed by tables of their forms: written lines are read back, and lines that are read were written in this
-- way.
use Rattle.text_lines.proofs.Common.{◌≡◌, ℕ, zero, suc, ◌+◌, ◌<◌, ◌≤◌, ◌^◌, List, [], ◌∷◌, ◌++◌, length, map, drop}
use Rattle.text_lines.proofs.Common.{get_or, Bool, true, false, ◌&&◌, cond, arith, ap, ap₂, sym, subst, ◌∙◌, refl}
use Rattle.text_lines.proofs.Common.{inl, inr, append-nil, Option, Some, None, Ok, nat_le, nat_lt, nat_eq}
use Rattle.text_lines.proofs.Common.{length-append, Result, not, nat_tests, TextFault, form_of, row_of, fields_left}
use Rattle.text_lines.proofs.Common.{fits, numbers_in, parse_line, number_between, ◌>>=◌, decimal, if◌then◌else◌}
use Rattle.text_lines.proofs.Common.{AllByRecursion, list_all, bytes_eq, decimal_nonempty, length-decimal-le, spaced}
use Rattle.text_lines.proofs.Common.{begins_as_end}
use Rattle.std.proofs.Math.Bool.{not-not}
use Rattle.std.proofs.lemmas.List.{drop_all}
use Rattle.std.specs.Option.{is_some}
use Rattle.std.specs.Borrow.{Bor}
use Rattle.std.proofs.lemmas.Grind.{common_steps}
use Rattle.text_lines.specs.declared.forms.Field.{Field}
use Rattle.text_lines.specs.Forms.{FieldForm, Table, Word, Number, spelled, AreOfForm}
use Rattle.text_lines.specs.Forms.{has_short_forms}
use Rattle.text_lines.proofs.Fields.{has_field}
use Rattle.std.specs.List.{starts_with}
use Rattle.text_lines.specs.Lines.{end_word}
use Rattle.text_lines.proofs.Numbers.{both, chosen, bind_ok, text_is, between_ok}
use Rattle.text_lines.proofs.WrittenLines.{is_inner, IsField, number_is_field, all_digits, between_read, IsLineOf}
use Rattle.text_lines.proofs.WrittenLines.{line_of_fields, digits_begin_other}

-- numbers that come after these
abbrev pub after_numbers : List ℕ → Result (List ℕ) TextFault → Result (List ℕ) TextFault
after_numbers before later = later >>= λ numbers. Ok (before ++ numbers)

-- ---- the fields of a line, one after another

-- there is a form at each place
cut : (forms : List Field) (i : ℕ) → i < length forms
    → (form : FieldForm) × (others : List FieldForm) × (map form_of (drop i forms) ≡ form ∷ others)
cut [] i within = absurd (omega (arith, within))
cut (f ∷ fs) zero within = (form_of f, map form_of fs, refl)
cut (f ∷ fs) (suc i) within = cut fs i (omega (arith, within))

-- there are fewer fields than forms
pub fields_are_few : (forms : List Field) (i : ℕ) (left : Option (Bor (List ℕ))) → i < length forms → left ≡ None
    → fits (map form_of (drop i forms)) (fields_left left) ≡ false
fields_are_few forms i left within over = let here = cut forms i within in rw (over, here.2) refl

none_left : (left : Option (Bor (List ℕ))) → fits [] (fields_left left) ≡ not (is_some left)
none_left None = refl
none_left (Some bytes) = let here = has_field bytes.now in rw here.2 refl

-- after the last form no field is left
pub fields_are_over : (forms : List Field) (i : ℕ) (left : Option (Bor (List ℕ))) (none : Bool) → length forms ≤ i
    → is_some left ≡ not none
    → fits (map form_of (drop i forms)) (fields_left left) ≡ none
fields_are_over forms i left none over is = rw (drop_all i forms over) (none_left left ∙ ap not is ∙ not-not none)

no_numbers : (n : ℕ) (forms : List FieldForm) → numbers_in n forms [] ≡ Ok []
no_numbers n [] = refl
no_numbers n (Word word ∷ forms) = refl
no_numbers n (Number least greatest ∷ forms) = refl

-- if no form or no field is left, no number is left
pub numbers_are_over : (n : ℕ) (numbers : List ℕ) (forms : List Field) (i : ℕ) (left : Option (Bor (List ℕ)))
    → after_numbers numbers (numbers_in n (map form_of (drop i forms)) []) ≡ Ok numbers
numbers_are_over n numbers forms i left = rw (no_numbers n (map form_of (drop i forms)), append-nil) refl

-- after the last form all numbers are read
pub numbers_are_all : (n : ℕ) (numbers : List ℕ) (forms : List Field) (i : ℕ) (fields : List (List ℕ))
    → length forms ≤ i
    → after_numbers numbers (numbers_in n (map form_of (drop i forms)) fields) ≡ Ok numbers
numbers_are_all n numbers forms i fields over = rw (drop_all i forms over, append-nil) refl

module _ {T : Type 0} where
  -- each form of a table is short
  pub form_is_short : (table : List (T × Bor (List Field))) (i : ℕ) (row : T × Bor (List Field)) → i < length table
      → has_short_forms (map row_of table) ≡ true → row ≡ get_or table i row → length row.1.now ≤ 5
  form_is_short [] i row within short is = absurd (omega (arith, within))
  form_is_short (r ∷ rs) zero row within short is =
      let p = both (nat_le (length (map form_of r.1.now)) 5) _ short in
      rw is (grind (arith, nat_tests, common_steps, p.0))
  form_is_short (r ∷ rs) (suc i) row within short is =
      form_is_short rs i row (omega (arith, within)) (both (nat_le (length (map form_of r.1.now)) 5) _ short).1 is

-- ---- written lines are read back, and lines that are read were written in this way

-- no number of this form has more than 64 bits
abbrev pub has_bits : FieldForm → Bool
has_bits (Word word) = true
has_bits (Number least greatest) = nat_lt greatest (2 ^ 64)

-- the numbers that a form writes are read back
pub numbers_back : (n : ℕ) (forms : List FieldForm) (numbers : List ℕ) → list_all has_bits forms ≡ true
    → AreOfForm forms numbers
    → numbers_in n forms (spelled forms numbers) ≡ Ok numbers
numbers_back n [] [] small h = refl
numbers_back n [] (v ∷ vs) small h = absurd h
numbers_back n (Word word ∷ forms) numbers small h = numbers_back n forms numbers small h
numbers_back n (Number least greatest ∷ forms) [] small h = absurd h
numbers_back n (Number least greatest ∷ forms) (v ∷ vs) small h =
    let p = both (nat_lt greatest (2 ^ 64)) _ small in
    let bits : greatest < 2 ^ 64 = grind (arith, nat_tests, p.0) in
    rw (between_read n least greatest v h.0 h.1 bits, numbers_back n forms vs p.1 h.2) refl

-- the fields are those that the form writes with these numbers
pub record IsWrittenBy (forms : List FieldForm) (numbers : List ℕ) (fields : List (List ℕ)) : Type 0 where
  pub text : fields ≡ spelled forms numbers
  pub within : AreOfForm forms numbers

numbers_ok : (n : ℕ) (forms : List FieldForm) (fields : List (List ℕ)) (numbers : List ℕ) → fits forms fields ≡ true
    → list_all has_bits forms ≡ true
    → numbers_in n forms fields ≡ Ok numbers → IsWrittenBy forms numbers fields
numbers_ok n [] [] numbers fit small e =
    let none : (let nothing : List ℕ = [] in nothing ≡ numbers) = cc (e) in
    subst (λ (ns : List ℕ). IsWrittenBy [] ns []) none (record { text = refl; within = tt })
numbers_ok n [] (field ∷ fields) numbers fit small e = absurd (cc (fit))
numbers_ok n (form ∷ forms) [] numbers fit small e = absurd (cc (fit))
numbers_ok n (Word word ∷ forms) (field ∷ fields) numbers fit small e =
    let p = both (bytes_eq field word) _ fit in
    let rest = numbers_ok n forms fields numbers p.1 small e in
    record { text = ap₂ (λ (x : List ℕ) (xs : List (List ℕ)). x ∷ xs) (text_is field word p.0) rest.text; within = rest.within }
numbers_ok n (Number least greatest ∷ forms) (field ∷ fields) numbers fit small e =
    let p = both (nat_lt greatest (2 ^ 64)) _ small in
    let bits : greatest < 2 ^ 64 = grind (arith, nat_tests, p.0) in
    let v = bind_ok (number_between n least greatest field) _ numbers e in
    let more = bind_ok (numbers_in n forms fields) _ numbers v.2 in
    let is = between_ok n least greatest field v.0 bits v.1 in
    let rest = numbers_ok n forms fields more.0 fit p.1 more.1 in
    let same : v.0 ∷ more.0 ≡ numbers = cc (more.2) in
    subst (λ (ns : List ℕ). IsWrittenBy (Number least greatest ∷ forms) ns (field ∷ fields)) same
    (record { text = ap₂ (λ (x : List ℕ) (xs : List (List ℕ)). x ∷ xs) is.0 rest.text; within = (is.1, is.2, rest.within) })

module _ {T : Type 0} (Q : T → List ℕ → List (List ℕ) → Type 0) where
  -- a property of the lines that the rows of a table write holds of each line that is read
  pub parse_line_says : (n : ℕ) (table : Table T) (fields : List (List ℕ)) (said : T × List ℕ)
      → AllByRecursion (λ row. (numbers : List ℕ) → AreOfForm row.1 numbers
      → Q row.0 numbers (spelled row.1 numbers)) table
      → list_all (λ row. list_all has_bits row.1) table ≡ true → parse_line n table fields ≡ Ok said
      → Q said.0 said.1 fields
  parse_line_says n [] fields said each small e = absurd (cc (e))
  parse_line_says n (row ∷ rows) fields said each small e =
      let p = both (list_all has_bits row.1) _ small in
      elim (chosen (fits row.1 fields) _ _ _ e) [
        | inl h ↦
            let numbers = bind_ok (numbers_in n row.1 fields) _ said h.1 in
            let is = numbers_ok n row.1 fields numbers.0 h.0 p.0 numbers.1 in
            let same : (let found : T × List ℕ = (row.0, numbers.0) in found ≡ said) = cc (numbers.2) in
            subst (λ (s : T × List ℕ). Q s.0 s.1 fields) same
            (subst (Q row.0 numbers.0) (sym is.text) (each.0 numbers.0 is.within))
        | inr h ↦ parse_line_says n rows fields said each.1 p.1 h.1
      ]

-- ---- lines

-- the maximum number of bytes of a field
abbrev pub most_bytes : FieldForm → ℕ
most_bytes (Word word) = length word
most_bytes (Number least greatest) = if nat_lt greatest 100 then 2 else (if nat_lt greatest (10 ^ 12) then 12 else 20)

-- the maximum number of bytes of fields with spaces between them
abbrev pub most_in_line : List FieldForm → ℕ
most_in_line [] = 0
most_in_line (form ∷ []) = most_bytes form
most_in_line (form ∷ next ∷ forms) = most_bytes form + (1 + most_in_line (next ∷ forms))

-- two words differ at a place that both have
abbrev pub differs : List ℕ → List ℕ → Bool
differs [] ys = false
differs (x ∷ xs) [] = false
differs (x ∷ xs) (y ∷ ys) = if nat_eq y x then differs xs ys else true

-- no line of this form begins as a last one
abbrev pub begins_other : List FieldForm → Bool
begins_other [] = false
begins_other (Word word ∷ forms) = differs word end_word
begins_other (Number least greatest ∷ forms) = true

-- a field of this form has neither a space nor a line feed
abbrev pub is_field_form : FieldForm → Bool
is_field_form (Word word) = list_all is_inner word
is_field_form (Number least greatest) = nat_lt greatest (2 ^ 64)

-- the fields that this form writes are a line, and not a last one
abbrev pub is_line_form : List FieldForm → Bool
is_line_form forms = begins_other forms && (list_all is_field_form forms && nat_le (most_in_line forms) 80)

-- the first field that a form writes
record HasFirst (form : FieldForm) (forms : List FieldForm) (numbers : List ℕ) : Type 0 where
  field : List ℕ
  more : List ℕ
  text : spelled (form ∷ forms) numbers ≡ field ∷ spelled forms more
  one : IsField field
  short : length field ≤ most_bytes form
  within : AreOfForm forms more

number_is_short : (v greatest : ℕ) → v ≤ greatest → greatest < 2 ^ 64
    → length (decimal v) ≤ (if nat_lt greatest 100 then 2 else (if nat_lt greatest (10 ^ 12) then 12 else 20))
number_is_short v greatest within bits =
    let small : v < 2 ^ 64 = omega arith in
    let two : v < 100 → length (decimal v) ≤ 2 = λ few. length-decimal-le 2 v (omega arith) few small in
    let twelve : v < 10 ^ 12 → length (decimal v) ≤ 12 = λ few. length-decimal-le 12 v (omega arith) few small in
    let most = length-decimal-le 20 v (omega arith) (omega arith) small in
    grind (arith, nat_tests)

first : (form : FieldForm) (forms : List FieldForm) (numbers : List ℕ) → is_field_form form ≡ true
    → AreOfForm (form ∷ forms) numbers
    → HasFirst form forms numbers
first (Word word) forms numbers one h = record { field = word; more = numbers; text = refl; one = one; short = omega arith; within = h }
first (Number least greatest) forms [] one h = absurd h
first (Number least greatest) forms (v ∷ vs) one h =
    let bits : greatest < 2 ^ 64 = grind (arith, nat_tests, one) in
    let small : v < 2 ^ 64 = omega (arith, h.1, bits) in
    record {
      field = decimal v;
      more = vs;
      text = refl;
      one = number_is_field v small;
      short = number_is_short v greatest h.1 bits;
      within = h.2;
    }

all_fields : (forms : List FieldForm) (numbers : List ℕ) → list_all is_field_form forms ≡ true
    → AreOfForm forms numbers
    → AllByRecursion IsField (spelled forms numbers)
all_fields [] numbers all h = tt
all_fields (form ∷ forms) numbers all h =
    let p = both (is_field_form form) _ all in
    let here = first form forms numbers p.0 h in
    subst (AllByRecursion IsField) (sym here.text) (here.one, all_fields forms here.more p.1 here.within)

is_short : (forms : List FieldForm) (numbers : List ℕ) → list_all is_field_form forms ≡ true → AreOfForm forms numbers
    → length (spaced (spelled forms numbers)) ≤ most_in_line forms
is_short [] numbers all h = omega arith
is_short (form ∷ []) numbers all h =
    let p = both (is_field_form form) _ all in
    let here = first form [] numbers p.0 h in
    subst (λ (fields : List (List ℕ)). length (spaced fields) ≤ most_bytes form) (sym here.text) here.short
is_short (form ∷ next ∷ forms) numbers all h =
    let p = both (is_field_form form) _ all in
    let q = both (is_field_form next) _ p.1 in
    let here = first form (next ∷ forms) numbers p.0 h in
    let after = first next forms here.more q.0 here.within in
    let rest = is_short (next ∷ forms) here.more p.1 here.within in
    let tail : length (spaced (after.field ∷ spelled forms after.more)) ≤ most_in_line (next ∷ forms) = rw after.text at rest in
    let whole = length-append here.field (32 ∷ spaced (after.field ∷ spelled forms after.more)) in
    let short = here.short in
    let P : List (List ℕ) → Type 0 = λ fields. length (spaced fields) ≤ most_bytes form + (1 + most_in_line (next ∷ forms)) in
    subst P (sym here.text) (subst (λ (fields : List (List ℕ)). P (here.field ∷ fields)) (sym after.text) (omega (arith, whole, tail, short)))

spaced_begins : (field : List ℕ) (others : List (List ℕ)) → (rest : List ℕ) × (spaced (field ∷ others) ≡ field ++ rest)
spaced_begins field [] = ([], sym (append-nil field))
spaced_begins field (o ∷ os) = (32 ∷ spaced (o ∷ os), refl)

starts_other : (word end rest : List ℕ) → differs word end ≡ true → starts_with nat_eq (word ++ rest) end ≡ false
starts_other [] end rest other = absurd (cc (other))
starts_other (x ∷ xs) [] rest other = absurd (cc (other))
starts_other (x ∷ xs) (y ∷ ys) rest other =
    elim (nat_eq y x) as (λ b. cond b (differs xs ys) true ≡ true → (b && starts_with nat_eq (xs ++ rest) ys) ≡ false) [
      | true ↦ λ more. starts_other xs ys rest more
      | false ↦ λ _. refl
    ] other

begins_so : (forms : List FieldForm) (numbers : List ℕ) → begins_other forms ≡ true
    → list_all is_field_form forms ≡ true → AreOfForm forms numbers
    → begins_as_end (spaced (spelled forms numbers)) ≡ false
begins_so [] numbers other all h = absurd (cc (other))
begins_so (Word word ∷ forms) numbers other all h =
    let rest = spaced_begins word (spelled forms numbers) in
    rw rest.1 (starts_other word end_word rest.0 other)
begins_so (Number least greatest ∷ forms) [] other all h = absurd h
begins_so (Number least greatest ∷ forms) (v ∷ vs) other all h =
    let p = both (nat_lt greatest (2 ^ 64)) _ all in
    let bits : greatest < 2 ^ 64 = grind (arith, nat_tests, p.0) in
    let small : v < 2 ^ 64 = omega (arith, h.1, bits) in
    let rest = spaced_begins (decimal v) (spelled forms vs) in
    rw rest.1 (digits_begin_other (decimal v) rest.0 (decimal_nonempty v small) (all_digits v small))

-- the fields that a form writes are a line
pub spelled_is_line : (forms : List FieldForm) (numbers : List ℕ) → is_line_form forms ≡ true → AreOfForm forms numbers
    → IsLineOf (spelled forms numbers)
spelled_is_line [] numbers is h = absurd (cc (is))
spelled_is_line (form ∷ forms) numbers is h =
    let p = both (begins_other (form ∷ forms)) _ is in
    let q = both (list_all is_field_form (form ∷ forms)) _ p.1 in
    let r = both (is_field_form form) _ q.0 in
    let here = first form forms numbers r.0 h in
    let few : most_in_line (form ∷ forms) ≤ 80 = grind (arith, nat_tests, q.1) in
    let short = is_short (form ∷ forms) numbers q.0 h in
    let other = begins_so (form ∷ forms) numbers p.0 q.0 h in
    let short_here : length (spaced (here.field ∷ spelled forms here.more)) ≤ most_in_line (form ∷ forms) = rw here.text at short in
    subst IsLineOf (sym here.text)
    (line_of_fields here.field (spelled forms here.more) here.one (all_fields forms here.more r.1 here.within) (omega (arith, few, short_here))
    (rw here.text at other))
