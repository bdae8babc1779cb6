-- Lines parsed by tables of their forms.
use Rattle.std.specs.Prelude.{ℕ, ◌≤◌, ◌&&◌, nat_le, Bool, true, false, if◌then◌else◌, List, [], ◌∷◌, length, map}
use Rattle.std.specs.Prelude.{decimal, Option, Some, None, Ok, Err}
use Rattle.std.specs.declared.result.Result.{Result}
use Rattle.std.specs.Borrow.{Bor}
use Rattle.std.specs.List.{list_all}
use Rattle.std.specs.Str.{bytes_eq}
use Rattle.text_lines.specs.declared.fault.TextFault.{TextFault}
use Rattle.text_lines.specs.declared.fault.TextFault.TheVariants.{Line}
use Rattle.text_lines.specs.declared.forms.Field.{Field}
use Rattle.text_lines.specs.declared.forms.Field.TheVariants as code
use Rattle.text_lines.specs.Lines.{fields_of, number_between, ◌>>=◌}

-- the form of a field: this word, or a number in this range
pub data FieldForm : Type 0 where
  Word : List ℕ → FieldForm
  Number : ℕ → ℕ → FieldForm

-- a table of the forms of lines, each with its item
abbrev pub Table : Type 0 → Type 0
Table T = List (T × List FieldForm)

-- ---- what is read

-- a field is the word of its form; a number is judged later
abbrev pub is_field_of : FieldForm → List ℕ → Bool
is_field_of (Word word) field = bytes_eq field word
is_field_of (Number least greatest) field = true

-- there is one field for each form
abbrev pub fits : List FieldForm → List (List ℕ) → Bool
fits [] [] = true
fits [] (field ∷ fields) = false
fits (form ∷ forms) [] = false
fits (form ∷ forms) (field ∷ fields) = is_field_of form field && fits forms fields

-- the numbers of the number fields of line n, from left to right
abbrev pub numbers_in : ℕ → List FieldForm → List (List ℕ) → Result (List ℕ) TextFault
numbers_in n (Word word ∷ forms) (field ∷ fields) = numbers_in n forms fields
numbers_in n (Number least greatest ∷ forms) (field ∷ fields) =
    number_between n least greatest field >>= λ v. numbers_in n forms fields >>= λ more. Ok (v ∷ more)
numbers_in n _ _ = Ok []

-- the item of the first form of a table that the fields of line n fit, and its numbers
abbrev pub parse_line : {T : Type 0} → ℕ → Table T → List (List ℕ) → Result (T × List ℕ) TextFault
parse_line n [] fields = Err (Line n)
parse_line n (row ∷ rows) fields =
    if fits row.1 fields then
    (numbers_in n row.1 fields >>= λ numbers. Ok (row.0, numbers)) else parse_line n rows fields

-- ---- what is written

-- the fields that a form writes with these numbers
abbrev pub spelled : List FieldForm → List ℕ → List (List ℕ)
spelled (Word word ∷ forms) numbers = word ∷ spelled forms numbers
spelled (Number least greatest ∷ forms) (v ∷ numbers) = decimal v ∷ spelled forms numbers
spelled _ _ = []

-- one number per field of the form, each in range
abbrev pub AreOfForm : List FieldForm → List ℕ → Type 0
AreOfForm [] [] = Unit {0}
AreOfForm (Word word ∷ forms) numbers = AreOfForm forms numbers
AreOfForm (Number least greatest ∷ forms) (v ∷ numbers) = (least ≤ v) × (v ≤ greatest) × AreOfForm forms numbers
AreOfForm _ _ = ⊥

-- ---- tables in code

-- the form of a field in code
abbrev pub form_of : Field → FieldForm
form_of (code.Word word) = Word word.now
form_of (code.Number least greatest) = Number least greatest

-- a row of a table in code: its item, and the form of its line
abbrev pub row_of : {T : Type 0} → T × Bor (List Field) → T × List FieldForm
row_of row = (row.0, map form_of row.1.now)

-- the fields of the bytes that are left in a line
abbrev pub fields_left : Option (Bor (List ℕ)) → List (List ℕ)
fields_left None = []
fields_left (Some bytes) = fields_of bytes.now

-- no form has more than five fields
abbrev pub has_short_forms : {T : Type 0} → Table T → Bool
has_short_forms table = list_all (λ row. nat_le (length row.1) 5) table
