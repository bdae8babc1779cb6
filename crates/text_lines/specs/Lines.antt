-- Lines, fields and numbers, the parts of all texts.
use Rattle.std.specs.Prelude.{◌≡◌, ℕ, ◌+◌, ◌-◌, ◌^◌, ◌==◌, ◌&&◌, ◌||◌, nat_lt, nat_le, nat_eq, not, Bool}
use Rattle.std.specs.Prelude.{if◌then◌else◌}
use Rattle.std.specs.Prelude.{List, [], ◌∷◌, ◌++◌, length, take, drop, codes, decimal, Option, Some, None, Ok, Err}
use Rattle.std.specs.Prelude.{slice_index}
use Rattle.std.specs.declared.result.Result.{Result}
use Rattle.std.specs.List.{slice_split, join_with_byte, position_or_len, list_all, starts_with}
use Rattle.std.specs.Str.{bytes_eq}
use Rattle.std.specs.Char.{is_ascii_digit}
use Rattle.std.specs.Str.Parse.{digits_value}
use Rattle.text_lines.specs.declared.fault.TextFault.{TextFault}
use Rattle.text_lines.specs.declared.fault.TextFault.TheVariants.{Read, Header, Line, Number, Limit, Count, Cut}
use Rattle.text_lines.specs.Input.{Ending, EndOfInput, Failure}

-- ---- what is written

-- bytes and a line feed
abbrev pub line : List ℕ → List ℕ
line bytes = bytes ++ 10 ∷ []

-- fields with single spaces between them
abbrev pub spaced : List (List ℕ) → List ℕ
spaced fields = join_with_byte 32 fields

-- the last line, which counts the k lines before it
abbrev pub end_line : ℕ → List ℕ
end_line k = line (codes "end " ++ decimal k)

-- the greatest value, in 64 bits
abbrev pub greatest_value : ℕ
greatest_value = 2 ^ 64 - 1

-- ---- what is read

-- the maximum number of bytes of a line before its line feed
abbrev pub longest_line : ℕ
longest_line = 80

-- the byte that ends a line
abbrev pub is_line_feed : ℕ → Bool
is_line_feed b = b == 10

-- The front of the input: a whole line and the bytes after its line feed, a line that is too long, less than a line,
-- or no byte.
pub data Front : Type 0 where
  Whole : List ℕ → List ℕ → Front
  TooLong : Front
  Unfinished : Front
  Nothing : Front

-- the line that some bytes begin with
abbrev pub front_of : List ℕ → Front
front_of bytes =
    let place = position_or_len is_line_feed bytes in
    if nat_lt place (length bytes) && nat_le place longest_line then Whole (take place bytes) (drop (place + 1) bytes)
    else (if nat_lt longest_line (length bytes) then TooLong else
    (if nat_lt 0 (length bytes) then Unfinished else Nothing))

-- the fault of input that ends before a line is whole
abbrev pub fault_at : Ending → TextFault
fault_at EndOfInput = Cut
fault_at Failure = Read

-- the fault of a first line, unless it is exactly the expected one
abbrev pub header_fault : List ℕ → Ending → Front → Option TextFault
header_fault expected ending (Whole bytes rest) = if bytes_eq bytes expected then None else Some Header
header_fault expected ending TooLong = Some Header
header_fault expected ending Unfinished = Some (fault_at ending)
header_fault expected ending Nothing = Some (fault_at ending)

-- the fields of a line, separated by its spaces
abbrev pub fields_of : List ℕ → List (List ℕ)
fields_of bytes = slice_split (λ b. b == 32) bytes

-- the digit 0, or digits that begin with another one
abbrev pub is_number : List ℕ → Bool
is_number field =
    nat_lt 0 (length field) &&
    (list_all is_ascii_digit field && (nat_lt (length field) 2 || not (slice_index field 0 == 48)))

-- the number of a number field of line n, up to a greatest one
abbrev pub number_in : ℕ → ℕ → List ℕ → Result ℕ TextFault
number_in n greatest field =
    if is_number field then (if nat_le
    (digits_value 10 field) greatest then Ok (digits_value 10 field) else Err (Limit n))
    else Err (Number n)

infixl 10 ◌>>=◌
-- the first fault ends the steps; otherwise the next step continues with the value
abbrev pub ◌>>=◌ : {A B : Type 0} → Result A TextFault → (A → Result B TextFault) → Result B TextFault
(Ok x) >>= f = f x
(Err e) >>= f = Err e

-- the number of a number field of line n, in a range
abbrev pub number_between : ℕ → ℕ → ℕ → List ℕ → Result ℕ TextFault
number_between n least greatest field =
    number_in n greatest field >>= λ v. if nat_le least v then Ok v else Err (Limit n)

-- the bytes that the last line begins with
abbrev pub end_word : List ℕ
end_word = codes "end "

-- the line begins as a last one
abbrev pub begins_as_end : List ℕ → Bool
begins_as_end bytes = starts_with nat_eq bytes end_word

-- the last line, line n, whose field is the number k of the lines before it
abbrev pub end_in : ℕ → ℕ → List ℕ → Result (Unit {0}) TextFault
end_in n k field =
    if is_number field then (if digits_value 10 field == k then Ok tt else Err Count) else Err (Number n)

-- the bytes begin with these, and P holds of those after them
abbrev pub After : List ℕ → (List ℕ → Type 0) → List ℕ → Type 0
After front P bytes = (rest : List ℕ) × (bytes ≡ front ++ rest) × P rest

-- the faults that a whole line after the first can have
abbrev pub IsLineFault : TextFault → Type 0
IsLineFault (Line n) = Unit {0}
IsLineFault (Number n) = Unit {0}
IsLineFault (Limit n) = Unit {0}
IsLineFault Count = Unit {0}
IsLineFault _ = ⊥
