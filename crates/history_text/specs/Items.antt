-- Texts that list items, one to a line: events, steps or operations.
use Rattle.std.specs.Prelude.{◌≡◌, ℕ, ◌+◌, ◌<◌, ◌≤◌, ◌&&◌, nat_lt, Bool, true, false, if◌then◌else◌}
use Rattle.std.specs.Prelude.{List, [], ◌∷◌, ◌++◌, length, drop, Option, Some, None, Ok, Err}
use Rattle.std.specs.declared.result.Result.{Result}
use Rattle.std.specs.List.{flat_map, AllByRecursion}
use Rattle.event_records.specs.declared.limits.TheConstants.{MAX_TICKET, MAX_THREAD}
use Rattle.text_lines.specs.declared.fault.TextFault.{TextFault}
use Rattle.text_lines.specs.declared.fault.TextFault.TheVariants.{Line, Limit}
use Rattle.text_lines.specs.Input.{Ending, EndOfInput, Failure}
use Rattle.text_lines.specs.Forms.{Table, FieldForm, Number, parse_line}
use Rattle.text_lines.specs.Lines.{line, spaced, Front, Whole, TooLong, Unfinished, Nothing, front_of, fault_at}
use Rattle.text_lines.specs.Lines.{fields_of, ◌>>=◌, begins_as_end, end_in}
use Rattle.text_lines.specs.Lines.{greatest_value}

-- a format of texts that list items
pub record Format (A : Type 0) : Type 1 where
  pub fields : A → List (List ℕ)  -- the fields of an item's line
  pub HasLine : A → Type 0  -- items that have a line
  pub most : ℕ  -- the maximum number of items
  pub is_counted : Bool  -- whether a last line counts the items; else the input ends, or a line before counts them
  pub read : ℕ → List (List ℕ) → Result A TextFault  -- the item on line n, from its fields

-- ---- what is written

-- the line of an item
abbrev pub line_of : {A : Type 0} → Format A → A → List ℕ
line_of format item = line (spaced (format.fields item))

-- the lines of items
abbrev pub lines_of : {A : Type 0} → Format A → List A → List ℕ
lines_of format items = flat_map (line_of format) items

-- lists of items that have a text
pub record HaveLines {A : Type 0} (format : Format A) (items : List A) : Type 0 where
  pub each : AllByRecursion format.HasLine items
  pub few : length items ≤ format.most

-- ---- fields of several texts

-- a ticket
abbrev pub a_ticket : FieldForm
a_ticket = Number 0 MAX_TICKET

-- a thread
abbrev pub a_thread : FieldForm
a_thread = Number 0 MAX_THREAD

-- a value
abbrev pub a_value : FieldForm
a_value = Number 0 greatest_value

-- ---- what is read

-- the item on line n, made from its row of a table and its numbers
abbrev pub read_by : {T A : Type 0} → Table T → (T → List ℕ → A) → ℕ → List (List ℕ) → Result A TextFault
read_by table make n fields = parse_line n table fields >>= λ said. Ok (make said.0 said.1)

-- the item on the first line of the input, line n, and the bytes after it
abbrev pub line_at_front : {A : Type 0} → (ℕ → List (List ℕ) → Result A TextFault) → ℕ → Ending → Front
    → Result (A × List ℕ) TextFault
line_at_front read n ending (Whole bytes rest) = read n (fields_of bytes) >>= λ said. Ok (said, rest)
line_at_front read n ending TooLong = Err (Line n)
line_at_front read n ending Unfinished = Err (fault_at ending)
line_at_front read n ending Nothing = Err (fault_at ending)

-- the first line of the input, line n, has this fault
abbrev pub LineFault : {A : Type 0} → (ℕ → List (List ℕ) → Result A TextFault) → ℕ → Ending → TextFault → List ℕ
    → Type 0
LineFault read n ending fault bytes = line_at_front read n ending (front_of bytes) ≡ Err fault

-- the item on line n after k items, or none if it is the last line
abbrev pub item_in : {A : Type 0} → Format A → ℕ → ℕ → List ℕ → Result (Option A) TextFault
item_in format n k bytes =
    if format.is_counted && begins_as_end bytes then (end_in n k (drop 4 bytes) >>= λ _. Ok None)
    else (if nat_lt k format.most then (format.read n (fields_of bytes) >>= λ item. Ok (Some item)) else Err (Limit n))

-- the end of the items without a line, which is allowed at the end of the input, if no last line counts the items
abbrev pub item_at_nothing : {A : Type 0} → Bool → Ending → Result (Option A × List ℕ) TextFault
item_at_nothing true ending = Err (fault_at ending)
item_at_nothing false EndOfInput = Ok (None, [])
item_at_nothing false Failure = Err (fault_at Failure)

-- the item on the first line of the input, line n after k items, and the bytes after it
abbrev pub item_at_front : {A : Type 0} → Format A → ℕ → ℕ → Ending → Front → Result (Option A × List ℕ) TextFault
item_at_front format n k ending (Whole bytes rest) = item_in format n k bytes >>= λ item. Ok (item, rest)
item_at_front format n k ending TooLong = Err (Line n)
item_at_front format n k ending Unfinished = Err (fault_at ending)
item_at_front format n k ending Nothing = item_at_nothing format.is_counted ending

-- some items have their lines, from line n on, and the line after them has this fault
pub record ItemFault {A : Type 0} (format : Format A) (n : ℕ) (ending : Ending) (fault : TextFault)
    (bytes : List ℕ) : Type 0 where
  pub items : List A
  pub rest : List ℕ
  pub right : HaveLines format items
  pub front : bytes ≡ lines_of format items ++ rest
  pub next : item_at_front format (n + length items) (length items) ending (front_of rest) ≡ Err fault

-- some items have their lines, but there was no room for the last
pub record NoRoom {A : Type 0} (format : Format A) (bytes : List ℕ) : Type 0 where
  pub items : List A
  pub last : A
  pub rest : List ℕ
  pub right : HaveLines format (items ++ last ∷ [])
  pub front : bytes ≡ lines_of format (items ++ last ∷ []) ++ rest

-- ---- items that a line before them counts

-- fewer than k items have their lines, from line n on, and the line after them has this fault
pub record FaultAmong {A : Type 0} (format : Format A) (k n : ℕ) (ending : Ending) (fault : TextFault)
    (bytes : List ℕ) : Type 0 where
  pub items : List A
  pub rest : List ℕ
  pub fewer : length items < k
  pub each : AllByRecursion format.HasLine items
  pub front : bytes ≡ lines_of format items ++ rest
  pub next : LineFault format.read (n + length items) ending fault rest

-- fewer than k items have their lines, but there was no room for the last of them
pub record NoRoomAmong {A : Type 0} (format : Format A) (k : ℕ) (bytes : List ℕ) : Type 0 where
  pub room : NoRoom format bytes
  pub fewer : length room.items < k
