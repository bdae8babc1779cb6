-- Texts of verdicts: which claims have one, and the first fault of input that should be one.
use Rattle.std.specs.Prelude.{◌≡◌, ℕ, ◌+◌, ◌≤◌, Bool, false, if◌then◌else◌, ◌⊎◌}
use Rattle.std.specs.Prelude.{List, [], ◌∷◌, ◌++◌, length, codes, Option, Some, None, Ok, Err, slice_index}
use Rattle.std.specs.declared.result.Result.{Result}
use Rattle.std.specs.Str.{bytes_eq}
use Rattle.event_records.specs.declared.limits.TheConstants.{MAX_TICKET, MAX_THREAD, MAX_CLAIM_LINES}
use Rattle.history_merge.specs.declared.operation.Operation.{Operation}
use Rattle.history_merge.specs.declared.operation.OpKind.{OpKind}
use Rattle.history_merge.specs.declared.operation.OpKind.TheVariants.{Enqueue, Dequeue, DequeueEmpty, EnqueueFailed}
use Rattle.claims.specs.declared.claimed.ViolationKind.{ViolationKind}
use Rattle.claims.specs.declared.claimed.ClaimLine.{ClaimLine}
use Rattle.claims.specs.declared.claimed.ClaimLine.TheVariants.{Op, Initial}
use Rattle.claims.specs.declared.claimed.Claimed.{Claimed}
use Rattle.claims.specs.declared.claimed.Claimed.TheVariants.{Yes, No}
use Rattle.text_lines.specs.declared.fault.TextFault.{TextFault}
use Rattle.text_lines.specs.declared.fault.TextFault.TheVariants.{Line}
use Rattle.text_lines.specs.Input.{Ending}
use Rattle.text_lines.specs.Lines.{line, greatest_value, Front, Whole, TooLong, Unfinished, Nothing, front_of}
use Rattle.text_lines.specs.Lines.{fault_at, ◌>>=◌, After}
use Rattle.text_lines.specs.Forms.{Table, FieldForm, Word}
use Rattle.history_text.specs.Items.{Format, HaveLines, ItemFault, NoRoom, a_ticket, a_thread, a_value, read_by}
use Rattle.history_text.specs.Verdicts.{operation_fields, claim_line_fields, kind_name}

-- ---- operations

-- the value, if there is one, has 64 bits
abbrev pub IsKindInRange : OpKind → Type 0
IsKindInRange DequeueEmpty = Unit {0}
IsKindInRange (Enqueue v) = v ≤ greatest_value
IsKindInRange (Dequeue v) = v ≤ greatest_value
IsKindInRange (EnqueueFailed v) = v ≤ greatest_value

-- operations that have a line
pub record HasOperationLine (o : Operation) : Type 0 where
  pub call : o.call ≤ MAX_TICKET
  pub ret : o.ret ≤ MAX_TICKET
  pub thread : o.thread ≤ MAX_THREAD
  pub value : IsKindInRange o.kind

-- the form of an empty dequeue
abbrev pub empty_operation : List FieldForm
empty_operation = a_ticket ∷ a_ticket ∷ a_thread ∷ Word (codes "empty") ∷ []

-- the form of an operation with a value, by its word
abbrev pub valued_operation : List ℕ → List FieldForm
valued_operation word = a_ticket ∷ a_ticket ∷ a_thread ∷ Word word ∷ a_value ∷ []

-- the forms of operation lines, each with the kind of its operations, with 0 as the value
abbrev pub operation_forms : Table OpKind
operation_forms =
    (Enqueue 0, valued_operation (codes "enq")) ∷ (Dequeue 0, valued_operation (codes "deq"))
    ∷ (DequeueEmpty, empty_operation)
    ∷ (EnqueueFailed 0, valued_operation (codes "not")) ∷ []

-- the kind with its value replaced, if it has one
abbrev pub kind_with : OpKind → ℕ → OpKind
kind_with (Enqueue _) v = Enqueue v
kind_with (Dequeue _) v = Dequeue v
kind_with DequeueEmpty v = DequeueEmpty
kind_with (EnqueueFailed _) v = EnqueueFailed v

-- the operation of a line, from its form and its numbers
abbrev pub operation_of : OpKind → List ℕ → Operation
operation_of kind numbers = record {
  call = slice_index numbers 0;
  ret = slice_index numbers 1;
  thread = slice_index numbers 2;
  kind = kind_with kind (slice_index numbers 3);
}

-- the fields are those of an initial value, not of an operation
abbrev pub is_initial : List (List ℕ) → Bool
is_initial (word ∷ others) = bytes_eq word (codes "init")
is_initial [] = false

-- the operation on line n of a `YES`, from its fields
abbrev pub operation_in : ℕ → List (List ℕ) → Result Operation TextFault
operation_in n fields = if is_initial fields then Err (Line n) else read_by operation_forms operation_of n fields

-- the format of a `YES`, which lists operations
abbrev pub operation_format : Format Operation
operation_format = record {
  fields = operation_fields;
  HasLine = HasOperationLine;
  most = MAX_CLAIM_LINES;
  is_counted = false;
  read = operation_in;
}

-- ---- the lines of a `NO`

-- lines that a `NO` may have
abbrev pub HasClaimLine : ClaimLine → Type 0
HasClaimLine (Op o) = HasOperationLine o
HasClaimLine (Initial v) = v ≤ greatest_value

-- the form of the line of an initial value
abbrev pub initial_form : List FieldForm
initial_form = Word (codes "init") ∷ a_value ∷ []

-- the table of this form alone
abbrev pub initial_forms : Table (Unit {0})
initial_forms = (tt, initial_form) ∷ []

-- the initial value of a line, from its numbers
abbrev pub initial_of : Unit {0} → List ℕ → ClaimLine
initial_of _ numbers = Initial (slice_index numbers 0)

-- the operation or initial value on line n of a `NO`, from its fields
abbrev pub claim_line_in : ℕ → List (List ℕ) → Result ClaimLine TextFault
claim_line_in n fields =
    if is_initial fields then read_by initial_forms initial_of n fields else
    (read_by operation_forms operation_of n fields >>= λ o. Ok (Op o))

-- the format of a `NO`, which lists operations and initial values
abbrev pub claim_line_format : Format ClaimLine
claim_line_format = record {
  fields = claim_line_fields;
  HasLine = HasClaimLine;
  most = MAX_CLAIM_LINES;
  is_counted = false;
  read = claim_line_in;
}

-- ---- verdicts

-- the number of lines of a verdict after its first
abbrev pub claim_length : Claimed → ℕ
claim_length (Yes operations) = length operations
claim_length (No kind lines) = length lines

-- claims that have a text
abbrev pub HasVerdictText : Claimed → Type 0
HasVerdictText (Yes operations) = HaveLines operation_format operations
HasVerdictText (No kind lines) = HaveLines claim_line_format lines

-- the first line of a `YES`, or of a `NO` of this kind
abbrev pub first_line : Option ViolationKind → List ℕ
first_line None = codes "YES"
first_line (Some kind) = codes "NO " ++ kind_name kind

-- this isn't the first line of a verdict
abbrev pub IsNoFirstLine : List ℕ → Type 0
IsNoFirstLine bytes = (answer : Option ViolationKind) → bytes ≡ first_line answer → ⊥

-- the first line of the input, line n, isn't the first line of a verdict, and has this fault
abbrev pub FirstLineFault : ℕ → Ending → TextFault → Front → Type 0
FirstLineFault n ending fault (Whole bytes rest) = IsNoFirstLine bytes × (fault ≡ Line n)
FirstLineFault n ending fault TooLong = fault ≡ Line n
FirstLineFault n ending fault Unfinished = fault ≡ fault_at ending
FirstLineFault n ending fault Nothing = fault ≡ fault_at ending

-- the first line is valid, and P holds of its answer and of the bytes after it
abbrev pub AfterFirstLine : (Option ViolationKind → List ℕ → Type 0) → List ℕ → Type 0
AfterFirstLine P bytes = (answer : Option ViolationKind) × After (line (first_line answer)) (P answer) bytes

-- the first fault of the lines after the first, from line n on
abbrev pub ClaimFault : ℕ → Ending → TextFault → Option ViolationKind → List ℕ → Type 0
ClaimFault n ending fault None bytes = ItemFault operation_format n ending fault bytes
ClaimFault n ending fault (Some kind) bytes = ItemFault claim_line_format n ending fault bytes

-- the first fault of a text of a verdict: that of its first line, or of the lines after it
abbrev pub IsVerdictTextFault : ℕ → Ending → List ℕ → TextFault → Type 0
IsVerdictTextFault lines ending bytes fault =
    FirstLineFault (lines + 1) ending fault (front_of bytes)
    ⊎ AfterFirstLine (ClaimFault (lines + 2) ending fault) bytes

-- some lines after the first are valid, but there was no room for the last of them
abbrev pub NoRoomForClaim : Option ViolationKind → List ℕ → Type 0
NoRoomForClaim None bytes = NoRoom operation_format bytes
NoRoomForClaim (Some kind) bytes = NoRoom claim_line_format bytes

-- the first line and some lines after it are valid, but there was no room for the last of them
abbrev pub NoRoomForVerdict : List ℕ → Type 0
NoRoomForVerdict bytes = AfterFirstLine NoRoomForClaim bytes
