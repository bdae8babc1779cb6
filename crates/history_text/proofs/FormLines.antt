-- Lines parsed by a table: what is written is read back, and what is read is spelled in this way. The thread in the
-- line of an event.
use Rattle.history_text.proofs.Common.{[], a_value, all_digits, AllByRecursion, and_right, ap, AreOfForm, arith}
use Rattle.history_text.proofs.Common.{begins_as_end, bytes_eq, claim_line_fields, claim_line_format, claim_line_in}
use Rattle.history_text.proofs.Common.{ClaimLine, codes, count_fields, count_format, count_forms, count_in, decimal}
use Rattle.history_text.proofs.Common.{decimal_digit, decimal_nonempty, decimal_step, Dequeue, draining, drop}
use Rattle.history_text.proofs.Common.{drop_more}
use Rattle.history_text.proofs.Common.{DequeueEmpty, empty_operation, end_in, end_line, end_ok, end_read, Ending}
use Rattle.history_text.proofs.Common.{Enqueue, Err}
use Rattle.history_text.proofs.Common.{event_format, event_forms, event_in, event_of, false, field_is_clean, FieldForm}
use Rattle.history_text.proofs.Common.{fields_of, Format, front_of, get_or, greatest_value, has_bits, HasClaimLine}
use Rattle.history_text.proofs.Common.{HasOperationLine, HasStepLine, HasValueInRange, Initial, initial_form}
use Rattle.history_text.proofs.Common.{initial_forms, initial_of, is_blank, is_initial, is_line_form, IsAnswerInRange}
use Rattle.history_text.proofs.Common.{IsItemLine, IsKindInRange, IsLineOf, IsPartOfLine, IsSetting, IsSpelled}
use Rattle.history_text.proofs.Common.{item_at_front, item_in, join_with_byte-slice_split, kind_fields, length}
use Rattle.history_text.proofs.Common.{length-decimal-le, line, line_at_front, line_of, List, list_all, MAX_INITIAL}
use Rattle.history_text.proofs.Common.{MAX_THREAD, MAX_TICKET, nat_tests, None, EnqueueFailed, Number, number_is_field}
use Rattle.history_text.proofs.Common.{number_of, numbers_back, numbers_in, Ok, Op, Operation, operation_fields}
use Rattle.history_text.proofs.Common.{operation_format, operation_forms, operation_of, OpKind, parse_line}
use Rattle.history_text.proofs.Common.{parse_line_says, plain_event, plain_saying, plain_step, read_by, refl, Result}
use Rattle.history_text.proofs.Common.{rules, setting_fields, setting_form, setting_format, setting_forms, setting_in}
use Rattle.history_text.proofs.Common.{setting_of, Some, spaced, spelled, spelled_is_line, Step, step_fields}
use Rattle.history_text.proofs.Common.{step_format, step_forms, step_in, step_of, step_with, sym, Table}
use Rattle.history_text.proofs.Common.{take-append-drop, TextFault, true, value_fields, value_format, value_forms}
use Rattle.history_text.proofs.Common.{value_in, valued_event, valued_operation, valued_saying, what_fields, whole}
use Rattle.history_text.proofs.Common.{Word, ℕ, ◌%◌, ◌&&◌, ◌*◌, ◌++◌, ◌+◌, ◌<◌, ◌==◌, ◌>>=◌, ◌^◌, ◌∙◌, ◌∷◌, ◌≡◌}
use Rattle.history_text.proofs.Common.{◌≤◌}
use Rattle.text_lines.proofs.Fields.{has_field}
use Rattle.event_records.specs.declared.event.What.{What}
use Rattle.event_records.specs.declared.event.What.TheVariants.{CallDeq, CallEnq, RetDeq, RetEmpty, RetEnq, RetNot}
use Rattle.std.specs.Char.{is_ascii_digit}
use Rattle.recorder_core.specs.declared.step.Step.TheVariants.{AskEnq, AskDeq, Push, Effect, Say, Ret, Drain, Close}
use Rattle.event_records.specs.declared.kind.Answer.{Answer}
use Rattle.event_records.specs.declared.kind.Answer.TheVariants as reply

-- ---- the first line, the line of an item and the last line are read back, whatever comes after

pub end_is_part : (k : ℕ) → k < 2 ^ 64 → IsPartOfLine (codes "end " ++ decimal k)
end_is_part k small = grind (arith, field_is_clean, number_is_field, length-decimal-le)

-- the last line is read
pub end_front : {A : Type 0} (format : Format A) (n k : ℕ) (ending : Ending) (rest : List ℕ) → format.is_counted ≡ true
    → k < 2 ^ 64
    → item_at_front format n k ending (front_of (end_line k ++ rest)) ≡ Ok (None, rest)
end_front format n k ending rest counted small =
    ap (item_at_front format n k ending) (whole (codes "end " ++ decimal k) rest (end_is_part k small)) ∙ rw (counted, end_read n k small) refl

-- ---- parsing the line of an item, and the last line

-- the last line counts the items before it
pub last_line_ok : {A : Type 0} (format : Format A) (n k : ℕ) (bytes field : List ℕ) → k < 2 ^ 64
    → (format.is_counted && begins_as_end bytes) ≡ true
    → field ≡ drop 4 bytes → Ok tt ≡ end_in n k field → IsItemLine format k bytes None
last_line_ok format n k bytes field small last field_is e = grind (arith, end_ok, take-append-drop)

-- the fault of the last line is that of its number
pub last_line_faulty : {A : Type 0} (format : Format A) (n k : ℕ) (bytes field : List ℕ) (fault : TextFault)
    → (format.is_counted && begins_as_end bytes) ≡ true → field ≡ drop 4 bytes → Err fault ≡ end_in n k field
    → Err fault ≡ item_in format n k bytes
last_line_faulty format n k bytes field fault last field_is e = grind arith

-- an item's line is that of its fields
pub item_line_ok : {A : Type 0} (format : Format A) (k : ℕ) (bytes : List ℕ) (item : A) → k < format.most
    → IsSpelled format (fields_of bytes) item
    → IsItemLine format k bytes (Some item)
item_line_ok format k bytes item few spelled = (ap line (sym (join_with_byte-slice_split 32 bytes) ∙ ap spaced spelled.text), spelled.line, few)

-- ---- lines parsed by a table

-- the fields are a line, which is read as this item
pub record IsReadAs {A : Type 0} (read : ℕ → List (List ℕ) → Result A TextFault) (fields : List (List ℕ))
    (item : A) : Type 0 where
  pub one : IsLineOf fields
  pub read_back : (n : ℕ) → read n fields ≡ Ok item

-- a property of the numbers of a form, one number after another
abbrev pub ForNumbers : List FieldForm → (List ℕ → Type 0) → Type 0
ForNumbers [] P = P []
ForNumbers (Word word ∷ forms) P = ForNumbers forms P
ForNumbers (Number least greatest ∷ forms) P = (v : ℕ) → least ≤ v → v ≤ greatest → ForNumbers forms (λ vs. P (v ∷ vs))

infixr 5 ◌&◌
-- a property of a row, and of those after it
abbrev pub ◌&◌ : {A B : Type 0} → A → B → A × B
p & q = (p, q)

of_numbers : (forms : List FieldForm) (P : List ℕ → Type 0) → ForNumbers forms P → (numbers : List ℕ)
    → AreOfForm forms numbers → P numbers
of_numbers [] P each [] h = each
of_numbers [] P each (v ∷ vs) h = absurd h
of_numbers (Word word ∷ forms) P each numbers h = of_numbers forms P each numbers h
of_numbers (Number least greatest ∷ forms) P each [] h = absurd h
of_numbers (Number least greatest ∷ forms) P each (v ∷ vs) h = of_numbers forms (λ ws. P (v ∷ ws)) (each v h.0 h.1) vs h.2

module _ {T A : Type 0} (table : Table T) (make : T → List ℕ → A) where
  -- the text that a row of the table writes is read back
  pub row_back : (what : T) (form : List FieldForm) (numbers : List ℕ) → list_all has_bits form ≡ true
      → is_line_form form ≡ true
      → ((n : ℕ) → parse_line n table (spelled form numbers)
      ≡ (numbers_in n form (spelled form numbers) >>= λ found. Ok (what, found)))
      → AreOfForm form numbers → IsReadAs (read_by table make) (spelled form numbers) (make what numbers)
  row_back what form numbers bits is_line finds within = record {
    one = spelled_is_line form numbers is_line within;
    read_back = λ n. ap (λ (r : Result (T × List ℕ) TextFault). r >>= λ said. Ok (make said.0 said.1))
        (finds n ∙ ap (λ (r : Result (List ℕ) TextFault). r >>= λ found. Ok (what, found)) (numbers_back n form numbers bits within));
  }

-- each row of a table writes the line of its item
pub record Spells {T A : Type 0} (format : Format A) (table : Table T) (make : T → List ℕ → A) : Type 0 where
  pub bits : list_all (λ row. list_all has_bits row.1) table ≡ true
  pub rows : AllByRecursion
      (λ row. ForNumbers row.1 (λ numbers. IsSpelled format (spelled row.1 numbers) (make row.0 numbers))) table

module _ {T A : Type 0} {format : Format A} {table : Table T} {make : T → List ℕ → A}
    (spells : Spells format table make) where
  each_row : (rows : Table T)
      → AllByRecursion (λ row. ForNumbers row.1
      (λ numbers. IsSpelled format (spelled row.1 numbers) (make row.0 numbers))) rows
      → AllByRecursion (λ row. (numbers : List ℕ) → AreOfForm row.1 numbers → IsSpelled format (spelled row.1 numbers) (make row.0 numbers)) rows
  each_row [] all = tt
  each_row (row ∷ rows) all = grind (arith, of_numbers, each_row rows all.1)

  -- a line that is read spells what it is read as
  pub said_spelled : (n : ℕ) (fields : List (List ℕ)) (said : T × List ℕ) → parse_line n table fields ≡ Ok said
      → IsSpelled format fields (make said.0 said.1)
  said_spelled n fields said e =
      parse_line_says (λ what numbers f. IsSpelled format f (make what numbers)) n table fields said (each_row table spells.rows) spells.bits e

-- the line of each item is read back, wherever it is
abbrev pub IsReadBack : {A : Type 0} → Format A → Type 0
IsReadBack {A} format = (n k : ℕ) (ending : Ending) (item : A) (rest : List ℕ) → format.HasLine item → k < format.most
    → item_at_front format n k ending (front_of (line_of format item ++ rest)) ≡ Ok (Some item, rest)

-- an item whose line is read back is read at the front
pub item_read : {A : Type 0} (format : Format A)
    → ((item : A) → format.HasLine item → IsReadAs format.read (format.fields item) item)
    → IsReadBack format
item_read format back n k ending item rest has few = grind (arith, and_right, whole)

-- the text is a line that is read as this, wherever it is
abbrev pub Says : {A : Type 0} → (ℕ → List (List ℕ) → Result A TextFault) → List ℕ → A → Type 0
Says read text said = (n : ℕ) (ending : Ending) (rest : List ℕ) → line_at_front read n ending (front_of (text ++ rest)) ≡ Ok (said, rest)

-- a line that is read back is read as its item
pub line_read : {A : Type 0} (read : ℕ → List (List ℕ) → Result A TextFault) (fields : List (List ℕ)) (said : A)
    → IsReadAs read fields said
    → Says read (line (spaced fields)) said
line_read read fields said is n ending rest = grind (arith, whole)

-- ---- the lines of a history are spelled as they are read, and read back as they are written

-- ---- the lines of initial values and of their count

-- a line is blank if it has no byte
pub blank_line : (bytes : List ℕ) → is_blank (fields_of bytes) ≡ (length bytes == 0)
blank_line [] = refl
blank_line (b ∷ bytes) = grind (arith, nat_tests, has_field bytes)

-- the fields of a value are spelled as they are written
pub value_spells : Spells value_format value_forms number_of
value_spells = record { bits = refl; rows = (λ v _ few. record { text = refl; line = few }, tt) }

-- the fields of a count are spelled as they are written
pub count_spells : Spells count_format count_forms number_of
count_spells = record { bits = refl; rows = (λ k _ few. record { text = refl; line = few }, tt) }

some_digits : (ds : List ℕ) → 0 < length ds → is_blank (ds ∷ []) ≡ false
some_digits ds some = grind arith

-- the line of a value is read as that value
pub value_says : (v : ℕ) → v ≤ greatest_value → Says value_in (line_of value_format v) v
value_says v range =
    let is = row_back value_forms number_of tt (a_value ∷ []) (v ∷ []) refl refl (λ n. refl) (omega arith, range, tt) in
    let other : is_blank (value_fields v) ≡ false = some_digits (decimal v) (decimal_nonempty v (omega (arith, range))) in
    line_read value_in (value_fields v) v (record { one = is.one; read_back = λ n. rw other (is.read_back n) })

-- the line of a count is read as that count
pub count_says : (k : ℕ) → k ≤ MAX_INITIAL → Says count_in (line (spaced (count_fields k))) k
count_says k few =
    line_read count_in (count_fields k) k
    (row_back count_forms number_of tt (Word (codes "initial") ∷ Number 0 MAX_INITIAL ∷ []) (k ∷ []) refl refl (λ n. refl) (omega arith, few, tt))

-- ---- events

event_row : (t th : ℕ) (what : What) → t ≤ MAX_TICKET → th ≤ MAX_THREAD → HasValueInRange what
    → IsSpelled event_format (decimal t ∷ decimal th ∷ what_fields what)
    (record { ticket = t; thread = th; what = what })
event_row t th what a b range = record { text = refl; line = record { ticket = a; thread = b; value = range } }

-- the fields of an event are spelled as they are written
pub event_spells : Spells event_format event_forms event_of
event_spells = grind (arith, event_row)

module _ (t th : ℕ) (a : t ≤ MAX_TICKET) (b : th ≤ MAX_THREAD) where
  pub event_back : (what : What) → HasValueInRange what
      → IsReadAs event_in (decimal t ∷ decimal th ∷ what_fields what) (record { ticket = t; thread = th; what = what })
  event_back (CallEnq v) r =
      row_back event_forms event_of (CallEnq 0) (valued_event (codes "call-enq")) (t ∷ th ∷ v ∷ []) refl refl (λ n. refl) (search rules)
  event_back RetEnq r = row_back event_forms event_of RetEnq (plain_event (codes "ret-enq")) (t ∷ th ∷ []) refl refl (λ n. refl) (search rules)
  event_back RetNot r = row_back event_forms event_of RetNot (plain_event (codes "ret-not")) (t ∷ th ∷ []) refl refl (λ n. refl) (search rules)
  event_back CallDeq r = row_back event_forms event_of CallDeq (plain_event (codes "call-deq")) (t ∷ th ∷ []) refl refl (λ n. refl) (search rules)
  event_back (RetDeq v) r =
      row_back event_forms event_of (RetDeq 0) (valued_event (codes "ret-deq")) (t ∷ th ∷ v ∷ []) refl refl (λ n. refl) (search rules)
  event_back RetEmpty r = row_back event_forms event_of RetEmpty (plain_event (codes "ret-empty")) (t ∷ th ∷ []) refl refl (λ n. refl) (search rules)

-- the line of an event is read as that event
pub event_front : IsReadBack event_format
event_front = item_read event_format (λ e range. event_back e.ticket e.thread range.ticket range.thread e.what range.value)

-- ---- the lines of a verdict are spelled as they are read, and read back as they are written

-- ---- lines are spelled as they are read

operation_row : (c r t : ℕ) (kind : OpKind) → c ≤ MAX_TICKET → r ≤ MAX_TICKET → t ≤ MAX_THREAD → IsKindInRange kind
    → IsSpelled operation_format (decimal c ∷ decimal r ∷ decimal t ∷ kind_fields kind)
    (record { call = c; ret = r; thread = t; kind = kind })
operation_row c r t kind a b few range = record { text = refl; line = record { call = a; ret = b; thread = few; value = range } }

-- the fields of an operation are spelled as they are written
pub operation_spells : Spells operation_format operation_forms operation_of
operation_spells = grind (arith, operation_row)

-- the fields of an initial value are spelled as they are written
pub initial_spells : Spells claim_line_format initial_forms initial_of
initial_spells = record { bits = refl; rows = (λ v _ range. record { text = refl; line = range }, tt) }

-- ---- lines are read back as they are written

-- parsing the lines of operations
abbrev read_operation : ℕ → List (List ℕ) → Result Operation TextFault
read_operation n fields = read_by operation_forms operation_of n fields

module _ (c r t : ℕ) (a : c ≤ MAX_TICKET) (b : r ≤ MAX_TICKET) (few : t ≤ MAX_THREAD) where
  valued_back : (v : ℕ) (word : List ℕ) (kind : OpKind) → v ≤ greatest_value
      → is_line_form (valued_operation word) ≡ true
      → ((n : ℕ) → parse_line n operation_forms (decimal c ∷ decimal r ∷ decimal t ∷ word ∷ decimal v ∷ [])
      ≡ (numbers_in n (valued_operation word) (decimal c ∷ decimal r ∷ decimal t ∷ word ∷ decimal v ∷ []) >>= λ found. Ok (kind, found)))
      → IsReadAs read_operation (decimal c ∷ decimal r ∷ decimal t ∷ word ∷ decimal v ∷ []) (operation_of kind (c ∷ r ∷ t ∷ v ∷ []))
  valued_back v word kind range is_line finds =
      row_back operation_forms operation_of kind (valued_operation word) (c ∷ r ∷ t ∷ v ∷ []) refl is_line finds (search rules)

  kind_back : (kind : OpKind) → IsKindInRange kind
      → IsReadAs read_operation (decimal c ∷ decimal r ∷ decimal t ∷ kind_fields kind)
      (record { call = c; ret = r; thread = t; kind = kind })
  kind_back (Enqueue v) range = valued_back v (codes "enq") (Enqueue 0) range refl (λ n. refl)
  kind_back (Dequeue v) range = valued_back v (codes "deq") (Dequeue 0) range refl (λ n. refl)
  kind_back DequeueEmpty range = row_back operation_forms operation_of DequeueEmpty empty_operation (c ∷ r ∷ t ∷ []) refl refl (λ n. refl) (search rules)
  kind_back (EnqueueFailed v) range = valued_back v (codes "not") (EnqueueFailed 0) range refl (λ n. refl)

digits_are_other : (ds : List ℕ) → 0 < length ds → list_all is_ascii_digit ds ≡ true
    → bytes_eq ds (codes "init") ≡ false
digits_are_other [] some all = absurd (omega (arith, some))
digits_are_other (d ∷ ds) some all = grind arith

-- an operation is no initial value
no_initial : (o : Operation) → HasOperationLine o → is_initial (operation_fields o) ≡ false
no_initial o range = grind (arith, digits_are_other, decimal_nonempty, all_digits)

claim_line_back : (l : ClaimLine) → HasClaimLine l → IsReadAs claim_line_in (claim_line_fields l) l
claim_line_back (Op o) range =
    let is = kind_back o.call o.ret o.thread range.call range.ret range.thread o.kind range.value in
    record { one = is.one; read_back = λ n. rw (no_initial o range, is.read_back n) refl }
claim_line_back (Initial v) range =
    assumption (row_back initial_forms initial_of tt initial_form (v ∷ []) refl refl (λ n. refl) (omega arith, range, tt))

-- the line of a `NO` is read as that line
pub claim_line_front : IsReadBack claim_line_format
claim_line_front = item_read claim_line_format claim_line_back

-- the line of an operation is read as that operation
pub operation_front : IsReadBack operation_format
operation_front = item_read operation_format (λ o range.
    let is = kind_back o.call o.ret o.thread range.call range.ret range.thread o.kind range.value in
    record { one = is.one; read_back = λ n. rw (no_initial o range) (is.read_back n) })

-- ---- the lines of a schedule

step_row : (step : Step) → HasStepLine step → IsSpelled step_format (step_fields step) step
step_row step range = record { text = refl; line = range }

-- the fields of a step are spelled as they are written
pub step_spells : Spells step_format step_forms step_of
step_spells = grind (arith, step_row)

-- the thread of a step with a line is in range
pub thread_is_few : (step : Step) (t v : ℕ) → HasStepLine (step_with step t v) → t ≤ MAX_THREAD
thread_is_few step t v h = grind arith

-- the fields of a setting are spelled as they are written
pub setting_spells : Spells setting_format setting_forms setting_of
setting_spells = grind arith

module _ (t : ℕ) (few : t ≤ MAX_THREAD) where
  plain_back : (word : List ℕ) (step : Step) → is_line_form (plain_step word) ≡ true
      → ((n : ℕ) → parse_line n step_forms (word ∷ decimal t ∷ [])
      ≡ (numbers_in n (plain_step word) (word ∷ decimal t ∷ []) >>= λ found. Ok (step, found)))
      → IsReadAs step_in (word ∷ decimal t ∷ []) (step_of step (t ∷ []))
  plain_back word step is_line finds = row_back step_forms step_of step (plain_step word) (t ∷ []) refl is_line finds (omega arith, few, tt)

  saying_back : (answer : Answer) → IsAnswerInRange answer
      → IsReadAs step_in (step_fields (Say t answer)) (Say t answer)
  saying_back reply.Taken range =
      row_back step_forms step_of (Say 0 reply.Taken) (plain_saying (codes "taken")) (t ∷ []) refl refl (λ n. refl) (search rules)
  saying_back reply.Not range =
      row_back step_forms step_of (Say 0 reply.Not) (plain_saying (codes "not")) (t ∷ []) refl refl (λ n. refl) (search rules)
  saying_back (reply.Got v) range = row_back step_forms step_of (Say 0 (reply.Got 0)) valued_saying (t ∷ v ∷ []) refl refl (λ n. refl) (search rules)
  saying_back reply.Empty range =
      row_back step_forms step_of (Say 0 reply.Empty) (plain_saying (codes "empty")) (t ∷ []) refl refl (λ n. refl) (search rules)

step_back : (step : Step) → HasStepLine step → IsReadAs step_in (step_fields step) step
step_back (AskEnq t) few = plain_back t few (codes "ask-enq") (AskEnq 0) refl (λ n. refl)
step_back (AskDeq t) few = plain_back t few (codes "ask-deq") (AskDeq 0) refl (λ n. refl)
step_back (Push t) few = plain_back t few (codes "push") (Push 0) refl (λ n. refl)
step_back (Effect t) few = plain_back t few (codes "effect") (Effect 0) refl (λ n. refl)
step_back (Say t answer) range = saying_back t range.0 answer range.1
step_back (Ret t) few = plain_back t few (codes "ret") (Ret 0) refl (λ n. refl)
step_back (Drain t k) range = row_back step_forms step_of (Drain 0 0) draining (t ∷ k ∷ []) refl refl (λ n. refl) (search rules)
step_back (Close t) few = plain_back t few (codes "close") (Close 0) refl (λ n. refl)

-- the line of a step is read as that step
pub step_front : IsReadBack step_format
step_front = item_read step_format step_back

-- the line of a setting is read as that setting
pub setting_says : (threads ring : ℕ) → IsSetting threads ring
    → Says setting_in (line (spaced (setting_fields threads ring))) (threads, ring)
setting_says threads ring within = line_read setting_in (setting_fields threads ring) (threads, ring)
    (row_back setting_forms setting_of tt setting_form (threads ∷ ring ∷ []) refl refl (λ n. refl)
    (within.some_threads, within.few_threads, (within.some_room, within.little_room, tt)))

-- ---- the thread in the line of an event, which has one or two digits

-- the digit of a byte, if it isn't below that of 0
abbrev pub above_zero : ℕ → ℕ
above_zero byte = (byte + 208) % 256

-- the byte at a place, and those after it
byte_then : (bytes : List ℕ) (at byte next : ℕ) → at < length bytes → get_or bytes at 0 ≡ byte → next ≡ at + 1
    → drop at bytes ≡ byte ∷ drop next bytes
byte_then bytes at byte next within is next_is = rw (drop_more bytes at 0 within, is, next_is) refl

module _ (bytes : List ℕ) (at : ℕ) (fits : (place : ℕ) → get_or bytes place 0 < 256) where
  abbrev digit_at : ℕ → ℕ
  digit_at place = above_zero (get_or bytes place 0)

  -- the byte of a digit
  back : (place : ℕ) → digit_at place < 10 → get_or bytes place 0 ≡ 48 + digit_at place
  back place digit = omega (arith, fits place, digit)

  pub one_digit : at + 2 ≤ length bytes → get_or bytes (at + 1) 0 ≡ 32 → digit_at at < 10
      → drop at bytes ≡ decimal (digit_at at) ++ 32 ∷ drop (at + 2) bytes
  one_digit long space digit = grind (arith, byte_then, back, decimal_digit)

  pub two_digits : at + 3 ≤ length bytes → get_or bytes (at + 2) 0 ≡ 32 → 1 ≤ digit_at at → digit_at at < 10
      → digit_at (at + 1) < 10 → drop at bytes ≡ decimal (digit_at at * 10 + digit_at (at + 1)) ++ 32
      ∷ drop (at + 3) bytes
  two_digits long space some ten one = grind (arith, byte_then, back, decimal_step, decimal_digit)
