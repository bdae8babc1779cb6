-- Texts of histories in which calls may be pending: a history's text, or a pending text, which also counts its
-- pending calls.
use Rattle.std.specs.Prelude.{◌≡◌, ◌≢◌, ℕ, ◌+◌, ◌≤◌, ◌&&◌, ◌⊎◌, nat_lt, Bool, true, false, if◌then◌else◌, is_some}
use Rattle.std.specs.Prelude.{IfSome, ⊤}
use Rattle.std.specs.Prelude.{List, [], ◌∷◌, ◌++◌, length, drop, codes, decimal, Option, Some, None, Ok, Err}
use Rattle.std.specs.Prelude.{slice_index}
use Rattle.std.specs.declared.result.Result.{Result}
use Rattle.std.specs.Str.{bytes_eq}
use Rattle.event_records.specs.declared.event.Event.{Event}
use Rattle.event_records.specs.declared.limits.TheConstants.{MAX_EVENTS, MAX_THREADS}
use Rattle.text_lines.specs.declared.fault.TextFault.{TextFault}
use Rattle.text_lines.specs.declared.fault.TextFault.TheVariants.{Line, Limit, Cut}
use Rattle.text_lines.specs.Input.{Ahead, Ending}
use Rattle.text_lines.specs.Lines.{line, spaced, end_line, Front, Whole, TooLong, Unfinished, Nothing, front_of}
use Rattle.text_lines.specs.Lines.{fault_at, fields_of, ◌>>=◌}
use Rattle.text_lines.specs.Lines.{begins_as_end, end_in, header_fault, After}
use Rattle.text_lines.specs.Forms.{Table, FieldForm, Word, Number}
use Rattle.history_text.specs.declared.version.Version.{Version}
use Rattle.history_text.specs.declared.version.Version.TheVariants.{One, Two}
use Rattle.history_text.specs.declared.pending_line.EventLine.{EventLine}
use Rattle.history_text.specs.declared.pending_line.EventLine.TheVariants.{OneEvent, Stop}
use Rattle.history_text.specs.declared.pending_text.PendingText.{PendingText}
use Rattle.history_text.specs.Items.{HaveLines, lines_of, read_by}
use Rattle.history_text.specs.Reading.{HasFirstFault, Left, OfLeft, Takes}
use Rattle.history_text.specs.Histories.{event_format, event_in, HasHistoryText}
use Rattle.history_text.specs.Versions.{HistoryText, header_of, lines_of_initial, count_before_events, HaveValueLines}
use Rattle.history_text.specs.Versions.{InitialFault, AfterInitial, NoRoomAfterHeader}

-- ---- what is written

-- the first line of this version, of a history or of a pending text
abbrev pub first_line_of : Bool → Version → List ℕ
first_line_of false version = header_of version
first_line_of true One = codes "fifo-pending 1"
first_line_of true Two = codes "fifo-pending 2"

-- the lines of the initial values, which only version 2 has
abbrev pub value_lines : Version → List ℕ → List ℕ
value_lines One initial = []
value_lines Two initial = lines_of_initial initial

-- the fields of the line that counts pending calls
abbrev pub open_fields : ℕ → List (List ℕ)
open_fields calls = codes "open" ∷ decimal calls ∷ []

-- the line at which the events stop: the one that counts pending calls, or the one that counts the events
abbrev pub stop_line : Option ℕ → ℕ → List ℕ
stop_line None count = end_line count
stop_line (Some calls) count = line (spaced (open_fields calls))

-- the line after that: in a pending text the one that counts the events
abbrev pub lines_after_stop : Option ℕ → ℕ → List ℕ
lines_after_stop None count = []
lines_after_stop (Some calls) count = end_line count

-- the number of these lines
abbrev pub lines_at_stop : Option ℕ → ℕ
lines_at_stop calls = if is_some calls then 2 else 1

-- a text: its first line, the initial values, the events, and the lines that count
abbrev pub pending_text : PendingText → List ℕ
pending_text t =
    line (first_line_of (is_some t.open_calls) t.version)
    ++ (value_lines t.version t.initial ++ (lines_of event_format t.events
    ++ (stop_line t.open_calls (length t.events) ++ lines_after_stop t.open_calls (length t.events))))

-- the number of lines of a text
abbrev pub pending_line_count : PendingText → ℕ
pending_line_count t = count_before_events t.version t.initial + length t.events + lines_at_stop t.open_calls

-- the text of a history, as one whose calls may be pending
abbrev pub as_pending : HistoryText → PendingText
as_pending t = record { version = t.version; initial = t.initial; events = t.events; open_calls = None }

-- contents that have a text
pub record HasPendingText (t : PendingText) : Type 0 where
  pub initial : HaveValueLines t.version t.initial
  pub events : HasHistoryText t.events
  pub few_open : IfSome t.open_calls (λ calls. calls ≤ MAX_THREADS)

-- ---- what is read

-- the form of the line that counts pending calls
abbrev pub open_forms : Table (Unit {0})
open_forms = (tt, Word (codes "open") ∷ Number 0 MAX_THREADS ∷ []) ∷ []

-- the number of pending calls on line n, from its fields
abbrev pub open_in : ℕ → List (List ℕ) → Result ℕ TextFault
open_in n fields = read_by open_forms (λ _ numbers. slice_index numbers 0) n fields

-- the fields are those of the line that counts pending calls, not of an event
abbrev pub counts_open : List (List ℕ) → Bool
counts_open (word ∷ others) = bytes_eq word (codes "open")
counts_open [] = false

-- the event of line n, after k others
abbrev pub next_event_in : ℕ → ℕ → List ℕ → Result Event TextFault
next_event_in n k bytes = if nat_lt k MAX_EVENTS then event_in n (fields_of bytes) else Err (Limit n)

-- line n after k events, of a history or of a pending text: an event, or the line at which the events stop
abbrev pub event_line_in : Bool → ℕ → ℕ → List ℕ → Result EventLine TextFault
event_line_in false n k bytes =
    if begins_as_end bytes then (end_in n k (drop 4 bytes) >>= λ _. Ok (Stop None)) else
    (next_event_in n k bytes >>= λ e. Ok (OneEvent e))
event_line_in true n k bytes =
    if counts_open (fields_of bytes) then (open_in n (fields_of bytes) >>= λ calls. Ok (Stop (Some calls)))
    else (next_event_in n k bytes >>= λ e. Ok (OneEvent e))

-- line n, which has to count the k events before it
abbrev pub last_line_in : ℕ → ℕ → List ℕ → Result (Unit {0}) TextFault
last_line_in n k bytes = if begins_as_end bytes then end_in n k (drop 4 bytes) else Err (Line n)

-- the item on a whole line at the front of the input, line n, and the bytes after it
abbrev pub whole_line_at_front : {A : Type 0} → (List ℕ → Result A TextFault) → ℕ → Ending → Front
    → Result (A × List ℕ) TextFault
whole_line_at_front read n ending (Whole bytes rest) = read bytes >>= λ said. Ok (said, rest)
whole_line_at_front read n ending TooLong = Err (Line n)
whole_line_at_front read n ending Unfinished = Err (fault_at ending)
whole_line_at_front read n ending Nothing = Err (fault_at ending)

-- these events have their lines from line n on, and the line after them has this fault
pub record StopsAfter (is_pending : Bool) (n : ℕ) (ending : Ending) (fault : TextFault) (bytes : List ℕ)
    (events : List Event) : Type 0 where
  pub rest : List ℕ
  pub right : HaveLines event_format events
  pub front : bytes ≡ lines_of event_format events ++ rest
  pub next : whole_line_at_front (event_line_in is_pending (n + length events) (length events))
      (n + length events) ending (front_of rest) ≡ Err fault

-- these events have their lines from line n on, the next line counts this many pending calls, and the last line has
-- this fault
pub record LacksEnd (n : ℕ) (ending : Ending) (fault : TextFault) (bytes : List ℕ) (events : List Event)
    (calls : ℕ) : Type 0 where
  pub rest : List ℕ
  pub right : HaveLines event_format events
  pub few_open : calls ≤ MAX_THREADS
  pub front : bytes ≡ lines_of event_format events ++ (stop_line (Some calls) (length events) ++ rest)
  pub next : whole_line_at_front (last_line_in (n + length events + 1) (length events)) (n + length events + 1) ending
      (front_of rest) ≡ Err fault

-- the fault after these events and, if there is one, this count of pending calls
abbrev pub FaultAfterEvents : Bool → ℕ → Ending → TextFault → List ℕ → List Event → Option ℕ → Type 0
FaultAfterEvents is_pending n ending fault bytes events None = StopsAfter is_pending n ending fault bytes events
FaultAfterEvents is_pending n ending fault bytes events (Some calls) = (is_pending ≡ true)
    × LacksEnd n ending fault bytes events calls

-- the first fault of the lines of events from line n on, or of those after them, unless it is that the input ends
-- early and this is allowed
abbrev pub EventsFault : Bool → Bool → ℕ → Ending → TextFault → List ℕ → Type 0
EventsFault takes_cut is_pending n ending fault bytes =
    (events : List Event) × (calls : Option ℕ) × FaultAfterEvents is_pending n ending fault bytes events calls
    × (takes_cut ≡ true → fault ≢ Cut)

-- the first line is that of no version, of neither a history nor a pending text, and this is its fault
abbrev pub NoFirstLine : Ending → TextFault → Front → Type 0
NoFirstLine ending fault front = (is_pending : Bool) (version : Version)
    → header_fault (first_line_of is_pending version) ending front ≡ Some fault

-- the first fault of the lines after the first, from line n on
abbrev pub FaultAfterFirst : Bool → Bool → Version → ℕ → Ending → TextFault → List ℕ → Type 0
FaultAfterFirst takes_cut is_pending One n ending fault bytes = EventsFault takes_cut is_pending n ending fault bytes
FaultAfterFirst takes_cut is_pending Two n ending fault bytes =
    InitialFault n ending fault bytes
    ⊎ AfterInitial (λ k. EventsFault takes_cut is_pending (n + 1 + k) ending fault) bytes

-- the first fault of the text: that of its first line, or of the lines after it
abbrev pub IsPendingTextFault : Bool → ℕ → Ending → List ℕ → TextFault → Type 0
IsPendingTextFault takes_cut lines ending bytes fault =
    NoFirstLine ending fault (front_of bytes)
    ⊎ ((is_pending : Bool) × (version : Version)
    × After (line (first_line_of is_pending version))
    (FaultAfterFirst takes_cut is_pending version (lines + 2) ending fault) bytes)

-- ---- texts that are cut off

-- the first line and the initial values are valid, and then the input ends early: after these events, and after the
-- count of pending calls if there is one
pub record IsCutText (lines : ℕ) (input : Ahead) (t : PendingText) : Type 0 where
  pub is_pending : Bool
  pub initial : HaveValueLines t.version t.initial
  pub rest : List ℕ
  pub front : input.bytes ≡ (line (first_line_of is_pending t.version) ++ value_lines t.version t.initial) ++ rest
  pub cut : FaultAfterEvents is_pending
      (lines + count_before_events t.version t.initial + 1) input.ending Cut rest t.events t.open_calls

-- ---- what a call on a reader returns

-- the input begins with the text; or with a part of it, if this is allowed, and then ends
abbrev pub IsPendingRead : Bool → ℕ → Left → Left → PendingText → Bool → Type 0
IsPendingRead takes_cut lines old new t true = HasPendingText t × Takes old new (pending_text t)
IsPendingRead takes_cut lines old new t false = (takes_cut ≡ true) × OfLeft old (λ a. IsCutText lines a t)

-- the first line and some lines after it are valid, but there was no room for the last of them
abbrev pub NoRoomForPending : List ℕ → Type 0
NoRoomForPending bytes = (is_pending : Bool) × (version : Version)
    × After (line (first_line_of is_pending version)) (NoRoomAfterHeader version) bytes

-- the first fault of such a text, in what is left of the input
abbrev pub HasPendingTextFault : Bool → ℕ → Left → TextFault → Type 0
HasPendingTextFault takes_cut lines left fault =
    HasFirstFault (IsPendingTextFault takes_cut lines) NoRoomForPending left fault
