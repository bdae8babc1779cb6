-- Texts of histories: how they are written, and the first fault of bytes that should begin with one.
use Rattle.std.specs.Prelude.{ℕ, ◌≤◌, true}
use Rattle.std.specs.Prelude.{List, [], ◌∷◌, ◌++◌, length, codes, decimal, slice_index}
use Rattle.std.specs.declared.result.Result.{Result}
use Rattle.std.specs.List.{flat_map}
use Rattle.event_records.specs.declared.event.Event.{Event}
use Rattle.event_records.specs.declared.event.What.{What}
use Rattle.event_records.specs.declared.event.What.TheVariants.{CallEnq, RetEnq, RetNot, CallDeq, RetDeq, RetEmpty}
use Rattle.event_records.specs.declared.limits.TheConstants.{MAX_TICKET, MAX_THREAD, MAX_EVENTS}
use Rattle.text_lines.specs.declared.fault.TextFault.{TextFault}
use Rattle.text_lines.specs.Lines.{line, spaced, end_line, greatest_value}
use Rattle.text_lines.specs.Forms.{Table, FieldForm, Word}
use Rattle.history_text.specs.Items.{Format, HaveLines, a_ticket, a_thread, a_value, read_by}

-- ---- what is written

-- the words of a kind of event, with its value
abbrev pub what_fields : What → List (List ℕ)
what_fields (CallEnq v) = codes "call-enq" ∷ decimal v ∷ []
what_fields RetEnq = codes "ret-enq" ∷ []
what_fields RetNot = codes "ret-not" ∷ []
what_fields CallDeq = codes "call-deq" ∷ []
what_fields (RetDeq v) = codes "ret-deq" ∷ decimal v ∷ []
what_fields RetEmpty = codes "ret-empty" ∷ []

-- the fields of an event: ticket, thread, and kind
abbrev pub event_fields : Event → List (List ℕ)
event_fields e = decimal e.ticket ∷ decimal e.thread ∷ what_fields e.what

-- the line of an event
abbrev pub event_line : Event → List ℕ
event_line e = line (spaced (event_fields e))

-- the first line of a history
abbrev pub header : List ℕ
header = codes "fifo-history 1"

-- the lines of events, and the last line
abbrev pub lines_to_end : List Event → List ℕ
lines_to_end events = flat_map event_line events ++ end_line (length events)

-- the text of a history
abbrev pub history_text : List Event → List ℕ
history_text events = line header ++ lines_to_end events

-- the value, if there is one, has 64 bits
abbrev pub HasValueInRange : What → Type 0
HasValueInRange (CallEnq v) = v ≤ greatest_value
HasValueInRange (RetDeq v) = v ≤ greatest_value
HasValueInRange _ = Unit {0}

-- events that have a line
pub record HasEventLine (e : Event) : Type 0 where
  pub ticket : e.ticket ≤ MAX_TICKET
  pub thread : e.thread ≤ MAX_THREAD
  pub value : HasValueInRange e.what

-- ---- what is read

-- the form of an event without a value, by its word
abbrev pub plain_event : List ℕ → List FieldForm
plain_event word = a_ticket ∷ a_thread ∷ Word word ∷ []

-- the form of an event with a value, by its word
abbrev pub valued_event : List ℕ → List FieldForm
valued_event word = a_ticket ∷ a_thread ∷ Word word ∷ a_value ∷ []

-- the forms of event lines, each with the kind of its events, with 0 as the value
abbrev pub event_forms : Table What
event_forms =
    (CallEnq 0, valued_event (codes "call-enq")) ∷ (RetEnq, plain_event (codes "ret-enq"))
    ∷ (RetNot, plain_event (codes "ret-not"))
    ∷ (CallDeq, plain_event (codes "call-deq")) ∷ (RetDeq 0, valued_event (codes "ret-deq"))
    ∷ (RetEmpty, plain_event (codes "ret-empty")) ∷ []

-- the kind with its value replaced, if it has one
abbrev pub what_with : What → ℕ → What
what_with (CallEnq _) v = CallEnq v
what_with (RetDeq _) v = RetDeq v
what_with what v = what

-- the event of a line, from its form and its numbers
abbrev pub event_of : What → List ℕ → Event
event_of what numbers =
    record {
      ticket = slice_index numbers 0;
      thread = slice_index numbers 1;
      what = what_with what (slice_index numbers 2);
    }

-- the event on line n, from its fields
abbrev pub event_in : ℕ → List (List ℕ) → Result Event TextFault
event_in n fields = read_by event_forms event_of n fields

-- the format of a history, which lists events
abbrev pub event_format : Format Event
event_format =
    record { fields = event_fields; HasLine = HasEventLine; most = MAX_EVENTS; is_counted = true; read = event_in }

-- lists of events that have a text
abbrev pub HasHistoryText : List Event → Type 0
HasHistoryText events = HaveLines event_format events
