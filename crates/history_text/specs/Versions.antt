-- Texts of histories of either version: how they are written, and the first fault of bytes that should begin with
-- one.
use Rattle.std.specs.Prelude.{◌≡◌, ℕ, ◌+◌, ◌≤◌, if◌then◌else◌, ◌⊎◌, Bool, true, false}
use Rattle.std.specs.Prelude.{List, [], ◌∷◌, ◌++◌, length, codes, decimal, Some, Err, slice_index}
use Rattle.std.specs.declared.result.Result.{Result}
use Rattle.event_records.specs.declared.event.Event.{Event}
use Rattle.event_records.specs.declared.limits.TheConstants.{MAX_INITIAL}
use Rattle.history_merge.specs.Gathering.{BuilderView, HasGathered}
use Rattle.history_merge.specs.Initial.{HistoryView}
use Rattle.text_lines.specs.declared.fault.TextFault.{TextFault}
use Rattle.text_lines.specs.declared.fault.TextFault.TheVariants.{Line}
use Rattle.text_lines.specs.Input.{Ending}
use Rattle.text_lines.specs.Lines.{line, spaced, greatest_value, Front, front_of, header_fault, After}
use Rattle.history_text.specs.declared.version.Version.{Version}
use Rattle.history_text.specs.declared.version.Version.TheVariants.{One, Two}
use Rattle.text_lines.specs.Forms.{Table, Word, Number}
use Rattle.history_text.specs.Items.{Format, HaveLines, lines_of, LineFault, ItemFault, NoRoom, FaultAmong}
use Rattle.history_text.specs.Items.{NoRoomAmong, a_value, read_by}
use Rattle.history_text.specs.Histories.{header, lines_to_end, event_format, HasHistoryText}

-- the content of a history's text: its version, the initial values, of which version 1 has none, and the events; any
-- values and events may be listed
pub record HistoryText : Type 0 where
  pub version : Version
  pub initial : List ℕ
  pub events : List Event

-- ---- initial values

-- the fields of a value: it is alone on its line
abbrev pub value_fields : ℕ → List (List ℕ)
value_fields v = decimal v ∷ []

-- the form of this line
abbrev pub value_forms : Table (Unit {0})
value_forms = (tt, a_value ∷ []) ∷ []

-- the number of a line that has one
abbrev pub number_of : Unit {0} → List ℕ → ℕ
number_of _ numbers = slice_index numbers 0

-- the line is empty
abbrev pub is_blank : List (List ℕ) → Bool
is_blank ([] ∷ []) = true
is_blank _ = false

-- the value on line n, from its fields
abbrev pub value_in : ℕ → List (List ℕ) → Result ℕ TextFault
value_in n fields = if is_blank fields then Err (Line n) else read_by value_forms number_of n fields

-- the format of the initial values of version 2
abbrev pub value_format : Format ℕ
value_format =
    record {
      fields = value_fields;
      HasLine = λ v. v ≤ greatest_value;
      most = MAX_INITIAL;
      is_counted = false;
      read = value_in;
    }

-- the fields of the second line of version 2, which counts the initial values
abbrev pub count_fields : ℕ → List (List ℕ)
count_fields k = codes "initial" ∷ decimal k ∷ []

-- the form of this line
abbrev pub count_forms : Table (Unit {0})
count_forms = (tt, Word (codes "initial") ∷ Number 0 MAX_INITIAL ∷ []) ∷ []

-- the number of initial values on line n, from its fields
abbrev pub count_in : ℕ → List (List ℕ) → Result ℕ TextFault
count_in n fields = read_by count_forms number_of n fields

-- the line that counts the initial values, and their lines
abbrev pub lines_of_initial : List ℕ → List ℕ
lines_of_initial initial = line (spaced (count_fields (length initial))) ++ lines_of value_format initial

-- ---- what is written

-- the first line of a version
abbrev pub header_of : Version → List ℕ
header_of One = header
header_of Two = codes "fifo-history 2"

-- the lines before the events
abbrev pub lines_before_events : Version → List ℕ → List ℕ
lines_before_events One initial = line (header_of One)
lines_before_events Two initial = line (header_of Two) ++ lines_of_initial initial

-- the number of these lines
abbrev pub count_before_events : Version → List ℕ → ℕ
count_before_events One initial = 1
count_before_events Two initial = 2 + length initial

-- the text of initial values and events
abbrev pub text_by : Version → List ℕ → List Event → List ℕ
text_by version initial events = lines_before_events version initial ++ lines_to_end events

-- the text of either version
abbrev pub text_of : HistoryText → List ℕ
text_of t = text_by t.version t.initial t.events

-- the content of the text of a history in this version
abbrev pub said_in : Version → HistoryView → HistoryText
said_in version history = record { version = version; initial = history.initial; events = history.events }

-- the number of lines of a text
abbrev pub line_count : HistoryText → ℕ
line_count t = count_before_events t.version t.initial + length t.events + 1

-- initial values that a text of this version may have
abbrev pub HaveValueLines : Version → List ℕ → Type 0
HaveValueLines One initial = initial ≡ []
HaveValueLines Two initial = HaveLines value_format initial

-- contents that have a text
pub record HasText (t : HistoryText) : Type 0 where
  pub initial : HaveValueLines t.version t.initial
  pub events : HasHistoryText t.events

-- ---- what is read

-- the text is of this version, and the builder took its values and events
pub record IsReadAs (text : HistoryText) (version : Version) (builder : BuilderView) : Type 0 where
  pub same_version : version ≡ text.version
  pub gathered : HasGathered text.initial text.events builder

-- the first line of the input is that of no version, and this is its fault
abbrev pub NoVersionFault : Ending → TextFault → Front → Type 0
NoVersionFault ending fault front = (version : Version) → header_fault (header_of version) ending front ≡ Some fault

-- the line that counts the initial values is valid, and P holds of their number and the bytes after it
abbrev pub AfterCount : (ℕ → List ℕ → Type 0) → List ℕ → Type 0
AfterCount P bytes = (k : ℕ) × (k ≤ MAX_INITIAL) × After (line (spaced (count_fields k))) (P k) bytes

-- this line and those of the initial values are valid, and P holds of their number and the bytes after them
abbrev pub AfterInitial : (ℕ → List ℕ → Type 0) → List ℕ → Type 0
AfterInitial P bytes = (initial : List ℕ) × HaveLines value_format initial
    × After (lines_of_initial initial) (P (length initial)) bytes

-- the first fault of the initial values: line n doesn't count them, or fewer of them come than it counts, and the
-- line after those has this fault
abbrev pub InitialFault : ℕ → Ending → TextFault → List ℕ → Type 0
InitialFault n ending fault bytes = LineFault count_in n ending fault bytes
    ⊎ AfterCount (λ k. FaultAmong value_format k (n + 1) ending fault) bytes

-- the first fault of the lines after the first, from line n on
abbrev pub FaultAfterHeader : Version → ℕ → Ending → TextFault → List ℕ → Type 0
FaultAfterHeader One n ending fault bytes = ItemFault event_format n ending fault bytes
FaultAfterHeader Two n ending fault bytes =
    InitialFault n ending fault bytes ⊎ AfterInitial (λ k. ItemFault event_format (n + 1 + k) ending fault) bytes

-- the first fault of the text: that of its first line, or of the lines after it
abbrev pub IsTextFault : ℕ → Ending → List ℕ → TextFault → Type 0
IsTextFault lines ending bytes fault =
    NoVersionFault ending fault (front_of bytes)
    ⊎ ((version : Version) × After (line (header_of version))
    (FaultAfterHeader version (lines + 2) ending fault) bytes)

-- some of the initial values or the events after the first line have their lines, but there was no room for the last
abbrev pub NoRoomAfterHeader : Version → List ℕ → Type 0
NoRoomAfterHeader One bytes = NoRoom event_format bytes
NoRoomAfterHeader Two bytes = AfterCount (NoRoomAmong value_format) bytes
    ⊎ AfterInitial (λ k. NoRoom event_format) bytes

-- the first line and some lines after it are valid, but there was no room for the last of them
abbrev pub NoRoomForText : List ℕ → Type 0
NoRoomForText bytes = (version : Version) × After (line (header_of version)) (NoRoomAfterHeader version) bytes
