-- The input that the steps of a reader take.
use Rattle.std.specs.Prelude.{◌≡◌, ℕ, ◌<◌, ◌≤◌, ⊤, Bool, true, false, List, [], length, Option, Some, None, IfSome}
use Rattle.text_lines.specs.declared.fault.TextFault.{TextFault}
use Rattle.text_lines.specs.declared.fault.TextFault.TheVariants.{Memory, Read}
use Rattle.event_records.specs.declared.limits.TheConstants.{MAX_INITIAL}
use Rattle.history_text.specs.declared.source_end.SourceEnd.{SourceEnd}
use Rattle.history_text.specs.declared.source_end.SourceEnd.TheVariants as end
use Rattle.text_lines.specs.Input.{Ending, EndOfInput, Exactly, Failure, Known, over}
use Rattle.text_lines.specs.Lines.{line, end_line, front_of, fault_at, Front, Whole, TooLong, Unfinished, Nothing}
use Rattle.text_lines.specs.Inner.Lines.{IsPartOfLine}
use Rattle.history_text.specs.Items.{Format, line_of, lines_of, ItemFault, NoRoom, FaultAmong, NoRoomAmong}
use Rattle.history_text.specs.Versions.{count_fields, count_in}
use Rattle.history_text.specs.Schedules.{setting_fields, setting_in, IsSetting}
use Rattle.history_text.specs.Reading.{HasFirstFault, IsOver, Left, OfLeft, Takes}

-- the known bytes after the buffer: none once the end of the source was seen
abbrev pub behind : SourceEnd → Known → Known
behind end.NotSeen known = known
behind end.Over known = Exactly (over EndOfInput)
behind end.Failed known = Exactly (over Failure)

-- the fault is that of the front of the input
abbrev pub FaultAtFront : (Ending → TextFault → Front → Type 0) → Left → TextFault → Type 0
FaultAtFront IsFault old fault = OfLeft old (λ a. IsFault a.ending fault (front_of a.bytes))

-- the line that was taken, or none at the end of the input
abbrev pub TakesLine : Left → Left → Option (List ℕ) → Type 0
TakesLine old new (Some bytes) = Takes old new (line bytes) × IsPartOfLine bytes
TakesLine old new None = Takes old new [] × IsOver EndOfInput new

-- the input begins with a line that isn't whole, or the source fails there, and this is the fault; that of a line
-- that is too long is given
abbrev pub BrokenLineFault : TextFault → Ending → TextFault → Front → Type 0
BrokenLineFault long ending fault (Whole bytes rest) = ⊥
BrokenLineFault long ending fault TooLong = fault ≡ long
BrokenLineFault long ending fault Unfinished = fault ≡ fault_at ending
BrokenLineFault long ending fault Nothing = (ending ≡ Failure) × (fault ≡ Read)

-- the input doesn't begin with a whole line, and this is the fault; that of a line that is too long is given
abbrev pub NoLineFault : TextFault → Ending → TextFault → Front → Type 0
NoLineFault long ending fault (Whole bytes rest) = ⊥
NoLineFault long ending fault TooLong = fault ≡ long
NoLineFault long ending fault Unfinished = fault ≡ fault_at ending
NoLineFault long ending fault Nothing = fault ≡ fault_at ending

-- ---- items

-- the fields are those of an item that has a line
pub record IsSpelled {A : Type 0} (format : Format A) (fields : List (List ℕ)) (item : A) : Type 0 where
  pub text : fields ≡ format.fields item
  pub line : format.HasLine item

-- the line that counts the initial values, as the only item of a format
abbrev pub count_format : Format ℕ
count_format =
    record { fields = count_fields; HasLine = λ k. k ≤ MAX_INITIAL; most = 1; is_counted = false; read = count_in }

-- the line of a setting, as the only item of a format
abbrev pub setting_format : Format (ℕ × ℕ)
setting_format = record {
  fields = λ s. setting_fields s.0 s.1;
  HasLine = λ s. IsSetting s.0 s.1;
  most = 1;
  is_counted = false;
  read = setting_in;
}

-- the line of an item after k others, or the last line
abbrev pub IsItemLine : {A : Type 0} → Format A → ℕ → List ℕ → Option A → Type 0
IsItemLine format k bytes (Some item) = (line bytes ≡ line_of format item) × format.HasLine item × (k < format.most)
IsItemLine format k bytes None = (line bytes ≡ end_line k) × (format.is_counted ≡ true)

-- the last line after k items was taken, or the input is over
abbrev pub TakesEnd : Bool → Left → Left → ℕ → Type 0
TakesEnd true old new k = Takes old new (end_line k)
TakesEnd false old new k = Takes old new [] × IsOver EndOfInput new

-- the line of an item after k others was taken, or the end of the items
abbrev pub TakesItem : {A : Type 0} → Format A → Left → Left → ℕ → Option A → Type 0
TakesItem format old new k (Some item) = Takes old new (line_of format item) × format.HasLine item × (k < format.most)
TakesItem format old new k None = TakesEnd format.is_counted old new k

-- the lines of these items and their end were taken
abbrev pub TakesItems : {A : Type 0} → Format A → Left → Left → List A → Type 0
TakesItems format old new items = (mid : Left) × Takes old mid (lines_of format items)
    × TakesEnd format.is_counted mid new (length items)

-- the first fault of the lines of items from line n on
abbrev pub HasItemsFault : {A : Type 0} → Format A → ℕ → Left → TextFault → Type 0
HasItemsFault format n old fault =
    HasFirstFault (λ ending bytes f. ItemFault format n ending f bytes) (NoRoom format) old fault

-- the first fault of the lines of k items from line n on
abbrev pub HasFaultAmong : {A : Type 0} → Format A → ℕ → ℕ → Left → TextFault → Type 0
HasFaultAmong format k n old fault =
    HasFirstFault (λ ending bytes f. FaultAmong format k n ending f bytes) (NoRoomAmong format k) old fault

-- the fault is one of the input, not of the reader's memory
abbrev pub IsOfInput : TextFault → Type 0
IsOfInput Memory = ⊥
IsOfInput _ = Unit {0}
