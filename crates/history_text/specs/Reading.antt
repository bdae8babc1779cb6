-- The results of a reader's calls, by the input that was left.
use Rattle.std.specs.Prelude.{◌≡◌, ℕ, Bool, List, [], ◌∷◌, ◌++◌, Option, Some, None}
use Rattle.text_lines.specs.declared.fault.TextFault.{TextFault}
use Rattle.text_lines.specs.declared.fault.TextFault.TheVariants.{Read, Trailing}
use Rattle.text_lines.specs.Faults.{MemoryOr}
use Rattle.text_lines.specs.Input.{after, Ahead, Ending, EndOfInput, Failure, Known, MayGive, over}
use Rattle.history_text.specs.Versions.{IsTextFault, NoRoomForText}
use Rattle.history_text.specs.Schedules.{IsScheduleTextFault, NoRoomForSchedule}
use Rattle.history_text.specs.Claims.{IsVerdictTextFault, NoRoomForVerdict}

-- the input that is left: bytes that were read, and then what is known of those that the source gives
pub record Left : Type 0 where
  pub front : List ℕ
  pub behind : Known

-- a reader of texts: the input that is left, and the progress
pub record Input : Type 0 where
  pub left : Left
  pub lines : ℕ  -- the number of lines read
  pub is_stopped : Bool  -- whether a call returned a fault

-- this may be the input that is left, as far as is known
abbrev pub MayBeLeft : Left → Ahead → Type 0
MayBeLeft left a = (more : Ahead) × MayGive left.behind more × (a ≡ after left.front more)

-- some input that may be left has this property: the input itself, if it is known
pub record OfLeft (left : Left) (IsSo : Ahead → Type 0) : Type 0 where
  pub input : Ahead
  pub may : MayBeLeft left input
  pub is_so : IsSo input

-- these bytes were taken: whatever may be left now may have been left after them
pub record Takes (old new : Left) (given : List ℕ) : Type 0 where
  pub before : (a : Ahead) → MayBeLeft new a → MayBeLeft old (after given a)

-- no byte is left, and the input ends in this way
pub record IsOver (ending : Ending) (left : Left) : Type 0 where
  pub only : (a : Ahead) → MayBeLeft left a → a ≡ over ending

-- the first fault of the input that is left; if it is out of memory, a line without fault was there
abbrev pub HasFirstFault : (Ending → List ℕ → TextFault → Type 0) → (List ℕ → Type 0) → Left → TextFault → Type 0
HasFirstFault IsFault LacksRoom left fault =
    OfLeft left (λ a. MemoryOr (LacksRoom a.bytes) (IsFault a.ending a.bytes) fault)

-- the first fault of a history's text
abbrev pub HasTextFault : ℕ → Left → TextFault → Type 0
HasTextFault lines left fault = HasFirstFault (IsTextFault lines) NoRoomForText left fault

-- the first fault of a schedule's text
abbrev pub HasScheduleTextFault : ℕ → Left → TextFault → Type 0
HasScheduleTextFault lines left fault = HasFirstFault (IsScheduleTextFault lines) NoRoomForSchedule left fault

-- the first fault of a verdict's text
abbrev pub HasVerdictTextFault : ℕ → Left → TextFault → Type 0
HasVerdictTextFault lines left fault = HasFirstFault (IsVerdictTextFault lines) NoRoomForVerdict left fault

-- the input that is left begins with these bytes, whatever it may be
abbrev pub BeginsWith : Left → List ℕ → Type 0
BeginsWith left text = (a : Ahead) → MayBeLeft left a → (rest : List ℕ) × (a.bytes ≡ text ++ rest)

-- the input that is left is exactly these bytes, without a failure
abbrev pub IsAll : Left → List ℕ → Type 0
IsAll left text = (a : Ahead) → MayBeLeft left a → a ≡ record { bytes = text; ending = EndOfInput }

-- at least one byte is ahead
abbrev pub HasMore : Ahead → Type 0
HasMore a = (b : ℕ) × (more : List ℕ) × (a.bytes ≡ b ∷ more)

-- no byte is ahead, but a failure
abbrev pub Fails : Ahead → Type 0
Fails a = (a.bytes ≡ []) × (a.ending ≡ Failure)

-- the fault of an input that should be over: there is a byte, or the source failed
abbrev pub IsEndFault : Ahead → TextFault → Type 0
IsEndFault a Trailing = HasMore a
IsEndFault a Read = Fails a
IsEndFault a _ = ⊥

-- the fault of the input that is left, which should be none
abbrev pub HasEndFault : Left → TextFault → Type 0
HasEndFault left fault = OfLeft left (λ a. IsEndFault a fault)

-- the next byte of the input is this one; or there is none, and the input is over without a failure
abbrev pub IsNext : Left → Option ℕ → Type 0
IsNext left None = IsOver EndOfInput left
IsNext left (Some b) = BeginsWith left (b ∷ [])
