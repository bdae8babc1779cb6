-- Inputs that should be one text, or one after another.
use Rattle.std.specs.Prelude.{◌≡◌, ◌==◌, ℕ, List, [], ◌∷◌, ◌++◌, ◌⊎◌, Bool, true, false, Option, Some, None}
use Rattle.history_merge.specs.declared.operation.Operation.{Operation}
use Rattle.claims.specs.declared.claimed.Claimed.{Claimed}
use Rattle.claims.specs.declared.claimed.Claimed.TheVariants.{Yes}
use Rattle.text_lines.specs.declared.fault.TextFault.{TextFault}
use Rattle.text_lines.specs.Faults.{MemoryOr}
use Rattle.history_text.specs.declared.schedule.Schedule.{Schedule}
use Rattle.history_text.specs.Versions.{HistoryText, text_of, line_count, HasText, IsTextFault, NoRoomForText}
use Rattle.history_text.specs.Schedules.{schedule_text, HasScheduleText, IsScheduleTextFault, NoRoomForSchedule}
use Rattle.history_text.specs.Verdicts.{verdict_text}
use Rattle.history_text.specs.Claims.{HasVerdictText, IsVerdictTextFault, NoRoomForVerdict}
use Rattle.history_text.specs.Reading.{IsEndFault}
use Rattle.history_text.specs.Pending.{HasPendingText, IsPendingTextFault, NoRoomForPending, pending_line_count}
use Rattle.history_text.specs.Pending.{pending_text}
use Rattle.history_text.specs.declared.pending_text.PendingText.{PendingText}
use Rattle.text_lines.specs.Input.{Ahead, Ending, EndOfInput}

-- ---- one text

-- the input is these bytes and nothing more
pub record IsWhole (written : List ℕ) (input : Ahead) : Type 0 where
  pub bytes : input.bytes ≡ written
  pub ending : input.ending ≡ EndOfInput

-- the input begins with the text of a value, and this holds of the value and of what follows
pub record AfterText {A : Type 0} (Has : A → Type 0) (text_of : A → List ℕ) (P : A → List ℕ → Type 0) (bytes : List ℕ)
    : Type 0 where
  pub value : A
  pub rest : List ℕ
  pub has : Has value
  pub front : bytes ≡ text_of value ++ rest
  pub after : P value rest

-- the fault of input that should be the text of one of these values and then something else: that of the text, or of
-- the rest. Out of memory is a fault only if the input has a line without fault
abbrev pub IsFaultOfTexts : {A : Type 0} → (A → Type 0) → (A → List ℕ) → (Ending → List ℕ → TextFault → Type 0)
    → (List ℕ → Type 0)
    → (A → Ending → List ℕ → TextFault → Type 0) → (A → List ℕ → Type 0) → Ahead → TextFault → Type 0
IsFaultOfTexts Has text_of IsFirst LacksRoom IsNext LacksNext input fault =
    MemoryOr (LacksRoom input.bytes ⊎ AfterText Has text_of LacksNext input.bytes)
    (λ f. IsFirst input.ending input.bytes f
    ⊎ AfterText Has text_of (λ value rest. IsNext value input.ending rest f) input.bytes)
    fault

-- the fault of input that should have ended: another byte, or a read that fails
abbrev pub IsFaultOfEnd : Ending → List ℕ → TextFault → Type 0
IsFaultOfEnd ending rest fault = IsEndFault (record { bytes = rest; ending = ending }) fault

-- the fault of input that should be the text of one of these values and nothing more
abbrev pub IsFaultOfOneText : {A : Type 0} → (A → Type 0) → (A → List ℕ) → (Ending → List ℕ → TextFault → Type 0)
    → (List ℕ → Type 0) → Ahead
    → TextFault → Type 0
IsFaultOfOneText Has text_of IsFirst LacksRoom input fault =
    IsFaultOfTexts Has text_of IsFirst LacksRoom (λ _. IsFaultOfEnd) (λ _ _. ⊥) input fault

-- ---- histories

-- the input is this text of a history, of either version, and nothing more
abbrev pub IsHistoryOf : Ahead → HistoryText → Type 0
IsHistoryOf input text = HasText text × IsWhole (text_of text) input

-- the fault of input that should be the text of one history
abbrev pub IsFaultOfHistoryInput : Ahead → TextFault → Type 0
IsFaultOfHistoryInput input fault = IsFaultOfOneText HasText text_of (IsTextFault 0) NoRoomForText input fault

-- ---- schedules

-- the input is the text of this schedule and nothing more
abbrev pub IsScheduleOf : Ahead → Schedule → Type 0
IsScheduleOf input schedule = HasScheduleText schedule × IsWhole (schedule_text schedule) input

-- the fault of input that should be the text of one schedule
abbrev pub IsFaultOfScheduleInput : Ahead → TextFault → Type 0
IsFaultOfScheduleInput input fault =
    IsFaultOfOneText HasScheduleText schedule_text (IsScheduleTextFault 0) NoRoomForSchedule input fault

-- ---- a history, and a verdict on it

-- the text of a history, and a claim about it
pub record ClaimOnText : Type 0 where
  pub text : HistoryText
  pub claimed : Claimed

-- a claim on a text
abbrev pub claim_on : HistoryText → Claimed → ClaimOnText
claim_on text claimed = record { text = text; claimed = claimed }

-- the input is this text, then that of the verdict, and nothing more
pub record IsClaimOf (input : Ahead) (claim : ClaimOnText) : Type 0 where
  pub history : HasText claim.text
  pub verdict : HasVerdictText claim.claimed
  pub whole : IsWhole (text_of claim.text ++ verdict_text claim.claimed) input

-- the fault of input that should be a history and a verdict: that of the first text, or else of the second, whose
-- lines count on
abbrev pub IsFaultOfClaimInput : Ahead → TextFault → Type 0
IsFaultOfClaimInput input fault = IsFaultOfTexts HasText text_of (IsTextFault 0) NoRoomForText
    (λ text. IsVerdictTextFault (line_count text)) (λ _. NoRoomForVerdict) input fault

-- ---- a history, and a verdict on it if anything follows; or a text that counts pending calls; or a `YES` alone

-- the history of a text whose calls may be pending
abbrev pub history_in : PendingText → HistoryText
history_in text = record { version = text.version; initial = text.initial; events = text.events }

-- a text on its own, or that of a history with a claim about it, or the operations that a `YES` lists
pub data Drawable : Type 0 where
  alone : PendingText → Drawable
  with_claim : ClaimOnText → Drawable
  of_yes : List Operation → Drawable

-- this text, with the claim if there is one
abbrev pub drawable : PendingText → Option Claimed → Drawable
drawable text None = alone text
drawable text (Some claimed) = with_claim (claim_on (history_in text) claimed)

-- the input is the text, then that of the verdict if there is one, or the text of the `YES`, and nothing more
abbrev pub IsDrawableOf : Ahead → Drawable → Type 0
IsDrawableOf input (alone text) = HasPendingText text × IsWhole (pending_text text) input
IsDrawableOf input (with_claim claim) = IsClaimOf input claim
IsDrawableOf input (of_yes operations) =
    HasVerdictText (Yes operations) × IsWhole (verdict_text (Yes operations)) input

-- the fault of the input after a text, by its number of lines: after one that counts pending calls, that the input
-- goes on; after a history the fault of a verdict, unless the input ends there
abbrev pub FaultBehind : Option ℕ → ℕ → Ending → List ℕ → TextFault → Type 0
FaultBehind (Some calls) lines ending rest fault = IsFaultOfEnd ending rest fault
FaultBehind None lines ending rest fault =
    IsVerdictTextFault lines ending rest fault × (¬ ((rest ≡ []) × (ending ≡ EndOfInput)))

-- the fault of the input after a text
abbrev pub IsFaultBehind : PendingText → Ending → List ℕ → TextFault → Type 0
IsFaultBehind text ending rest fault = FaultBehind text.open_calls (pending_line_count text) ending rest fault

-- there was no room for the verdict on a history
abbrev pub LacksVerdict : PendingText → List ℕ → Type 0
LacksVerdict text rest = (text.open_calls ≡ None) × NoRoomForVerdict rest

-- the fault of input that should be such a text, and a verdict on a history if anything follows
abbrev pub IsFaultOfDrawnText : Ahead → TextFault → Type 0
IsFaultOfDrawnText input fault =
    IsFaultOfTexts HasPendingText pending_text
    (IsPendingTextFault false 0) NoRoomForPending IsFaultBehind LacksVerdict input fault

-- the fault of input that should be the text of a verdict
abbrev pub IsFaultOfVerdictInput : Ahead → TextFault → Type 0
IsFaultOfVerdictInput input fault =
    MemoryOr (NoRoomForVerdict input.bytes) (IsVerdictTextFault 0 input.ending input.bytes) fault

-- the first byte is a `Y`, as in a `YES` and in no text of a history
abbrev pub begins_as_yes : List ℕ → Bool
begins_as_yes [] = false
begins_as_yes (first ∷ bytes) = first == 89

-- the fault of input that should be a verdict if it begins as a `YES`, and else a text
abbrev pub FaultByFirst : Bool → Ahead → TextFault → Type 0
FaultByFirst true input fault = IsFaultOfVerdictInput input fault
FaultByFirst false input fault = IsFaultOfDrawnText input fault

-- the fault of input that should be such a text, with a verdict on a history if anything follows, or a `YES` alone
abbrev pub IsFaultOfDrawableInput : Ahead → TextFault → Type 0
IsFaultOfDrawableInput input fault = FaultByFirst (begins_as_yes input.bytes) input fault
