-- The answers of `complete` to a text whose calls may be pending.
use Rattle.std.specs.Prelude.{◌≡◌, ◌≢◌, ◌⊎◌, ℕ, Bool, true, IfSome, length}
use Rattle.completions.specs.Completed.{completed, pending_calls}
use Rattle.completions.specs.Faults.{IsBeyondLimits, MayBePending}
use Rattle.history_merge.specs.Faults.{IsFirstFault}
use Rattle.history_merge.specs.declared.fault.HistoryFault.{HistoryFault}
use Rattle.history_merge.specs.declared.fault.HistoryFault.TheVariants.{Memory, Pending}
use Rattle.history_text.specs.Pending.{HasPendingText, IsCutText, IsPendingTextFault, NoRoomForPending, pending_text}
use Rattle.history_text.specs.Versions.{HistoryText}
use Rattle.history_text.specs.declared.pending_text.PendingText.{PendingText}
use Rattle.text_lines.specs.Input.{Ahead}
use Rattle.text_lines.specs.declared.fault.TextFault.{TextFault}
use Rattle.text_lines.specs.declared.fault.TextFault.TheVariants.{Count}
use Rattle.commands.specs.Answers.{Reply, answer_of_history_fault, converted, refused_limit, refused_text}
use Rattle.commands.specs.Inputs.{IsFaultOfOneText, IsWhole}
use Rattle.commands.specs.Judging.{Whether}

-- ---- inputs

-- the input is this text and nothing more; or it is cut off after a part of one, if that is allowed
abbrev pub IsPendingOf : Bool → Ahead → PendingText → Type 0
IsPendingOf takes_cut input text = (HasPendingText text × IsWhole (pending_text text) input)
    ⊎ ((takes_cut ≡ true) × IsCutText 0 input text)

-- the fault of input that should be such a text
abbrev pub IsFaultOfPendingInput : Bool → Ahead → TextFault → Type 0
IsFaultOfPendingInput takes_cut input fault =
    IsFaultOfOneText HasPendingText pending_text (IsPendingTextFault takes_cut 0) NoRoomForPending input fault

-- ---- answers

-- the history is wrong even if calls may be pending, and the answer is its first fault
pub record IsFaultyBefore (text : PendingText) (answer : Reply) : Type 0 where
  pub fault : HistoryFault
  pub first : IsFirstFault text.initial text.events fault
  pub known : fault ≢ Memory
  pub other : (ticket : ℕ) → fault ≢ Pending ticket
  pub is : answer ≡ answer_of_history_fault fault

-- if the text has a number of pending calls, it is right
abbrev pub CountsPending : PendingText → Type 0
CountsPending text = IfSome text.open_calls (λ calls. calls ≡ length (pending_calls text.events))

-- the completion, as the text of a history in the same version
abbrev pub completion_in : PendingText → HistoryText
completion_in text =
    record { version = text.version; initial = text.initial; events = completed text.initial text.events }

-- there is a completion: the events are a history with pending calls, it is within the limits, and the text has the
-- right number of pending calls
pub record IsCompletable (text : PendingText) : Type 0 where
  pub found : MayBePending text.initial text.events
  pub within : ¬ (IsBeyondLimits text.initial text.events)
  pub counted : CountsPending text

-- the reason why there is no completion: the first fault of a history with pending calls, the limits, or the number
abbrev pub LacksCompletion : PendingText → Reply → Type 0
LacksCompletion text answer = IsFaultyBefore text answer
    ⊎ (MayBePending text.initial text.events
    × Whether (IsBeyondLimits text.initial text.events) (answer ≡ refused_limit)
    ((¬ CountsPending text) × (answer ≡ refused_text Count)))

-- the reason why there is no completion, or the answer to it
abbrev pub FaultOrCompletion : PendingText → (Reply → Type 0) → Reply → Type 0
FaultOrCompletion text OfCompletion answer = LacksCompletion text answer ⊎ (IsCompletable text × OfCompletion answer)

-- `complete`: the reason why there is no completion, or its text
abbrev pub Completes : PendingText → Reply → Type 0
Completes text answer = FaultOrCompletion text (λ a. a ≡ converted (completion_in text)) answer
