-- Laws of the answers. An input has one answer. Commands answer the texts of other commands alike: every answer is
-- evidence, and the text of `convert` stands for the history that it read.
use Rattle.std.specs.Prelude.{◌≡◌, ◌↔◌, ℕ, Bool, List, ◌++◌, ◌⊎◌, true, ⊤}
use Rattle.event_records.specs.declared.event.Event.{Event}
use Rattle.simulation.specs.declared.playing.Rejection.{Rejection}
use Rattle.text_lines.specs.Input.{Ahead, EndOfInput}
use Rattle.history_text.specs.Claims.{HasVerdictText}
use Rattle.history_text.specs.Verdicts.{verdict_text}
use Rattle.history_text.specs.Histories.{HasHistoryText, history_text}
use Rattle.history_text.specs.Versions.{HasText, HistoryText, text_of}
use Rattle.history_text.specs.declared.version.Version.TheVariants.{Two}
use Rattle.claims.specs.declared.claimed.ClaimLine.{ClaimLine}
use Rattle.claims.specs.declared.claimed.Claimed.{Claimed}
use Rattle.claims.specs.declared.claimed.Claimed.TheVariants as claim
use Rattle.claims.specs.declared.claimed.ViolationKind.{ViolationKind}
use Rattle.completions.specs.Pending.{CompletesLinearizably}
use Rattle.history_text.specs.declared.pending_text.PendingText.{PendingText}
use Rattle.command_words.specs.Commands.{check, shrink, verify, draw, convert, complete, stats, sim, Request}
use Rattle.command_words.specs.Options.{linearizability}
use Rattle.command_words.specs.declared.options.Condition.{Condition}
use Rattle.command_words.specs.declared.options.DrawOptions.{DrawOptions}
use Rattle.commands.specs.Answers.{Reply, judged, shown, played, verified, memory_fault, answer_text, converted}
use Rattle.commands.specs.Inputs.{IsHistoryOf}
use Rattle.commands.specs.Completing.{IsPendingOf}
use Rattle.commands.specs.Judging.{IsSound, said_by}
use Rattle.commands.specs.Running.{AnswersOf}
use Rattle.commands.specs.Stressing.{IsShownRun}

-- an input of these bytes and nothing more
abbrev pub input_of : List ℕ → Ahead
input_of bytes = record { bytes = bytes; ending = EndOfInput }

-- ---- one answer

-- the answers are equal, or memory ran out in one of the runs
abbrev pub SameOrNoMemory : Reply → Reply → Type 0
SameOrNoMemory a b = (a ≡ b) ⊎ ((a ≡ memory_fault) ⊎ (b ≡ memory_fault))

-- two answers that a command may give to one input are the same, unless memory ran out
abbrev pub HasOneAnswer : Request → Type 0
HasOneAnswer request = (input : Ahead) (a b : Reply) → AnswersOf request input a → AnswersOf request input b
    → SameOrNoMemory a b

-- ---- evidence

-- the verdict is evidence, or memory ran out
abbrev pub IsValidOrNoMemory : Reply → Type 0
IsValidOrNoMemory answer = (answer ≡ verified true) ⊎ (answer ≡ memory_fault)

-- it is this verdict, or memory ran out
abbrev pub IsVerdictOrNoMemory : Claimed → Reply → Type 0
IsVerdictOrNoMemory claimed answer = (answer ≡ judged claimed) ⊎ (answer ≡ memory_fault)

-- if `check` answers an input with a verdict, `verify` answers that input, followed by the verdict's text, with
-- `VALID`
abbrev pub CheckedIsValid : Type 0
CheckedIsValid = (bytes : List ℕ) (claimed : Claimed) (answer : Reply)
    → AnswersOf (check linearizability) (input_of bytes) (judged claimed)
    → AnswersOf (verify linearizability) (input_of (bytes ++ answer_text (judged claimed))) answer
    → IsValidOrNoMemory answer

-- the same under each condition, if `verify` can read a text of as many lines
abbrev pub CheckedIsValidUnder : Condition → Type 0
CheckedIsValidUnder condition = (bytes : List ℕ) (claimed : Claimed) (answer : Reply) → HasVerdictText claimed
    → AnswersOf (check condition) (input_of bytes) (judged claimed)
    → AnswersOf (verify condition) (input_of (bytes ++ answer_text (judged claimed))) answer → IsValidOrNoMemory answer

-- a `NO` of `check` under any condition is evidence that the history isn't linearizable
abbrev pub RefutedIsValid : Condition → Type 0
RefutedIsValid condition = (bytes : List ℕ) (kind : ViolationKind) (lines : List ClaimLine) (answer : Reply)
    → HasVerdictText (claim.No kind lines)
    → AnswersOf (check condition) (input_of bytes) (judged (claim.No kind lines))
    → AnswersOf (verify linearizability) (input_of (bytes ++ answer_text (judged (claim.No kind lines)))) answer
    → IsValidOrNoMemory answer

-- if `shrink` answers an input with a history and its verdict, `verify` answers these two texts with `VALID`
abbrev pub ShrunkIsValid : Condition → Type 0
ShrunkIsValid condition = (bytes : List ℕ) (small : HistoryText) (claimed : Claimed) (answer : Reply)
    → AnswersOf (shrink condition) (input_of bytes) (shown small claimed)
    → AnswersOf (verify linearizability) (input_of (answer_text (shown small claimed))) answer
    → IsValidOrNoMemory answer

-- if `shrink` answers an input with a history and its verdict, `check` answers the text of that history with this
-- verdict, unless memory runs out
abbrev pub ShrunkIsChecked : Condition → Type 0
ShrunkIsChecked condition = (bytes : List ℕ) (small : HistoryText) (claimed : Claimed) (answer : Reply)
    → AnswersOf (shrink condition) (input_of bytes) (shown small claimed)
    → AnswersOf (check linearizability) (input_of (text_of small)) answer → IsVerdictOrNoMemory claimed answer

-- if `stress` answers with a history that has a text, and with its verdict, `check` answers that text with this
-- verdict, unless memory runs out
abbrev pub StressedIsChecked : Condition → Type 0
StressedIsChecked condition =
    (count : ℕ) (lists : List (List Event)) (text : HistoryText) (claimed : Claimed) (answer : Reply) → HasText text
    → IsShownRun condition count lists (shown text claimed)
    → AnswersOf (check condition) (input_of (text_of text)) answer
    → IsVerdictOrNoMemory claimed answer

-- if `stress` answers with a history that has a text, and with its verdict, `verify` answers the two texts with
-- `VALID`
abbrev pub StressedIsValid : Type 0
StressedIsValid = (count : ℕ) (lists : List (List Event)) (text : HistoryText) (claimed : Claimed) (answer : Reply)
    → HasText text
    → IsShownRun linearizability count lists (shown text claimed)
    → AnswersOf (verify linearizability) (input_of (answer_text (shown text claimed))) answer
    → IsValidOrNoMemory answer

-- the same under each condition, if `verify` can read a text of as many lines
abbrev pub StressedIsValidUnder : Condition → Type 0
StressedIsValidUnder condition =
    (count : ℕ) (lists : List (List Event)) (text : HistoryText) (claimed : Claimed) (answer : Reply) → HasText text
    → HasVerdictText claimed → IsShownRun condition count lists (shown text claimed)
    → AnswersOf (verify condition) (input_of (answer_text (shown text claimed))) answer → IsValidOrNoMemory answer

-- if `sim` answers with a history that has a text, and with its verdict, `check` answers that text with this verdict,
-- unless memory runs out
abbrev pub SimulatedIsChecked : Type 0
SimulatedIsChecked =
    (bytes : List ℕ) (rejected : List Rejection) (events : List Event) (claimed : Claimed) (answer : Reply)
    → HasHistoryText events
    → AnswersOf sim (input_of bytes) (played rejected events claimed)
    → AnswersOf (check linearizability) (input_of (history_text events)) answer
    → IsVerdictOrNoMemory claimed answer

-- if `sim` answers with a history that has a text, and with its verdict, `verify` answers the two texts with `VALID`
abbrev pub SimulatedIsValid : Type 0
SimulatedIsValid =
    (bytes : List ℕ) (rejected : List Rejection) (events : List Event) (claimed : Claimed) (answer : Reply)
    → HasHistoryText events
    → AnswersOf sim (input_of bytes) (played rejected events claimed)
    → AnswersOf (verify linearizability) (input_of (history_text events ++ verdict_text claimed)) answer
    → IsValidOrNoMemory answer

-- if `check` answers an input with a verdict, `draw` without a weaker condition answers that input in the same way as
-- the input followed by the verdict's text, unless memory runs out
abbrev pub DrawnAsChecked : DrawOptions → Type 0
DrawnAsChecked options = options.condition ≡ linearizability → (bytes : List ℕ) (claimed : Claimed) (a b : Reply)
    → AnswersOf (check linearizability) (input_of bytes) (judged claimed)
    → AnswersOf (draw options) (input_of bytes) a
    → AnswersOf (draw options) (input_of (bytes ++ answer_text (judged claimed))) b → SameOrNoMemory a b

-- ---- completions

-- the text with which `complete` answers is that of a complete history
abbrev pub CompletedIsHistory : Bool → Type 0
CompletedIsHistory takes_cut = (bytes : List ℕ) (to : HistoryText)
    → AnswersOf (complete takes_cut) (input_of bytes) (converted to)
    → IsHistoryOf (input_of (text_of to)) to × IsSound (said_by to)

-- the verdict is `YES`
abbrev pub IsYes : Claimed → Type 0
IsYes (claim.Yes operations) = ⊤
IsYes (claim.No kind lines) = ⊥

-- `check` answers the text of `complete` with `YES` if and only if some completion of the history that was read has a
-- linearization
abbrev pub CompletedIsDecided : Bool → Type 0
CompletedIsDecided takes_cut = (bytes : List ℕ) (text : PendingText) (to : HistoryText) (claimed : Claimed)
    → IsPendingOf takes_cut (input_of bytes) text → AnswersOf (complete takes_cut) (input_of bytes) (converted to)
    → AnswersOf (check linearizability) (input_of (text_of to)) (judged claimed)
    → IsYes claimed ↔ CompletesLinearizably text.initial text.events

-- `complete` answers a complete history with its own text
abbrev pub CompletedIsKept : Bool → Type 0
CompletedIsKept takes_cut = (bytes : List ℕ) (text to : HistoryText) → IsHistoryOf (input_of bytes) text
    → IsSound (said_by text)
    → AnswersOf (complete takes_cut) (input_of bytes) (converted to) → text_of to ≡ bytes

-- ---- conversions

-- if `convert` answers a text with another, both are of one history, and the other is its text in version 2
abbrev pub ConvertedIsSameHistory : Type 0
ConvertedIsSameHistory = (bytes : List ℕ) (text to : HistoryText) → IsHistoryOf (input_of bytes) text
    → AnswersOf convert (input_of bytes) (converted to)
    → (said_by to ≡ said_by text) × (to.version ≡ Two) × IsHistoryOf (input_of (text_of to)) to

-- `convert` answers a text of version 2 with the same bytes
abbrev pub ConvertedIsKept : Type 0
ConvertedIsKept = (bytes : List ℕ) (text to : HistoryText) → IsHistoryOf (input_of bytes) text → text.version ≡ Two
    → AnswersOf convert (input_of bytes) (converted to) → text_of to ≡ bytes

-- `check` answers a text and its conversion alike, unless memory runs out
abbrev pub ConvertedIsChecked : Condition → Type 0
ConvertedIsChecked condition = (bytes : List ℕ) (to : HistoryText) (a b : Reply)
    → AnswersOf convert (input_of bytes) (converted to)
    → AnswersOf (check condition) (input_of bytes) a → AnswersOf (check condition) (input_of (text_of to)) b
    → SameOrNoMemory a b

-- `stats` answers a text and its conversion alike, unless memory runs out
abbrev pub ConvertedIsCounted : Bool → Type 0
ConvertedIsCounted overtakes = (bytes : List ℕ) (to : HistoryText) (a b : Reply)
    → AnswersOf convert (input_of bytes) (converted to)
    → AnswersOf (stats overtakes) (input_of bytes) a → AnswersOf (stats overtakes) (input_of (text_of to)) b
    → SameOrNoMemory a b

-- `verify` answers a claim alike after a text and after its conversion, unless memory runs out
abbrev pub ConvertedIsVerified : Condition → Type 0
ConvertedIsVerified condition = (bytes : List ℕ) (to : HistoryText) (claimed : Claimed) (a b : Reply)
    → HasVerdictText claimed
    → AnswersOf convert (input_of bytes) (converted to)
    → AnswersOf (verify condition) (input_of (bytes ++ verdict_text claimed)) a
    → AnswersOf (verify condition) (input_of (text_of to ++ verdict_text claimed)) b → SameOrNoMemory a b
