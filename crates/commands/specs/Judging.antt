-- The answers of the commands that read, to their inputs.
use Rattle.std.specs.Prelude.{◌≡◌, ◌≢◌, Bool, false, true, List, [], ◌⊎◌}
use Rattle.event_records.specs.declared.event.Event.{Event}
use Rattle.history_merge.specs.declared.fault.HistoryFault.{HistoryFault}
use Rattle.history_merge.specs.declared.fault.HistoryFault.TheVariants.{Memory}
use Rattle.history_merge.specs.Faults.{IsFirstFault}
use Rattle.history_merge.specs.Gathering.{BuilderView, HasGathered}
use Rattle.history_merge.specs.Initial.{HistoryView, IsCompleteFrom}
use Rattle.history_merge.specs.Complete.{IsCompleteHistory}
use Rattle.history_merge.specs.Merge.{IsMerged}
use Rattle.history_merge.specs.Operations.{operations_of}
use Rattle.history_stats.specs.declared.statistics.Statistics.{Statistics}
use Rattle.history_stats.specs.Overtaking.{overtakings}
use Rattle.history_stats.specs.Statistics.{AreStatisticsOf}
use Rattle.value_match.specs.declared.violation.Violation.{Violation}
use Rattle.recorder_core.specs.Setting.{Setting}
use Rattle.recorder_core.specs.Schedule.{Attempt}
use Rattle.recorder_core.specs.Laws.{IsDone, collected_lists}
use Rattle.simulation.specs.Simulations.{schedule_of, rejections}
use Rattle.claims.specs.declared.claimed.Claimed.{Claimed}
use Rattle.claims.specs.declared.verdict.Verdict.{Verdict}
use Rattle.claims.specs.Claiming.{claim_of}
use Rattle.value_match.specs.Outcome.{IsChosenViolation}
use Rattle.verdicts.specs.Selection.{KeepsViolation, StaysChosen, IsMinimal, HasShortestCover, ArePartOf, contents_of}
use Rattle.history_text.specs.Versions.{HistoryText, said_in}
use Rattle.history_text.specs.declared.version.Version.TheVariants.{Two}
use Rattle.text_lines.specs.declared.fault.TextFault.{TextFault}
use Rattle.history_text.specs.declared.schedule.Schedule.{Schedule}
use Rattle.text_lines.specs.Input.{Ahead}
use Rattle.command_words.specs.Options.{linearizability}
use Rattle.command_words.specs.declared.options.Condition.{Condition}
use Rattle.commands.specs.Conditions.{IsDecidedUnder, IsMinimalUnder, IsRefutedPart, IsTrueUnder, Meets}
use Rattle.commands.specs.Inputs.{ClaimOnText}
use Rattle.commands.specs.Answers.{Reply, judged, shown, left_open, played, verified, converted, counted, overtaken}
use Rattle.commands.specs.Answers.{memory_fault, answer_of_text_fault}
use Rattle.commands.specs.Answers.{answer_of_history_fault}

-- ---- histories

-- the history of a text: the values that its queue holds first, and its events
abbrev pub said_by : HistoryText → HistoryView
said_by text = record { initial = text.initial; events = text.events }

-- the history of a queue that is empty at first
abbrev pub from_none : List Event → HistoryView
from_none events = record { initial = []; events = events }

-- the history is complete, and its initial values are distinct and enqueued by no call
abbrev pub IsSound : HistoryView → Type 0
IsSound history = IsCompleteFrom history.initial history.events

-- this is made of the claim of the chosen verdict on a history under a condition. The claim is evidence, and `YES` if
-- and only if the history meets the condition
pub record IsOfVerdictUnder {A : Type 0} (condition : Condition) (history : HistoryView)
    (made_of : Claimed → A) (made : A) : Type 0 where
  pub verdict : Verdict
  pub decided : IsDecidedUnder condition history verdict
  pub is : made ≡ made_of (claim_of history.initial (operations_of history.events) verdict)

-- this is made of the claim of the chosen verdict on a history
abbrev pub IsOfVerdict : {A : Type 0} → HistoryView → (Claimed → A) → A → Type 0
IsOfVerdict history made_of made = IsOfVerdictUnder linearizability history made_of made

-- this is the claim of the history's verdict under the condition
abbrev pub IsVerdictClaim : Condition → HistoryView → Claimed → Type 0
IsVerdictClaim condition history claimed = IsOfVerdictUnder condition history (λ claim. claim) claimed

-- the history is not a complete one, and the answer is its first fault
pub record IsFaulty (history : HistoryView) (answer : Reply) : Type 0 where
  pub fault : HistoryFault
  pub first : IsFirstFault history.initial history.events fault
  pub known : fault ≢ Memory
  pub is : answer ≡ answer_of_history_fault fault

-- the first fault of a history; or the answer to it, if it is a complete history
abbrev pub FaultOr : HistoryView → (Reply → Type 0) → Reply → Type 0
FaultOr history OfSound answer = IsFaulty history answer ⊎ (IsSound history × OfSound answer)

-- one thing if P holds, and another if it doesn't
abbrev pub Whether : Type 0 → Type 0 → Type 0 → Type 0
Whether P Then Else = (P × Then) ⊎ ((¬ P) × Else)

-- the first fault of a history, or its verdict
abbrev pub JudgesHistory : Condition → HistoryView → Reply → Type 0
JudgesHistory condition history answer = FaultOr history (IsOfVerdictUnder condition history judged) answer

-- `check`: the first fault of a text's history, or its verdict
abbrev pub Judges : Condition → HistoryText → Reply → Type 0
Judges condition text answer = JudgesHistory condition (said_by text) answer

-- the builder has gathered the initial values and the events of this history
abbrev pub IsGathered : HistoryView → BuilderView → Type 0
IsGathered history builder = HasGathered history.initial history.events builder

-- the answer is the initial values and the events of a chosen violation, with their own verdict. They are a complete
-- history: values with all their operations, and an empty dequeue. Nothing can be left out of them, and no shorter
-- cover exists
pub record IsShrunk (text : HistoryText) (answer : Reply) : Type 0 where
  pub violation : Violation
  pub chosen : IsChosenViolation text.initial (operations_of text.events) violation
  pub small : HistoryView
  pub small_is_complete : IsSound small
  pub initial : ArePartOf text.initial small.initial
  pub events : ArePartOf text.events small.events
  pub kept : KeepsViolation (said_by text) violation small
  pub same : StaysChosen (said_by text) violation small
  pub minimal : IsMinimal (contents_of small)
  pub shortest : HasShortestCover (said_by text) violation
  pub answered : IsOfVerdict small (shown (said_in text.version small)) answer

-- the answer shows a `NO` under a weaker condition: it is that of `shrink` to the part in which the `NO` is found, and
-- is minimal for the condition
pub record IsShrunkPart (condition : Condition) (text : HistoryText) (answer : Reply) : Type 0 where
  pub part : HistoryView
  pub found : IsRefutedPart condition (said_by text) part
  pub complete : IsSound part
  pub initial : ArePartOf text.initial part.initial
  pub events : ArePartOf text.events part.events
  pub shrunk : IsShrunk (said_in text.version part) answer
  pub minimal : IsMinimalUnder condition shrunk.small

-- the answer shows a `NO`, of the whole history or of a part
abbrev pub ShrinksBy : Bool → Bool → HistoryText → Reply → Type 0
ShrinksBy false false text answer = IsShrunk text answer
ShrinksBy false true text answer = IsShrunkPart (record { is_local = false; is_weakly_empty = true }) text answer
ShrinksBy true is_weak text answer = IsShrunkPart (record { is_local = true; is_weakly_empty = is_weak }) text answer

-- the answer to a complete history: its verdict if that is `YES`, or a smaller history that shows the `NO`
abbrev pub ShrinksSound : Condition → HistoryText → Reply → Type 0
ShrinksSound condition text answer =
    Whether (Meets condition (said_by text)) (IsOfVerdictUnder condition (said_by text) judged answer)
    (ShrinksBy condition.is_local condition.is_weakly_empty text answer)

-- `shrink`: the first fault of the history, its verdict if that is `YES`, or a smaller history that shows the `NO`
abbrev pub Shrinks : Condition → HistoryText → Reply → Type 0
Shrinks condition text answer = FaultOr (said_by text) (ShrinksSound condition text) answer

-- ---- claims

-- the claim is evidence in the history under the condition
abbrev pub IsEvident : Condition → ClaimOnText → Type 0
IsEvident condition claim = IsTrueUnder condition (said_by claim.text) claim.claimed

-- `verify`: the first fault of the history, or whether the claim is evidence
abbrev pub Verifies : Condition → ClaimOnText → Reply → Type 0
Verifies condition claim answer =
    FaultOr (said_by claim.text)
    (λ a. Whether (IsEvident condition claim) (a ≡ verified true) (a ≡ verified false)) answer

-- ---- conversions

-- the text of a history in version 2
abbrev pub in_version_2 : HistoryText → HistoryText
in_version_2 text = said_in Two (said_by text)

-- `convert`: the first fault of the history, or its text in version 2
abbrev pub Converts : HistoryText → Reply → Type 0
Converts text answer = FaultOr (said_by text) (λ a. a ≡ converted (in_version_2 text)) answer

-- ---- statistics

-- the answer is the statistics of the history
pub record IsCounted (history : HistoryView) (answer : Reply) : Type 0 where
  pub statistics : Statistics
  pub right : AreStatisticsOf history statistics
  pub is : answer ≡ counted statistics

-- the answer is the statistics of the history, or the dequeues that overtook values, if these are asked for
abbrev pub IsCountedAs : Bool → HistoryView → Reply → Type 0
IsCountedAs false history answer = IsCounted history answer
IsCountedAs true history answer = answer ≡ overtaken (overtakings history)

-- `stats`: the first fault of the history, or the numbers or dequeues that are asked for
abbrev pub Counts : Bool → HistoryText → Reply → Type 0
Counts overtakes text answer = FaultOr (said_by text) (IsCountedAs overtakes (said_by text)) answer

-- ---- schedules

-- the answer is the collected events by ticket, with their verdict
pub record IsPlayed (setting : Setting) (schedule : List Attempt) (answer : Reply) : Type 0 where
  pub events : List Event
  pub merged : IsMerged (collected_lists setting schedule) events
  pub complete : IsCompleteHistory events
  pub answered : IsOfVerdict (record { initial = setting.initial; events = events })
      (played (rejections setting schedule) events) answer

-- the answer to these steps in this setting, by whether the machine is done
abbrev pub SimulatesIn : Setting → List Attempt → Reply → Type 0
SimulatesIn setting schedule answer =
    Whether (IsDone setting schedule) (IsPlayed setting schedule answer)
    (answer ≡ left_open (rejections setting schedule))

-- `sim`: the answer to the steps, tried one after another, if no growth is refused
abbrev pub Simulates : Schedule → Reply → Type 0
Simulates schedule answer =
    SimulatesIn (record { threads = schedule.threads; ring = schedule.ring; initial = [] })
    (schedule_of schedule.steps) answer

-- ---- inputs

-- the answer is that to the value whose text the input is
pub record IsOfValue {A : Type 0} (IsInputOf : Ahead → A → Type 0) (OfValue : A → Reply → Type 0) (input : Ahead)
    (answer : Reply) : Type 0 where
  pub value : A
  pub input_of : IsInputOf input value
  pub answered : OfValue value answer

-- the answer is the input's fault
pub record IsOfFault (IsFaultOf : Ahead → TextFault → Type 0) (input : Ahead) (answer : Reply) : Type 0 where
  pub fault : TextFault
  pub first : IsFaultOf input fault
  pub is : answer ≡ answer_of_text_fault fault

-- the answer to a value, or out of memory
abbrev pub AnswersOrNoMemory : {A : Type 0} → (A → Reply → Type 0) → A → Reply → Type 0
AnswersOrNoMemory OfValue value answer = OfValue value answer ⊎ (answer ≡ memory_fault)

-- the answer to an input: that to the value whose text it is, or its fault. Out of memory is an answer if the input is
-- such a text, or has a line without fault
abbrev pub AnswersFor : {A : Type 0} → (Ahead → A → Type 0) → (Ahead → TextFault → Type 0) → (A → Reply → Type 0)
    → Ahead → Reply → Type 0
AnswersFor IsInputOf IsFaultOf OfValue input answer = IsOfValue IsInputOf (AnswersOrNoMemory OfValue) input answer
    ⊎ IsOfFault IsFaultOf input answer
