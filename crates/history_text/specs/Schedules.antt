-- Texts of schedules: how they are written, and the first fault of bytes that should begin with one.
use Rattle.std.specs.Prelude.{◌≡◌, ℕ, ◌+◌, ◌≤◌, true, ◌⊎◌}
use Rattle.std.specs.Prelude.{List, [], ◌∷◌, ◌++◌, length, codes, decimal, Some, slice_index}
use Rattle.std.specs.declared.result.Result.{Result}
use Rattle.event_records.specs.declared.limits.TheConstants.{MAX_THREAD}
use Rattle.recorder_core.specs.declared.step.Step.{Step}
use Rattle.recorder_core.specs.declared.step.Step.TheVariants.{AskEnq, AskDeq, Push, Effect, Say, Ret, Drain, Close}
use Rattle.event_records.specs.declared.kind.Answer.{Answer}
use Rattle.event_records.specs.declared.kind.Answer.TheVariants.{Taken, Not, Got, Empty}
use Rattle.event_records.specs.declared.limits.TheConstants.{MAX_RING, MAX_STEPS, MAX_THREADS, MIN_RING}
use Rattle.text_lines.specs.declared.fault.TextFault.{TextFault}
use Rattle.history_text.specs.declared.schedule.Schedule.{Schedule}
use Rattle.history_text.specs.declared.schedule.TheConstants.{MOST_DRAINED}
use Rattle.text_lines.specs.Input.{Ending}
use Rattle.text_lines.specs.Lines.{line, spaced, end_line, greatest_value, front_of, header_fault, After}
use Rattle.text_lines.specs.Forms.{Table, FieldForm, Word, Number}
use Rattle.history_text.specs.Items.{Format, lines_of, HaveLines, LineFault, ItemFault, NoRoom, a_thread, a_value}
use Rattle.history_text.specs.Items.{read_by}

-- ---- what is written

-- the words of an answer, with its value
abbrev pub answer_fields : Answer → List (List ℕ)
answer_fields Taken = codes "taken" ∷ []
answer_fields Not = codes "not" ∷ []
answer_fields (Got v) = codes "got" ∷ decimal v ∷ []
answer_fields Empty = codes "empty" ∷ []

-- the fields of a step: its word, its thread, and the rest
abbrev pub step_fields : Step → List (List ℕ)
step_fields (AskEnq t) = codes "ask-enq" ∷ decimal t ∷ []
step_fields (AskDeq t) = codes "ask-deq" ∷ decimal t ∷ []
step_fields (Push t) = codes "push" ∷ decimal t ∷ []
step_fields (Effect t) = codes "effect" ∷ decimal t ∷ []
step_fields (Say t answer) = codes "say" ∷ decimal t ∷ answer_fields answer
step_fields (Ret t) = codes "ret" ∷ decimal t ∷ []
step_fields (Drain t k) = codes "drain" ∷ decimal t ∷ decimal k ∷ []
step_fields (Close t) = codes "close" ∷ decimal t ∷ []

-- the value of the answer, if there is one, has 64 bits
abbrev pub IsAnswerInRange : Answer → Type 0
IsAnswerInRange (Got v) = v ≤ greatest_value
IsAnswerInRange _ = Unit {0}

-- steps that have a line
abbrev pub HasStepLine : Step → Type 0
HasStepLine (Say t answer) = (t ≤ MAX_THREAD) × IsAnswerInRange answer
HasStepLine (Drain t k) = (t ≤ MAX_THREAD) × (k ≤ MOST_DRAINED)
HasStepLine (AskEnq t) = t ≤ MAX_THREAD
HasStepLine (AskDeq t) = t ≤ MAX_THREAD
HasStepLine (Push t) = t ≤ MAX_THREAD
HasStepLine (Effect t) = t ≤ MAX_THREAD
HasStepLine (Ret t) = t ≤ MAX_THREAD
HasStepLine (Close t) = t ≤ MAX_THREAD

-- the fields of the second line: the number of threads, and the capacity of each ring
abbrev pub setting_fields : ℕ → ℕ → List (List ℕ)
setting_fields threads ring = codes "threads" ∷ decimal threads ∷ codes "ring" ∷ decimal ring ∷ []

-- the first line of a schedule
abbrev pub schedule_header : List ℕ
schedule_header = codes "fifo-schedule 1"

-- the two lines before the steps
abbrev pub lines_before_steps : ℕ → ℕ → List ℕ
lines_before_steps threads ring = line schedule_header ++ line (spaced (setting_fields threads ring))

-- ---- what is read

-- the form of a step with only a thread, by its word
abbrev pub plain_step : List ℕ → List FieldForm
plain_step word = Word word ∷ a_thread ∷ []

-- the form of a `say` without a value, by the word of its answer
abbrev pub plain_saying : List ℕ → List FieldForm
plain_saying answer = Word (codes "say") ∷ a_thread ∷ Word answer ∷ []

-- the form of a `say` with a value
abbrev pub valued_saying : List FieldForm
valued_saying = Word (codes "say") ∷ a_thread ∷ Word (codes "got") ∷ a_value ∷ []

-- the form of a `drain`
abbrev pub draining : List FieldForm
draining = Word (codes "drain") ∷ a_thread ∷ Number 0 MOST_DRAINED ∷ []

-- the forms of step lines, each with its step, with 0 as the thread and as any other number
abbrev pub step_forms : Table Step
step_forms =
    (AskEnq 0, plain_step (codes "ask-enq")) ∷ (AskDeq 0, plain_step (codes "ask-deq"))
    ∷ (Push 0, plain_step (codes "push"))
    ∷ (Effect 0, plain_step (codes "effect")) ∷ (Ret 0, plain_step (codes "ret"))
    ∷ (Close 0, plain_step (codes "close"))
    ∷ (Drain 0 0, draining) ∷ (Say 0 Taken, plain_saying (codes "taken")) ∷ (Say 0 Not, plain_saying (codes "not"))
    ∷ (Say 0 Empty, plain_saying (codes "empty")) ∷ (Say 0 (Got 0), valued_saying) ∷ []

-- the answer with its value replaced, if it has one
abbrev pub answer_with : Answer → ℕ → Answer
answer_with (Got _) v = Got v
answer_with answer v = answer

-- the step with its thread replaced, and its other number, if it has one
abbrev pub step_with : Step → ℕ → ℕ → Step
step_with (AskEnq _) t v = AskEnq t
step_with (AskDeq _) t v = AskDeq t
step_with (Push _) t v = Push t
step_with (Effect _) t v = Effect t
step_with (Say _ answer) t v = Say t (answer_with answer v)
step_with (Ret _) t v = Ret t
step_with (Drain _ _) t v = Drain t v
step_with (Close _) t v = Close t

-- the step of a line, from its form and its numbers
abbrev pub step_of : Step → List ℕ → Step
step_of step numbers = step_with step (slice_index numbers 0) (slice_index numbers 1)

-- the step on line n, from its fields
abbrev pub step_in : ℕ → List (List ℕ) → Result Step TextFault
step_in n fields = read_by step_forms step_of n fields

-- the form of the second line
abbrev pub setting_form : List FieldForm
setting_form = Word (codes "threads") ∷ Number 1 MAX_THREADS ∷ Word (codes "ring") ∷ Number MIN_RING MAX_RING ∷ []

-- the table of this form alone
abbrev pub setting_forms : Table (Unit {0})
setting_forms = (tt, setting_form) ∷ []

-- the setting of a line, from its numbers
abbrev pub setting_of : Unit {0} → List ℕ → ℕ × ℕ
setting_of _ numbers = (slice_index numbers 0, slice_index numbers 1)

-- the number of threads and the capacity of the rings on line n, from its fields
abbrev pub setting_in : ℕ → List (List ℕ) → Result (ℕ × ℕ) TextFault
setting_in n fields = read_by setting_forms setting_of n fields

-- ---- schedules

-- the format of a schedule, which lists steps
abbrev pub step_format : Format Step
step_format =
    record { fields = step_fields; HasLine = HasStepLine; most = MAX_STEPS; is_counted = true; read = step_in }

-- the text of a schedule
abbrev pub schedule_text : Schedule → List ℕ
schedule_text s = lines_before_steps s.threads s.ring ++ (lines_of step_format s.steps ++ end_line (length s.steps))

-- a setting that a schedule may have
pub record IsSetting (threads ring : ℕ) : Type 0 where
  pub some_threads : 1 ≤ threads
  pub few_threads : threads ≤ MAX_THREADS
  pub some_room : MIN_RING ≤ ring
  pub little_room : ring ≤ MAX_RING

-- schedules that have a text
pub record HasScheduleText (s : Schedule) : Type 0 where
  pub setting : IsSetting s.threads s.ring
  pub steps : HaveLines step_format s.steps

-- the first two lines are valid, and P holds of the bytes after them
abbrev pub AfterSetting : (List ℕ → Type 0) → List ℕ → Type 0
AfterSetting P bytes = (threads : ℕ) × (ring : ℕ) × IsSetting threads ring
    × After (lines_before_steps threads ring) P bytes

-- the first fault of a text of a schedule: that of the first line, of the second, or of the line after some steps
abbrev pub IsScheduleTextFault : ℕ → Ending → List ℕ → TextFault → Type 0
IsScheduleTextFault lines ending bytes fault =
    (header_fault schedule_header ending (front_of bytes) ≡ Some fault)
    ⊎ (After (line schedule_header) (LineFault setting_in (lines + 2) ending fault) bytes
    ⊎ AfterSetting (ItemFault step_format (lines + 3) ending fault) bytes)

-- the first two lines and those of some steps are valid, but there was no room for the last
abbrev pub NoRoomForSchedule : List ℕ → Type 0
NoRoomForSchedule bytes = AfterSetting (NoRoom step_format) bytes
