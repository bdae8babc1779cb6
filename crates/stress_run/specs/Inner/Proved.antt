-- The result of a run of a proved queue.
use Rattle.std.specs.Prelude.{◌≡◌, ℕ, List}
use Rattle.event_records.specs.declared.event.Event.{Event}
use Rattle.event_records.specs.declared.kind.Kind.{Kind}
use Rattle.event_records.specs.Question.{Question, Answered}
use Rattle.history_merge.specs.Initial.{IsCompleteFrom}
use Rattle.history_merge.specs.Legal.{IsLinearizable}
use Rattle.history_merge.specs.Merge.{IsMerged}
use Rattle.history_merge.specs.Operations.{operations_of}
use Rattle.queue_interface.specs.Answers.{AnswersInKind}
use Rattle.recorder_core.specs.Replay.{AreRecorded, Replays}
use Rattle.stress_run.specs.Bounded.{IsLinearizableWithin}
use Rattle.stress_run.specs.Noted.{NotesOne}
use Rattle.stress_run.specs.Operations.{IsRun}
use Rattle.stress_run.specs.Recorded.{RecordedView}
use Rattle.tickets.specs.Views.{PassView}

-- a run of the plan from these initial values: its lists are recorded ones, replay with rings of this size, and merge
-- to a complete and linearizable history
pub record IsProvedRun (plan : List (List Kind)) (ring : ℕ) (initial : List ℕ) (r : RecordedView) : Type 0 where
  pub recorded : IsRun AnswersInKind plan r.lists r.total
  pub from_initial : r.initial ≡ initial
  pub lists : AreRecorded r.lists
  pub replays : Replays ring initial r.lists
  pub fits : (merged : List Event) → IsMerged r.lists merged → IsCompleteFrom initial merged
  pub linearizable : (merged : List Event) → IsMerged r.lists merged → IsLinearizable initial (operations_of merged)

-- each merged history of the run is one of a queue that has room for this many values
abbrev pub IsRunWithin : ℕ → List ℕ → RecordedView → Type 0
IsRunWithin room initial r = (merged : List Event) → IsMerged r.lists merged
    → IsLinearizableWithin room initial (operations_of merged)

-- an answer of its kind to this question, which the pass notes; nothing else of the pass changes
abbrev pub AnswersOne : Question → PassView → Answered → PassView → Type 0
AnswersOne ask before answered after = (answered.question ≡ ask) × AnswersInKind ask answered.answer
    × (after ≡ record before { noted = after.noted }) × NotesOne ask answered.answer before.noted after.noted
