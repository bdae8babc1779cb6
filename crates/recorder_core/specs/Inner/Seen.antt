-- Refusals by the state of one thread. Only private functions cite this file.
use Rattle.std.specs.Prelude.{◌&&◌, ◌==◌, Bool, false, is_some, length, Option, None, Some}
use Rattle.std.specs.Option.{is_none}
use Rattle.recorder_core.specs.declared.pending.Pending.{Pending}
use Rattle.event_records.specs.declared.kind.Answer.{Answer}
use Rattle.recorder_core.specs.declared.step.StepRefused.{StepRefused}
use Rattle.recorder_core.specs.declared.step.StepRefused.TheVariants.{Closed, Held, NothingHeld, RingFull}
use Rattle.recorder_core.specs.declared.step.StepRefused.TheVariants.{Pending as PendingRefused, NotPending}
use Rattle.recorder_core.specs.declared.step.StepRefused.TheVariants.{NoAnswer, AnswerTaken, Memory}
use Rattle.recorder_core.specs.View.{ThreadView}

-- the answer of the pending operation, if there is one
abbrev pub given_answer : Option Pending → Option Answer
given_answer None = None
given_answer (Some pending) = pending.answer

-- whether a thread in this state meets a refusal; `others` says which of the other refusals are met
abbrev pub seen : ThreadView → (StepRefused → Bool) → StepRefused → Bool
seen thread others Closed = thread.closed
seen thread others Held = is_some thread.held
seen thread others NothingHeld = is_none thread.held
seen thread others PendingRefused = is_some thread.pending
seen thread others NotPending = is_none thread.pending
seen thread others NoAnswer = is_none (given_answer thread.pending)
seen thread others AnswerTaken = is_some (given_answer thread.pending)
seen thread others refused = others refused

-- none of the other refusals
abbrev pub none_other : StepRefused → Bool
none_other refused = false

-- whether the ring is full, and whether memory ran out
abbrev pub when_pushing : Bool → Bool → StepRefused → Bool
when_pushing full starved RingFull = full
when_pushing full starved Memory = starved
when_pushing full starved refused = false

-- no more events can come from the thread
abbrev pub is_thread_done : ThreadView → Bool
is_thread_done thread = thread.closed && (length thread.ring == 0)
