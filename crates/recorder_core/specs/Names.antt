-- The printed names of refusals.
use Rattle.std.specs.Prelude.{ℕ, List, codes}
use Rattle.recorder_core.specs.declared.step.StepRefused.{StepRefused}
use Rattle.recorder_core.specs.declared.step.StepRefused.TheVariants.{NoThread, Closed, Held, NothingHeld, RingFull}
use Rattle.recorder_core.specs.declared.step.StepRefused.TheVariants.{Pending, NotPending, NoAnswer}
use Rattle.recorder_core.specs.declared.step.StepRefused.TheVariants.{AnswerTaken, WrongAnswer, Limit, Memory}

-- the name of a refusal
abbrev pub name_of : StepRefused → List ℕ
-- refusals by the thread and its held event
name_of NoThread = codes "NoThread"
name_of Closed = codes "Closed"
name_of Held = codes "Held"
name_of NothingHeld = codes "NothingHeld"
name_of RingFull = codes "RingFull"
-- refusals by the pending operation
name_of Pending = codes "Pending"
name_of NotPending = codes "NotPending"
name_of NoAnswer = codes "NoAnswer"
name_of AnswerTaken = codes "AnswerTaken"
name_of WrongAnswer = codes "WrongAnswer"
-- refusals by limits and memory
name_of Limit = codes "Limit"
name_of Memory = codes "Memory"
