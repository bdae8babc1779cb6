-- Asks by their kind. Only private functions cite this file.
use Rattle.std.specs.Prelude.{ℕ, Bool, ◌||◌, nat_le}
use Rattle.event_records.specs.declared.kind.Kind.{Kind}
use Rattle.event_records.specs.declared.kind.Kind.TheVariants.{Enq, Deq}
use Rattle.event_records.specs.declared.event.What.{What}
use Rattle.event_records.specs.declared.event.What.TheVariants.{CallEnq, CallDeq}
use Rattle.event_records.specs.declared.limits.TheConstants.{MAX_THREAD_OPERATIONS, MAX_OPERATIONS}
use Rattle.event_records.specs.Question.{value_name}
use Rattle.recorder_core.specs.declared.step.Step.{Step}
use Rattle.recorder_core.specs.declared.step.Step.TheVariants.{AskEnq, AskDeq}
use Rattle.recorder_core.specs.declared.pending.Request.{Request}
use Rattle.recorder_core.specs.declared.pending.Request.TheVariants.{Enqueue, Dequeue}

-- the ask of this kind
abbrev pub ask_of : Kind → ℕ → Step
ask_of Enq t = AskEnq t
ask_of Deq t = AskDeq t

-- the request of the operation of t with number n
abbrev pub asked_for : Kind → ℕ → ℕ → Request
asked_for Enq t n = Enqueue (value_name t n)
asked_for Deq t n = Dequeue

-- the call with this request
abbrev pub call_of : Request → What
call_of (Enqueue value) = CallEnq value
call_of Dequeue = CallDeq

-- whether a thread that asked this many operations, of this many in all, may ask no more
abbrev pub is_limited : ℕ → ℕ → Bool
is_limited asked all = nat_le MAX_THREAD_OPERATIONS asked || nat_le MAX_OPERATIONS all
