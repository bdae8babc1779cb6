-- Questions to a queue, their answers, and the events that record them.
use Rattle.std.specs.Prelude.{ℕ, ◌+◌, ◌*◌, Option, Some, None}
use Rattle.tickets.specs.Views.{DrawnView}
use Rattle.atomic_table.specs.Seated.{TableId}
use Rattle.event_records.specs.declared.kind.Kind.{Kind}
use Rattle.event_records.specs.declared.kind.Kind.TheVariants.{Enq, Deq}
use Rattle.event_records.specs.declared.event.What.{What}
use Rattle.event_records.specs.declared.event.What.TheVariants.{CallEnq, RetEnq, RetNot, CallDeq, RetDeq, RetEmpty}
use Rattle.event_records.specs.declared.kind.Answer.{Answer}
use Rattle.event_records.specs.declared.kind.Answer.TheVariants.{Taken, Not, Got, Empty}
use Rattle.event_records.specs.declared.event.Event.{Event}
use Rattle.event_records.specs.declared.limits.TheConstants.{NAMES_OF_A_THREAD}

-- an operation as its thread asks for it: its number in the thread, from 0, its kind, its call ticket, and the key of
-- the ticket word from which that was drawn
pub record Question : Type 0 where
  pub thread : ℕ
  pub number : ℕ
  pub kind : Kind
  pub call : ℕ
  pub key : TableId

-- a question with its answer
pub record Answered : Type 0 where
  pub question : Question
  pub answer : Answer

-- the thread whose operations are numbered, and the number of those asked
pub record NamerView : Type 0 where
  pub thread : ℕ
  pub asked : ℕ

-- the value that the n-th operation of a thread enqueues, n counted from 0
abbrev pub value_name : ℕ → ℕ → ℕ
value_name thread n = thread * NAMES_OF_A_THREAD + n

-- the next question of a namer, at a drawn ticket
abbrev pub next_question : NamerView → Kind → DrawnView → Question
next_question n k d = record { thread = n.thread; number = n.asked; kind = k; call = d.ticket; key = d.key }

-- the call of an operation of this kind, for this value if it has one
abbrev pub call_what : Kind → ℕ → What
call_what Enq v = CallEnq v
call_what Deq v = CallDeq

-- the return of an operation with this answer
abbrev pub return_what : Answer → What
return_what Taken = RetEnq
return_what Not = RetNot
return_what (Got v) = RetDeq v
return_what Empty = RetEmpty

-- the call event of a question, at its call ticket
abbrev pub call_event : Question → Event
call_event q = record { ticket = q.call; thread = q.thread; what = call_what q.kind (value_name q.thread q.number) }

-- the return event of an answered question, at its return ticket
abbrev pub return_event : Answered → ℕ → Event
return_event a ret = record { ticket = ret; thread = a.question.thread; what = return_what a.answer }

-- the answer of a dequeue with this result
abbrev pub dequeued : Option ℕ → Answer
dequeued (Some v) = Got v
dequeued None = Empty
