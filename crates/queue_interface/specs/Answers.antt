-- Which answers a queue may give.
use Rattle.std.specs.Prelude.{ℕ, Bool, List, Option, Some, None, slice_get, ⊤}
use Rattle.std.specs.Option.{option_and_then}
use Rattle.event_records.specs.Question.{Question}
use Rattle.event_records.specs.declared.kind.Kind.{Kind}
use Rattle.event_records.specs.declared.kind.Kind.TheVariants.{Enq, Deq}
use Rattle.event_records.specs.declared.kind.Answer.{Answer}
use Rattle.event_records.specs.declared.kind.Answer.TheVariants.{Taken, Not, Got, Empty}
use Rattle.queue_interface.specs.declared.script.Entry.{Entry}
use Rattle.queue_interface.specs.declared.script.Entry.TheVariants.{Taken as SaysTaken, NotTaken as SaysNotTaken}
use Rattle.queue_interface.specs.declared.script.Entry.TheVariants.{Got as SaysGot, Empty as SaysEmpty}

-- an answer of the question's kind
abbrev pub IsOfKind : Kind → Answer → Type 0
IsOfKind Enq Taken = Unit {0}
IsOfKind Enq Not = Unit {0}
IsOfKind Enq (Got v) = ⊥
IsOfKind Enq Empty = ⊥
IsOfKind Deq Taken = ⊥
IsOfKind Deq Not = ⊥
IsOfKind Deq (Got v) = Unit {0}
IsOfKind Deq Empty = Unit {0}

-- every answer of the question's kind
abbrev pub AnswersInKind : Question → Answer → Type 0
AnswersInKind question answer = IsOfKind question.kind answer

-- a value that is enqueued before a run may be enqueued, or its enqueue may fail
abbrev pub TakesOrRefuses : ℕ → Bool → Type 0
TakesOrRefuses value taken = ⊤

-- the answer that changes nothing: an enqueue fails, and a dequeue finds the queue empty
abbrev pub refusal : Kind → Answer
refusal Enq = Not
refusal Deq = Empty

-- the answer of an entry to a question of this kind; an entry of the other kind answers that nothing happened
abbrev pub said : Kind → Entry → Answer
said Enq SaysTaken = Taken
said Enq SaysNotTaken = Not
said Enq (SaysGot v) = Not
said Enq SaysEmpty = Not
said Deq SaysTaken = Empty
said Deq SaysNotTaken = Empty
said Deq (SaysGot v) = Got v
said Deq SaysEmpty = Empty

-- the answer of an entry; without an entry, that nothing happened
abbrev pub said_if : Kind → Option Entry → Answer
said_if k None = refusal k
said_if k (Some e) = said k e

-- the entry of a thread's n-th operation, from 0
abbrev pub entry_at : List (List Entry) → ℕ → ℕ → Option Entry
entry_at rows thread n = option_and_then (λ row. slice_get row n) (slice_get rows thread)

-- the answer of the script to a question
abbrev pub scripted : List (List Entry) → Question → Answer
scripted rows q = said_if q.kind (entry_at rows q.thread q.number)
