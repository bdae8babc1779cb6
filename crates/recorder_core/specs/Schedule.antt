-- The meaning of a schedule: which of its steps are accepted, and what each accepted step gives. In every list of
-- attempts or steps the latest comes first, so the rest of a list is what came before. The queue, answers and events
-- of threads follow from the accepted steps by counts and filters: there is no ring, no held event and no state.
use Rattle.std.specs.Prelude.{ℕ, ◌+◌, ◌-◌, min, Bool, true, false, not, ◌||◌, ◌==◌, nat_lt, nat_le, if◌then◌else◌}
use Rattle.std.specs.Prelude.{List, [], ◌∷◌, ◌++◌, length}
use Rattle.std.specs.Prelude.{filter, find, drop, Option, None, Some, Result, Ok, Err}
use Rattle.std.specs.List.{list_any}
use Rattle.std.specs.Option.{option_map, option_map_or, is_none}
use Rattle.event_records.specs.declared.event.Event.{Event}
use Rattle.event_records.specs.declared.event.What.TheVariants.{CallEnq, CallDeq}
use Rattle.event_records.specs.declared.limits.TheConstants.{MAX_THREAD_OPERATIONS, MAX_OPERATIONS}
use Rattle.event_records.specs.Question.{return_what, value_name}
use Rattle.recorder_core.specs.declared.step.Step.{Step}
use Rattle.recorder_core.specs.declared.step.Step.TheVariants.{AskEnq, AskDeq, Push, Effect, Say, Ret, Drain, Close}
use Rattle.event_records.specs.declared.kind.Answer.{Answer}
use Rattle.event_records.specs.declared.kind.Answer.TheVariants.{Taken, Not, Got, Empty}
use Rattle.recorder_core.specs.declared.pending.Request.{Request}
use Rattle.recorder_core.specs.declared.pending.Request.TheVariants.{Enqueue, Dequeue}
use Rattle.recorder_core.specs.declared.step.Done.{Done}
use Rattle.recorder_core.specs.declared.step.Done.TheVariants.{Ticket, Pushed, Answered, Drained, Closed as CloseDone}
use Rattle.recorder_core.specs.Setting.{Setting}
use Rattle.recorder_core.specs.declared.step.StepRefused.{StepRefused}
use Rattle.recorder_core.specs.declared.step.StepRefused.TheVariants.{NoThread, Closed, Held, NothingHeld, RingFull}
use Rattle.recorder_core.specs.declared.step.StepRefused.TheVariants.{Pending, NotPending, NoAnswer}
use Rattle.recorder_core.specs.declared.step.StepRefused.TheVariants.{AnswerTaken, WrongAnswer, Limit, Memory}

-- a step that is tried, and whether memory runs out for it; only a push, an effect and a drain take memory
pub record Attempt : Type 0 where
  pub step : Step
  pub starved : Bool

-- ---- counts over accepted steps

-- whether a step is an ask of t
abbrev pub is_ask : ℕ → Step → Bool
is_ask t (AskEnq u) = u == t
is_ask t (AskDeq u) = u == t
is_ask t _ = false

-- whether a step gives the pending operation of t an answer
abbrev pub is_answer : ℕ → Step → Bool
is_answer t (Effect u) = u == t
is_answer t (Say u answer) = u == t
is_answer t _ = false

-- whether a step is a return of t
abbrev pub is_return : ℕ → Step → Bool
is_return t (Ret u) = u == t
is_return t _ = false

-- whether a step is a push of t
abbrev pub is_push : ℕ → Step → Bool
is_push t (Push u) = u == t
is_push t _ = false

-- whether a step is a close of t
abbrev pub is_close : ℕ → Step → Bool
is_close t (Close u) = u == t
is_close t _ = false

-- whether a step is an ask of any thread
abbrev pub is_any_ask : Step → Bool
is_any_ask (AskEnq u) = true
is_any_ask (AskDeq u) = true
is_any_ask _ = false

-- whether a step takes a ticket, as asks and returns do
abbrev pub is_ticket_step : Step → Bool
is_ticket_step (AskEnq u) = true
is_ticket_step (AskDeq u) = true
is_ticket_step (Ret u) = true
is_ticket_step _ = false

-- the number of steps that pass a test
abbrev pub count_of : (Step → Bool) → List Step → ℕ
count_of test steps = length (filter test steps)

-- the number of operations that t asked
abbrev pub asks : ℕ → List Step → ℕ
asks t steps = count_of (is_ask t) steps

-- the number of operations of t that were answered
abbrev pub answers : ℕ → List Step → ℕ
answers t steps = count_of (is_answer t) steps

-- the number of operations of t that returned
abbrev pub returns : ℕ → List Step → ℕ
returns t steps = count_of (is_return t) steps

-- the number of events that t pushed
abbrev pub pushes : ℕ → List Step → ℕ
pushes t steps = count_of (is_push t) steps

-- the number of operations that all threads asked
abbrev pub all_asks : List Step → ℕ
all_asks steps = count_of is_any_ask steps

-- the number of tickets taken, which is the next ticket
abbrev pub tickets : List Step → ℕ
tickets steps = count_of is_ticket_step steps

-- the number of events that the drains of t took: each takes as many as it says, or all that are pushed and not yet
-- drained if these are fewer
abbrev pub drained : ℕ → List Step → ℕ
drained t [] = 0
drained t (Drain u k ∷ before) =
    if u == t then drained t before + min k (pushes t before - drained t before) else drained t before
drained t (_ ∷ before) = drained t before

-- the number of events of t that are pushed and not yet drained
abbrev pub in_ring : ℕ → List Step → ℕ
in_ring t steps = pushes t steps - drained t steps

-- whether t is closed
abbrev pub is_closed : ℕ → List Step → Bool
is_closed t steps = list_any (is_close t) steps

-- ---- requests, answers and the machine's queue, which is the sequential specification

-- the last request of t
abbrev pub request : ℕ → List Step → Option Request
request t [] = None
request t (AskEnq u ∷ before) = if u == t then Some (Enqueue (value_name t (asks t before))) else request t before
request t (AskDeq u ∷ before) = if u == t then Some Dequeue else request t before
request t (_ ∷ before) = request t before

-- the answer of a queue
abbrev pub queue_answer : Request → List ℕ → Answer
queue_answer (Enqueue value) queue = Taken
queue_answer Dequeue [] = Empty
queue_answer Dequeue (first ∷ rest) = Got first

-- the queue after a request
abbrev pub queue_after : Request → List ℕ → List ℕ
queue_after (Enqueue value) queue = queue ++ value ∷ []
queue_after Dequeue queue = drop 1 queue

-- the machine's queue after the effects among these steps, beginning with the initial values
abbrev pub queue : Setting → List Step → List ℕ
queue setting [] = setting.initial
queue setting (Effect u ∷ before) =
    option_map_or (λ asked. queue_after asked (queue setting before)) (request u before) (queue setting before)
queue setting (_ ∷ before) = queue setting before

-- the answer of an effect of t: that of the queue after the effects before
abbrev pub effect_answer : Setting → ℕ → List Step → Answer
effect_answer setting t before =
    option_map_or (λ asked. queue_answer asked (queue setting before)) (request t before) Empty

-- the last answer to t
abbrev pub answered : Setting → ℕ → List Step → Option Answer
answered setting t [] = None
answered setting t (Effect u ∷ before) =
    if u == t then Some (effect_answer setting t before) else answered setting t before
answered setting t (Say u answer ∷ before) = if u == t then Some answer else answered setting t before
answered setting t (_ ∷ before) = answered setting t before

-- ---- events

-- the event that a step gives thread t, if it does, with the next ticket
abbrev pub event_of : Setting → ℕ → Step → List Step → Option Event
event_of setting t (AskEnq u) before =
    if u == t then Some (record {
      ticket = tickets before;
      thread = t;
      what = CallEnq (value_name t (asks t before));
    }) else None
event_of setting t (AskDeq u) before =
    if u == t then Some (record { ticket = tickets before; thread = t; what = CallDeq }) else None
event_of setting t (Ret u) before =
    if u == t
    then option_map (λ answer. record { ticket = tickets before; thread = t; what = return_what answer })
    (answered setting t before)
    else None
event_of setting t _ before = None

-- a list with one more item at its end, if there is one
abbrev pub with_last : {X : Type 0} → List X → Option X → List X
with_last items None = items
with_last items (Some item) = items ++ item ∷ []

-- the events of t: its asks and returns, in their order
abbrev pub events : Setting → ℕ → List Step → List Event
events setting t [] = []
events setting t (step ∷ before) = with_last (events setting t before) (event_of setting t step before)

-- ---- refusals

-- the thread of a step
abbrev pub thread_of : Step → ℕ
thread_of (AskEnq t) = t
thread_of (AskDeq t) = t
thread_of (Push t) = t
thread_of (Effect t) = t
thread_of (Say t answer) = t
thread_of (Ret t) = t
thread_of (Drain t k) = t
thread_of (Close t) = t

-- whether this is an answer to an enqueue
abbrev pub is_enqueue_answer : Answer → Bool
is_enqueue_answer Taken = true
is_enqueue_answer Not = true
is_enqueue_answer _ = false

-- whether the answer is of the other kind than the request
abbrev pub is_wrong : Answer → Option Request → Bool
is_wrong answer None = false
is_wrong answer (Some (Enqueue value)) = not (is_enqueue_answer answer)
is_wrong answer (Some Dequeue) = is_enqueue_answer answer

-- whether a step gives an operation an answer of the other kind
abbrev pub is_told_wrong : Step → Option Request → Bool
is_told_wrong (Say t answer) asked = is_wrong answer asked
is_told_wrong _ asked = false

-- whether an attempt meets a refusal, after these accepted steps
abbrev pub meets : Setting → List Step → Attempt → StepRefused → Bool
meets setting before attempt NoThread = nat_le setting.threads (thread_of attempt.step)
meets setting before attempt Closed = is_closed (thread_of attempt.step) before
meets setting before attempt Held = let t = thread_of attempt.step in
    nat_lt (pushes t before) (asks t before + returns t before)
meets setting before attempt NothingHeld = let t = thread_of attempt.step in
    nat_le (asks t before + returns t before) (pushes t before)
meets setting before attempt RingFull = nat_le setting.ring (in_ring (thread_of attempt.step) before)
meets setting before attempt Pending = let t = thread_of attempt.step in nat_lt (returns t before) (asks t before)
meets setting before attempt NotPending = let t = thread_of attempt.step in nat_le (asks t before) (returns t before)
meets setting before attempt NoAnswer = let t = thread_of attempt.step in nat_le (answers t before) (returns t before)
meets setting before attempt AnswerTaken = let t = thread_of attempt.step in
    nat_lt (returns t before) (answers t before)
meets setting before attempt WrongAnswer = is_told_wrong attempt.step (request (thread_of attempt.step) before)
meets setting before attempt Limit =
    nat_le MAX_THREAD_OPERATIONS (asks (thread_of attempt.step) before) || nat_le MAX_OPERATIONS (all_asks before)
meets setting before attempt Memory = attempt.starved

-- the refusals that a step can meet, in the order in which they are checked
abbrev pub refusals_of : Step → List StepRefused
refusals_of (AskEnq t) = NoThread ∷ Closed ∷ Held ∷ Pending ∷ Limit ∷ []
refusals_of (AskDeq t) = NoThread ∷ Closed ∷ Held ∷ Pending ∷ Limit ∷ []
refusals_of (Push t) = NoThread ∷ Closed ∷ NothingHeld ∷ RingFull ∷ Memory ∷ []
refusals_of (Effect t) = NoThread ∷ Closed ∷ NotPending ∷ AnswerTaken ∷ Memory ∷ []
refusals_of (Say t answer) = NoThread ∷ Closed ∷ NotPending ∷ AnswerTaken ∷ WrongAnswer ∷ []
refusals_of (Ret t) = NoThread ∷ Closed ∷ Held ∷ NotPending ∷ NoAnswer ∷ []
refusals_of (Drain t k) = NoThread ∷ Memory ∷ []
refusals_of (Close t) = NoThread ∷ Closed ∷ Held ∷ Pending ∷ []

-- the first refusal that an attempt meets, if any
abbrev pub refusal : Setting → List Step → Attempt → Option StepRefused
refusal setting before attempt = find (meets setting before attempt) (refusals_of attempt.step)

-- ---- accepted steps, and the results of steps

-- the accepted steps of a schedule: those that meet no refusal after the accepted steps before them
abbrev pub accepted : Setting → List Attempt → List Step
accepted setting [] = []
accepted setting (attempt ∷ before) =
    if is_none (refusal setting (accepted setting before) attempt)
    then attempt.step ∷ accepted setting before
    else accepted setting before

-- the result of an accepted step
abbrev pub done_of : Setting → Step → List Step → Done
done_of setting (AskEnq t) before = Ticket (tickets before)
done_of setting (AskDeq t) before = Ticket (tickets before)
done_of setting (Push t) before = Pushed
done_of setting (Effect t) before = Answered (effect_answer setting t before)
done_of setting (Say t answer) before = Answered answer
done_of setting (Ret t) before = Ticket (tickets before)
done_of setting (Drain t k) before = Drained (min k (in_ring t before))
done_of setting (Close t) before = CloseDone

-- the result with a refusal, or with none
abbrev pub reply : Option StepRefused → Done → Result Done StepRefused
reply None done = Ok done
reply (Some refused) done = Err refused

-- the result of an attempt after a schedule
abbrev pub answer_to : Setting → List Attempt → Attempt → Result Done StepRefused
answer_to setting schedule attempt =
    let before = accepted setting schedule in
    reply (refusal setting before attempt) (done_of setting attempt.step before)
