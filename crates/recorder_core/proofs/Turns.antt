-- Calls and returns of one list, in turn.
use Rattle.std.proofs.Common.{◌≡◌, ℕ, zero, suc, ◌*◌, ◌⊎◌, true, false, List, [], ◌∷◌, ◌++◌, length, Some, refl, inl}
use Rattle.std.proofs.Common.{inr, arith, append_assoc}
use Rattle.event_records.specs.declared.event.Event.{Event}
use Rattle.event_records.specs.declared.event.What.{What}
use Rattle.event_records.specs.declared.event.What.TheVariants.{CallEnq, RetEnq, RetNot, CallDeq, RetDeq, RetEmpty}
use Rattle.event_records.specs.Turns.{TakesTurns, answers}
use Rattle.event_records.specs.declared.kind.Answer.{Answer}
use Rattle.event_records.specs.declared.kind.Answer.TheVariants.{Taken, Not, Got, Empty}
use Rattle.recorder_core.specs.declared.pending.Request.{Request}
use Rattle.recorder_core.specs.declared.pending.Request.TheVariants.{Enqueue, Dequeue}
use Rattle.recorder_core.specs.Inner.Asked.{call_of}
use Rattle.event_records.specs.Question.{return_what}
use Rattle.recorder_core.specs.Schedule.{is_wrong}

-- the events after complete operations take turns too
pub turns_split : (events later : List Event) → TakesTurns events → TakesTurns (events ++ later) → TakesTurns later
turns_split [] later turns both = both
turns_split (e ∷ []) later turns both = absurd turns
turns_split (e ∷ f ∷ events) later turns both = turns_split events later turns.1 both.1

-- the events from the pending call on take turns too
pub turns_from_call : (events : List Event) (call : Event) (later : List Event) → TakesTurns events
    → TakesTurns ((events ++ call ∷ []) ++ later)
    → TakesTurns (call ∷ later)
turns_from_call events call later turns both = turns_split events (call ∷ later) turns (rw append_assoc at both)

-- complete turns are an even number of events
pub turns_even : (events : List Event) → TakesTurns events → (h : ℕ) × (length events ≡ 2 * h)
turns_even [] turns = (zero, refl)
turns_even (e ∷ []) turns = absurd turns
turns_even (e ∷ f ∷ events) turns = let more = turns_even events turns.1 in (suc more.0, omega (arith, more.1))

-- a call is answered by the next event
pub pending_is_answered : (call e : Event) (later : List Event) → TakesTurns (call ∷ e ∷ later)
    → answers call.what e.what ≡ true
pending_is_answered call e later turns = turns.0

call_cases : (call answer : What) → answers call answer ≡ true → ((v : ℕ) × (call ≡ CallEnq v)) ⊎ (call ≡ CallDeq)
call_cases (CallEnq v) answer fit = inl (v, refl)
call_cases CallDeq answer fit = inr refl
call_cases RetEnq answer fit = cc
call_cases RetNot answer fit = cc
call_cases (RetDeq v) answer fit = cc
call_cases RetEmpty answer fit = cc

-- the first event is a call
pub first_is_call : (e : Event) (later : List Event) → TakesTurns (e ∷ later)
    → ((v : ℕ) × (e.what ≡ CallEnq v)) ⊎ (e.what ≡ CallDeq)
first_is_call e [] turns = absurd turns
first_is_call e (f ∷ later) turns = call_cases e.what f.what turns.0

-- the answer that a return gives
pub answer_in : (asked : Request) (what : What) → answers (call_of asked) what ≡ true
    → (a : Answer) × (what ≡ return_what a) × (is_wrong a (Some asked) ≡ false)
answer_in (Enqueue v) RetEnq fit = (Taken, refl, refl)
answer_in (Enqueue v) RetNot fit = (Not, refl, refl)
answer_in (Enqueue v) (CallEnq w) fit = cc
answer_in (Enqueue v) CallDeq fit = cc
answer_in (Enqueue v) (RetDeq w) fit = cc
answer_in (Enqueue v) RetEmpty fit = cc
answer_in Dequeue (RetDeq w) fit = (Got w, refl, refl)
answer_in Dequeue RetEmpty fit = (Empty, refl, refl)
answer_in Dequeue (CallEnq w) fit = cc
answer_in Dequeue CallDeq fit = cc
answer_in Dequeue RetEnq fit = cc
answer_in Dequeue RetNot fit = cc
