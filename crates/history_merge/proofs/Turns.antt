-- The pending call of each thread in a walk over the events, and calls and returns of one thread, event by event.
use Rattle.history_merge.proofs.Common.{All, All-head, All-tail, answers, ap, append-nil, append_assoc, arith, CallEnq}
use Rattle.history_merge.proofs.Common.{[], cases_lt, common_steps, eq-eqb, Event, filter-append, FitsTurn, is_call}
use Rattle.history_merge.proofs.Common.{IsLeastPendingCall}
use Rattle.history_merge.proofs.Common.{last_or, MatchOption, MAX_THREAD, nat_eq, nat_tests, None, NothingPending}
use Rattle.history_merge.proofs.Common.{Option, option_and_then, pending_call, projection, refl, RetEmpty, RetEnq}
use Rattle.history_merge.proofs.Common.{Some, sym, TakesTurns, then_some, true, What, ◌++◌, ◌+◌, ◌∙◌, ◌∷◌, ◌≡◌}
use Rattle.std.proofs.Common.{ℕ, ◌≤◌, ◌<◌, false, Bool, List}

-- ---- the pending calls, and one more event

-- the pending call of a list of events of one thread
abbrev pub pending_in : List Event → Option Event
pending_in events = option_and_then (λ e. then_some (is_call e.what) e) (last_or None events)

-- the last of a list with one more element
pub last_or-push : {X : Type 0} (o : Option X) (xs : List X) (x : X) → last_or o (xs ++ x ∷ []) ≡ Some x
last_or-push o [] x = refl
last_or-push o (y ∷ xs) x = last_or-push (Some y) xs x

-- the pending call after one more event
pub pending_in-push : (events : List Event) (e : Event) → pending_in (events ++ e ∷ []) ≡ then_some (is_call e.what) e
pending_in-push events e = rw (last_or-push None events e, pending_in) refl

-- an event between others is between those of its thread
pub projection-at : (before later : List Event) (e : Event)
    → projection e.thread (before ++ e ∷ later) ≡ projection e.thread before ++ e ∷ projection e.thread later
projection-at before later e = let own = eq-eqb e.thread e.thread refl in filter-append (λ x. nat_eq x.thread e.thread) before (e ∷ later) ∙ rw own refl

-- one more event of a thread is one more in its projection
pub projection-push_own : (events : List Event) (e : Event)
    → projection e.thread (events ++ e ∷ []) ≡ projection e.thread events ++ e ∷ []
projection-push_own events e = projection-at events [] e

-- an event of another thread doesn't change a projection
pub projection-push_other : (events : List Event) (e : Event) (thread : ℕ) → nat_eq e.thread thread ≡ false
    → projection thread (events ++ e ∷ []) ≡ projection thread events
projection-push_other events e thread other = filter-append (λ x. nat_eq x.thread thread) events (e ∷ []) ∙ rw other (append-nil (projection thread events))

-- one more event
pub ruleset one_event_more = (last_or-push, pending_in-push, projection-push_own, projection-push_other)

-- a thread above the greatest has no event
projection-above : (events : List Event) (thread : ℕ) → MAX_THREAD < thread → All (λ e. e.thread ≤ MAX_THREAD) events
    → projection thread events ≡ []
projection-above [] thread above within = refl
projection-above (e ∷ events) thread above within =
    let here = All-head (λ x. x.thread ≤ MAX_THREAD) e events within in
    let more = projection-above events thread above (All-tail (λ x. x.thread ≤ MAX_THREAD) e events within) in grind (arith, nat_tests, here, more)

pub pending_call-above : (events : List Event) (thread : ℕ) → MAX_THREAD < thread
    → All (λ e. e.thread ≤ MAX_THREAD) events → pending_call thread events ≡ None
pending_call-above events thread above within = ap pending_in (projection-above events thread above within)

-- the last event of a projection is of its thread
last_of_thread : (o : Option Event) (thread : ℕ) (events : List Event) (call : Event)
    → ((e : Event) → o ≡ Some e → e.thread ≡ thread)
    → last_or o (projection thread events) ≡ Some call → call.thread ≡ thread
last_of_thread o thread [] call own is = own call is
last_of_thread o thread (e ∷ events) call own is =
    by_test (nat_eq e.thread thread) refl (last_of_thread (Some e) thread events call) (last_of_thread o thread events call own)
  where
    by_test : (b : Bool) → nat_eq e.thread thread ≡ b
        → (((x : Event) → Some e ≡ Some x → x.thread ≡ thread)
        → last_or (Some e) (projection thread events) ≡ Some call → call.thread ≡ thread)
        → (last_or o (projection thread events) ≡ Some call → call.thread ≡ thread) → call.thread ≡ thread
    by_test true own_event from_here after_others = from_here (λ x is_e. grind (arith, nat_tests)) (rw own_event at is)
    by_test false other from_here after_others = after_others (rw other at is)

-- the pending call of a thread is of this thread
pending_of_thread : (thread : ℕ) (events : List Event) (call : Event) → pending_call thread events ≡ Some call
    → call.thread ≡ thread
pending_of_thread thread events call is = by_last (last_or None (projection thread events)) refl
  where
    by_last : (last : Option Event) → last_or None (projection thread events) ≡ last → call.thread ≡ thread
    by_last None is_none = let none = rw is_none at is in cc
    by_last (Some e) is_e = last_of_thread None thread events call (λ x none. cc) (grind (arith, common_steps))

-- the pending call with the least ticket, among the threads before this one
abbrev pub IsLeastBefore : List Event → ℕ → Option Event → Type 0
IsLeastBefore events n None = (k : ℕ) → k < n → pending_call k events ≡ None
IsLeastBefore events n (Some least) =
    ((k : ℕ) × (k < n) × (pending_call k events ≡ Some least))
    × ((k : ℕ) (call : Event) → k < n → pending_call k events ≡ Some call → least.ticket ≤ call.ticket)

-- the pending call with the least ticket, if there is one
pub least_pending : (events : List Event) (least : Option Event) → All (λ e. e.thread ≤ MAX_THREAD) events
    → IsLeastBefore events (MAX_THREAD + 1) least
    → MatchOption least (NothingPending events) (IsLeastPendingCall events)
least_pending events None within least = grind (arith, cases_lt, pending_call-above)
least_pending events (Some call) within least = grind (arith, cases_lt, pending_call-above, pending_of_thread)

-- ---- the turns of one thread

-- an event that is answered is a call
pub answered_is_call : (call answer : What) → answers call answer ≡ true → is_call call ≡ true
answered_is_call call answer h = grind arith

-- an event that answers is a return
pub answer_is_return : (call answer : What) → answers call answer ≡ true → is_call answer ≡ false
answer_is_return call answer h = grind arith

-- a call and its return don't change the pending call of the events after them
pending_in-pair : (call answer : Event) (rest : List Event) → is_call answer.what ≡ false
    → pending_in (call ∷ answer ∷ rest) ≡ pending_in rest
pending_in-pair call answer [] is = ap (λ b. then_some b answer) is
pending_in-pair call answer (e ∷ rest) is = refl

-- after complete turns no call is pending
pub nothing_after_turns : (events : List Event) → TakesTurns events → pending_in events ≡ None
nothing_after_turns [] turns = refl
nothing_after_turns (call ∷ []) turns = elim turns [ ]
nothing_after_turns (call ∷ answer ∷ rest) turns = pending_in-pair call answer rest (answer_is_return call.what answer.what turns.0)
    ∙ nothing_after_turns rest turns.1

-- each event of a list that takes turns fits
pub fits_in_turns : (before : List Event) (e : Event) (later : List Event) → TakesTurns (before ++ e ∷ later)
    → FitsTurn (pending_in before) e
fits_in_turns [] e [] turns = elim turns [ ]
fits_in_turns [] e (answer ∷ later) turns = answered_is_call e.what answer.what turns.0
fits_in_turns (call ∷ []) e later turns = let called : is_call call.what ≡ true = answered_is_call call.what e.what turns.0 in rw called turns.0
fits_in_turns (call ∷ answer ∷ before) e later turns =
    grind (arith, pending_in-pair, answer_is_return, fits_in_turns before e later turns.1)

-- turns after turns are turns
pub TakesTurns-append : (events later : List Event) → TakesTurns events → TakesTurns later
    → TakesTurns (events ++ later)
TakesTurns-append [] later turns more = more
TakesTurns-append (call ∷ []) later turns more = absurd turns
TakesTurns-append (call ∷ answer ∷ rest) later turns more = (turns.0, TakesTurns-append rest later turns.1 more)

-- a return of the call's kind
abbrev answer_to : What → What
answer_to (CallEnq v) = RetEnq
answer_to _ = RetEmpty

answers_it : (call : What) → is_call call ≡ true → answers call (answer_to call) ≡ true
answers_it call h = grind arith

-- calls and returns take turns, but a call at the end may be pending
abbrev pub TurnsSoFar : List Event → Type 0
TurnsSoFar events = MatchOption (pending_in events) (TakesTurns events) (λ call. (done : List Event) × (events ≡ done ++ call ∷ []) × TakesTurns done)

-- one more event in turn
pub turns_push : (events : List Event) (e : Event) → TurnsSoFar events → FitsTurn (pending_in events) e
    → TurnsSoFar (events ++ e ∷ [])
turns_push events e turns fits = join (pending_in events) turns fits
  where
    join : (pending : Option Event)
        → MatchOption pending (TakesTurns events)
        (λ call. (done : List Event) × (events ≡ done ++ call ∷ []) × TakesTurns done)
        → FitsTurn pending e → TurnsSoFar (events ++ e ∷ [])
    join None turns' fits' =
        let left : pending_in (events ++ e ∷ []) ≡ Some e = pending_in-push events e ∙ ap (λ b. then_some b e) fits' in
        rw left (events, refl, turns')
    join (Some call) (done, is, turns') fits' =
        let left : pending_in (events ++ e ∷ []) ≡ None = pending_in-push events e ∙ ap (λ b. then_some b e) (answer_is_return call.what e.what fits') in
        rw (left, is, append_assoc) (TakesTurns-append done (call ∷ e ∷ []) turns' (fits', tt))

-- the pending event is a call
call_waits : (call : Event) → then_some (is_call call.what) call ≡ Some call → is_call call.what ≡ true
call_waits call last = grind arith

-- with a return of the pending call, they take turns
pub finished : (events : List Event) → TurnsSoFar events → (more : List Event) × TakesTurns (events ++ more)
finished events turns = join (pending_in events) refl turns
  where
    join : (pending : Option Event) → pending_in events ≡ pending
        → MatchOption pending (TakesTurns events)
        (λ call. (done : List Event) × (events ≡ done ++ call ∷ []) × TakesTurns done)
        → (more : List Event) × TakesTurns (events ++ more)
    join None is done = ([], rw append-nil done)
    join (Some call) is (done, same, turns') =
        let last : then_some (is_call call.what) call ≡ Some call = sym (pending_in-push done call) ∙ ap pending_in (sym same) ∙ is in
        let answer : Event = record { ticket = 0; thread = 0; what = answer_to call.what } in
        (answer ∷ [], rw (same, append_assoc) (TakesTurns-append done (call ∷ answer ∷ []) turns' (answers_it call.what (call_waits call last), tt)))
