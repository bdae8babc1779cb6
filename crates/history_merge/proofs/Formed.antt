-- The operations of the events so far, and the state of a history builder, after one more event and at the end.
use Rattle.history_merge.proofs.Common.{[], All-push, answered, answers, answers_pending, ap, append-nil, append_assoc}
use Rattle.history_merge.proofs.Common.{arith, begun, breaks_ticket_order, called_by, called_value, calls_initial}
use Rattle.history_merge.proofs.Common.{CallWhilePending, cases_Bool, common_steps, cond, DuplicateValue, eqb_tells}
use Rattle.history_merge.proofs.Common.{Event, events_of, false, false≢true, fault_at, find-append, Forming, get_or}
use Rattle.history_merge.proofs.Common.{HasFormed, inl, inr, is_call, is_called_in, is_none, is_some, IsCompleteFrom}
use Rattle.history_merge.proofs.Common.{IsCompleteHistory, IsFormedOf, IsKept, IsRunOf, kind_of, le-ltb, length}
use Rattle.history_merge.proofs.Common.{length-set, List, MAX_EVENTS, MAX_THREAD, nat_eq, nat_tests, next_of, None}
use Rattle.history_merge.proofs.Common.{not, Operation, operation_of, operation_so_far, operations_of}
use Rattle.history_merge.proofs.Common.{operations_so_far, OpKind, Option, option_map, pending_call, projection, refl}
use Rattle.history_merge.proofs.Common.{repeats_value, RetEnq, ReturnWithoutCall, set, slice_get, Some}
use Rattle.history_merge.proofs.Common.{some_pair_parts, subst, suc, sym, TakesTurns, then_some, true, waiting}
use Rattle.history_merge.proofs.Common.{was_called, What, WrongReturn, ℕ, ◌++◌, ◌+◌, ◌||◌, ◌∙◌, ◌∷◌, ◌≡◌, ◌≤◌}
use Rattle.history_merge.proofs.TheirEvents.{run_of, told_of_run, call_so_far, next_is_first}
use Rattle.history_merge.proofs.Turns.{answer_is_return, one_event_more, projection-at}

-- ---- how one more event changes the operations of the events so far

-- an added event of another thread isn't the next one
next_other : (thread : ℕ) (events : List Event) (r : Event) → nat_eq r.thread thread ≡ false
    → next_of thread (events ++ r ∷ []) ≡ next_of thread events
next_other thread events r other = grind (arith, find-append (λ x. nat_eq x.thread thread) events (r ∷ []))

-- a thread has at most one next event
one_next : (events : List Event) (s t : ℕ) → s ≡ t → next_of s events ≡ next_of t events
one_next events s t same = ap (λ thread. next_of thread events) same

-- no call of a thread without an event waits
none_waits : (thread : ℕ) (events : List Event) → next_of thread events ≡ None → waiting thread events ≡ None
none_waits thread [] none = refl
none_waits thread (e ∷ later) none = grind (arith, none_waits thread later)

-- ---- one more call

-- a call adds its operation, if no call of its thread waits
pub formed_call : (events : List Event) (r : Event) → waiting r.thread events ≡ None → is_call r.what ≡ true
    → operations_so_far (events ++ r ∷ []) ≡ operations_so_far events ++ operation_so_far r None ∷ []
formed_call [] r none call = rw call refl
formed_call (e ∷ later) r none call = grind (arith, find-append, one_next, formed_call later r)

-- the added call waits at the end of the operations
pub waits_call : (events : List Event) (r : Event) → is_call r.what ≡ true
    → waiting r.thread (events ++ r ∷ []) ≡ Some (length (operations_so_far events), r)
waits_call [] r call = grind (arith, nat_tests)
waits_call (e ∷ later) r call = grind (arith, waits_call later r call)

-- ---- one more return

-- after a return no call of its thread waits
pub waits_answer : (events : List Event) (r : Event) → is_call r.what ≡ false
    → waiting r.thread (events ++ r ∷ []) ≡ None
waits_answer [] r call = grind (arith, nat_tests)
waits_answer (e ∷ later) r call = grind (arith, find-append, waits_answer later r call)

-- an event of another thread changes nothing
pub waits_other : (thread : ℕ) (events : List Event) (r : Event) → nat_eq r.thread thread ≡ false
    → waiting thread (events ++ r ∷ []) ≡ waiting thread events
waits_other thread [] r other = rw other refl
waits_other thread (e ∷ later) r other = grind (arith, waits_other thread later r other, next_other thread later r other)

-- a return of a thread without an event changes no operation
unanswered : (events : List Event) (r : Event) → next_of r.thread events ≡ None → is_call r.what ≡ false
    → operations_so_far (events ++ r ∷ []) ≡ operations_so_far events
unanswered [] r none call = rw call refl
unanswered (e ∷ later) r none call = grind (arith, find-append, unanswered later r)

-- if a call of the new event's thread waits, no thread's next event changes
kept_next : (e r : Event) (later : List Event) (w : ℕ × Event) → waiting r.thread later ≡ Some w
    → next_of e.thread (later ++ r ∷ []) ≡ next_of e.thread later
kept_next e r later w is = grind (arith, none_waits, one_next, find-append)

-- a return completes the operation of the call that waits
pub record IsAnswered (events : List Event) (r : Event) (place : ℕ) (call : Event) : Type 0 where
  pub operations : operations_so_far (events ++ r ∷ [])
      ≡ set (operations_so_far events) place (operation_so_far call (Some r))
  pub was : slice_get (operations_so_far events) place ≡ Some (operation_so_far call None)

-- a return answers the call that waits for it
pub formed_answer : (events : List Event) (r : Event) (place : ℕ) (call : Event)
    → waiting r.thread events ≡ Some (place, call)
    → is_call r.what ≡ false → IsAnswered events r place call
formed_answer [] r place call waits returns = cc
formed_answer (e ∷ later) r place call waits returns = join (waiting r.thread later) refl (formed_answer later r)
  where
    behind : (p : ℕ) (c : Event) → waiting r.thread later ≡ Some (p, c) → IsAnswered later r p c
        → IsAnswered (e ∷ later) r place call
    behind p c is done = elim (cases_Bool (is_call e.what)) [
      | inl calls ↦
          let parts = some_pair_parts (suc p) place c call (rw (is, calls) at waits) in
          let now = kept_next e r later (p, c) is in
          record { operations = rw (calls, ← parts.0, ← parts.1, now, done.operations) refl; was = rw (calls, ← parts.0, ← parts.1) done.was }
      | inr other ↦ grind (arith, some_pair_parts)
    ]

    join : (o : Option (ℕ × Event)) → waiting r.thread later ≡ o
        → ((p : ℕ) (c : Event) → waiting r.thread later ≡ Some (p, c) → is_call r.what ≡ false
        → IsAnswered later r p c)
        → IsAnswered (e ∷ later) r place call
    join (Some (p, c)) is more = behind p c is (more p c is returns)
    join None is more = record {
      operations = grind (arith, nat_tests, unanswered later r, one_next later r.thread e.thread, find-append (λ x. nat_eq x.thread e.thread) later (r ∷ []));
      was = grind (arith, nat_tests, one_next later r.thread e.thread);
    }

-- ---- values of the calls

-- the operations have the values that were called for
pub called_in_operations : (events : List Event) (v : ℕ)
    → was_called events v ≡ is_called_in (operations_so_far events) v
called_in_operations [] v = refl
called_in_operations (e ∷ later) v = grind (arith, called_in_operations later v)

-- ---- the state of the builder

waits_at : (o : Option (ℕ × Event)) (place : ℕ) → Some place ≡ option_map (λ found. found.0) o
    → (call : Event) × (o ≡ Some (place, call))
waits_at None place h = cc
waits_at (Some w) place h = (w.1, let same : w.0 ≡ place = cc in ap (λ n. Some (n, w.1)) same)

-- one more event, with the new place of its thread's pending call
formed_more : (events : List Event) (e : Event) (old new : Forming) (place : Option ℕ) → e.thread ≤ MAX_THREAD
    → HasFormed events old
    → new.timeline.operations ≡ operations_so_far (events ++ e ∷ []) → new.least_ticket ≡ e.ticket + 1
    → new.pending ≡ set old.pending e.thread place
    → place ≡ option_map (λ found. found.0) (waiting e.thread (events ++ e ∷ []))
    → option_map (λ found. found.1) (waiting e.thread (events ++ e ∷ [])) ≡ then_some (is_call e.what) e
    → HasFormed (events ++ e ∷ []) new
formed_more events e old new place below known operations last written own waits =
    grind (arith, nat_tests, common_steps, one_event_more, length-set, All-push, eqb_tells, waits_other)

-- one more call
pub formed_after_call : (events : List Event) (e : Event) (old new : Forming) → e.thread ≤ MAX_THREAD
    → is_call e.what ≡ true
    → pending_call e.thread events ≡ None → HasFormed events old
    → new.timeline.operations ≡ old.timeline.operations ++ operation_so_far e None ∷ []
    → new.least_ticket ≡ e.ticket + 1
    → new.pending ≡ set old.pending e.thread (Some (length old.timeline.operations)) → HasFormed (events ++ e ∷ []) new
formed_after_call events e old new below call none known added last placed =
    let nothing : waiting e.thread events ≡ None = grind (arith, known.waits e.thread ∙ none) in
    formed_more events e old new (Some (length old.timeline.operations)) below known
    (added ∙ ap (λ os. os ++ operation_so_far e None ∷ []) known.operations ∙ sym (formed_call events e nothing call)) last placed
    (rw (waits_call events e call) (ap (λ os. Some (length os)) known.operations))
    (ap (option_map (λ found. found.1)) (waits_call events e call) ∙ rw call refl)

-- a pending call: its place, its operation, and that it is completed by a return
pub record IsPendingAt (events : List Event) (thread : ℕ) (old : Forming) (place : ℕ) : Type 0 where
  pub call : Event
  pub pending : pending_call thread events ≡ Some call
  pub calls : is_call call.what ≡ true
  pub was : slice_get old.timeline.operations place ≡ Some (operation_so_far call None)
  pub answered : (e : Event) → e.thread ≡ thread → is_call e.what ≡ false
      → operations_so_far (events ++ e ∷ []) ≡ set old.timeline.operations place (operation_so_far call (Some e))

-- the place kept for a thread is that of its pending call
pub pending_at : (events : List Event) (thread : ℕ) (old : Forming) (place : ℕ) → thread ≤ MAX_THREAD
    → HasFormed events old
    → get_or old.pending thread None ≡ Some place → IsPendingAt events thread old place
pending_at events thread old place within known is =
    let found = waits_at (waiting thread events) place (sym is ∙ known.places thread within) in
    let call = found.0 in
    let done = λ (e : Event) (own : e.thread ≡ thread). formed_answer events e place call (subst (λ t. waiting t events ≡ Some (place, call)) (sym own) found.1) in
    let stands : slice_get old.timeline.operations place ≡ Some (operation_so_far call None) =
    rw known.operations (done (record { ticket = 0; thread = thread; what = RetEnq }) refl refl).was in
    grind arith

-- if no place is kept for a thread, it has no pending call
pub none_pending_at : (events : List Event) (thread : ℕ) (old : Forming) → thread ≤ MAX_THREAD → HasFormed events old
    → get_or old.pending thread None ≡ None → pending_call thread events ≡ None
none_pending_at events thread old within known is = grind arith

-- ---- judging a call and a return

-- a return calls for no value
pub no_value : (what : What) → is_call what ≡ false → called_value what ≡ None
no_value what h = grind arith

pub fault_of_call : (initial : List ℕ) (events : List Event) (place : ℕ) (e : Event)
    → breaks_ticket_order events e ≡ false → e.thread ≤ MAX_THREAD
    → is_call e.what ≡ true
    → fault_at initial events place e ≡ cond (is_some (pending_call e.thread events)) (Some (CallWhilePending place))
    (cond (repeats_value events e || calls_initial initial e) (Some (DuplicateValue place)) None)
fault_of_call initial events place e order below call = rw (order, le-ltb MAX_THREAD e.thread below, call) refl

fault_of_return : (initial : List ℕ) (events : List Event) (place : ℕ) (e : Event)
    → breaks_ticket_order events e ≡ false → e.thread ≤ MAX_THREAD
    → is_call e.what ≡ false
    → fault_at initial events place e ≡ cond (is_none (pending_call e.thread events)) (Some (ReturnWithoutCall place))
    (cond (not (answers_pending (pending_call e.thread events) e)) (Some (WrongReturn place)) None)
fault_of_return initial events place e order below returns = grind (arith, le-ltb, no_value)

kind_answered : (call answer : What) → answers call answer ≡ true
    → kind_of call answer ≡ Some (answered (begun call) answer)
kind_answered call answer h = grind arith

-- whether a return answers a call depends on the kind of their operation
kind_tells : (call answer : What) → answers call answer ≡ is_some (kind_of call answer)
kind_tells call answer = grind arith

-- a return that isn't of its call's kind has a fault
pub wrong_return : (initial : List ℕ) (events : List Event) (n : ℕ) (e : Event) (old : Forming) (place : ℕ)
    (o : Operation)
    → breaks_ticket_order events e ≡ false → e.thread ≤ MAX_THREAD → is_call e.what ≡ false → HasFormed events old
    → get_or old.pending e.thread None ≡ Some place → slice_get old.timeline.operations place ≡ Some o → kind_of (called_by o.kind) e.what ≡ None
    → fault_at initial events n e ≡ Some (WrongReturn n)
wrong_return initial events n e old place o order below returns known is found none =
    let at = pending_at events e.thread old place below known is in
    grind (arith, fault_of_return, kind_tells, call_so_far at.call None at.calls)

-- one more return, of its call's kind
pub formed_after_answer : (initial : List ℕ) (events : List Event) (n : ℕ) (e : Event) (old new : Forming) (place : ℕ)
    (o : Operation) (kind : OpKind)
    → breaks_ticket_order events e ≡ false → e.thread ≤ MAX_THREAD → is_call e.what ≡ false → HasFormed events old
    → get_or old.pending e.thread None ≡ Some place → slice_get old.timeline.operations place ≡ Some o → kind_of (called_by o.kind) e.what ≡ Some kind
    → new.timeline.operations ≡ set old.timeline.operations place (record o { ret = e.ticket; kind = kind }) → new.least_ticket ≡ e.ticket + 1
    → new.pending ≡ set old.pending e.thread None → HasFormed (events ++ e ∷ []) new × (fault_at initial events n e ≡ None)
formed_after_answer initial events n e old new place o kind order below returns known is found kind_is completed last cleared =
    let at = pending_at events e.thread old place below known is in
    let first = call_so_far at.call None at.calls in
    let none = waits_answer events e returns in
    let done = at.answered e refl returns in
    let kind' : kind ≡ answered (begun at.call.what) e.what = grind (arith, kind_answered at.call.what e.what, kind_tells at.call.what e.what) in
    grind (arith, formed_more events e old new None, fault_of_return, kind_tells)

-- ---- all events

-- in events of one thread that take turns, the return of a call follows it
next_in_turns : (before : List Event) (e : Event) (later : List Event) → TakesTurns (before ++ e ∷ later)
    → is_call e.what ≡ true
    → (a : Event) × (slice_get later 0 ≡ Some a) × (answers e.what a.what ≡ true)
next_in_turns [] e [] turns call = elim turns [ ]
next_in_turns [] e (a ∷ rest) turns call = (a, refl, turns.0)
next_in_turns (c ∷ []) e later turns call = absurd (false≢true (sym (answer_is_return c.what e.what turns.0) ∙ call))
next_in_turns (c ∷ a ∷ before) e later turns call = next_in_turns before e later turns.1 call

-- a return begins no operation
pub no_operation : (e : Event) (next : Option Event) → is_call e.what ≡ false → operation_of e next ≡ None
no_operation e next h = grind arith

operation_answered : (e answer : Event) → answers e.what answer.what ≡ true
    → operation_of e (Some answer) ≡ Some (operation_so_far e (Some answer))
operation_answered e answer h = grind arith

formed_from : (before later : List Event) → ((thread : ℕ) → TakesTurns (projection thread (before ++ later)))
    → operations_so_far later ≡ operations_of later
formed_from before [] turns = refl
formed_from before (e ∷ later) turns =
    let more = formed_from (before ++ e ∷ []) later (λ thread. rw append_assoc (turns thread)) in
    elim (cases_Bool (is_call e.what)) [
      | inr returns ↦ rw (returns, no_operation e (next_of e.thread later) returns) more
      | inl call ↦
          let own = subst TakesTurns (projection-at before later e) (turns e.thread) in
          let next = next_in_turns (projection e.thread before) e (projection e.thread later) own call in
          rw (call, next_is_first e.thread later ∙ next.1, operation_answered e next.0 next.2, more) refl
    ]

-- the operations of a complete history are all complete
pub all_formed : (events : List Event) → IsCompleteHistory events → operations_so_far events ≡ operations_of events
all_formed events complete = formed_from [] events complete.threads_take_turns

-- the events of a complete history are a run
pub run_of_complete : (events : List Event) → IsCompleteHistory events → IsRunOf events (operations_so_far events)
run_of_complete events complete = run_of events complete.tickets_rise complete.threads_in_range
    (λ thread. ([], rw append-nil (complete.threads_take_turns thread)))

-- the operations of a complete history determine its events
pub formed_of_complete : (events : List Event) (operations : List Operation) → IsCompleteHistory events
    → operations ≡ operations_so_far events
    → IsFormedOf events operations
formed_of_complete events operations complete so_far = assumption (
  so_far ∙ all_formed events complete,
  ap events_of so_far ∙ told_of_run events (operations_so_far events) (run_of_complete events complete),
)

-- a history keeps such operations
pub kept_of_formed : (initial : List ℕ) (events : List Event) (operations : List Operation)
    → IsFormedOf events operations
    → IsCompleteFrom initial events → length events ≤ MAX_EVENTS → IsKept initial operations
kept_of_formed initial events operations formed complete few = grind arith
