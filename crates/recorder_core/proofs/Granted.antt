-- Steps that are accepted one after another.
use Rattle.std.proofs.Common.{◌≡◌, ℕ, ◌+◌, ◌<◌, ◌≤◌, false, ◌||◌, List, ◌∷◌, ◌++◌, map, None, refl, ◌∙◌, ap, subst}
use Rattle.std.proofs.Common.{arith, leb}
use Rattle.std.specs.Prelude.{All}
use Rattle.std.proofs.lemmas.Bool.{ne_eqb, lt-leb, le-ltb}
use Rattle.event_records.specs.declared.event.Event.{Event}
use Rattle.event_records.specs.declared.kind.Kind.{Kind}
use Rattle.event_records.specs.declared.kind.Kind.TheVariants.{Enq, Deq}
use Rattle.event_records.specs.declared.limits.TheConstants.{MAX_THREAD_OPERATIONS, MAX_OPERATIONS}
use Rattle.recorder_core.specs.declared.step.Step.{Step}
use Rattle.recorder_core.specs.declared.step.Step.TheVariants.{Push, Say, Ret, Drain, Close}
use Rattle.event_records.specs.declared.kind.Answer.{Answer}
use Rattle.recorder_core.specs.Inner.Asked.{ask_of}
use Rattle.recorder_core.specs.Setting.{Setting}
use Rattle.recorder_core.specs.Schedule.{Attempt, refusal, accepted, asks, all_asks, answers, returns, pushes, drained}
use Rattle.recorder_core.specs.Schedule.{events, request, is_closed, is_wrong}
use Rattle.recorder_core.proofs.Runs.{same_number, MayAsk, MayPush, MayAnswer, MayReturn, MayClose}
use Rattle.recorder_core.proofs.Closing.{accepted_is}
use Rattle.recorder_core.proofs.Events.{CountedAndRecorded, recorded}
use Rattle.recorder_core.proofs.Totals.{Added, added}

-- ---- steps that may come are not refused

-- an ask that may come is accepted
pub ask_granted : (setting : Setting) (u : ℕ) (before : List Step) (kind : Kind) → MayAsk setting u before
    → refusal setting before (record { step = ask_of kind u; starved = false }) ≡ None
ask_granted setting u before kind m = by_kind kind
  where
    limits : (leb MAX_THREAD_OPERATIONS (asks u before) || leb MAX_OPERATIONS (all_asks before)) ≡ false
    limits =
        let a : leb MAX_THREAD_OPERATIONS (asks u before) ≡ false = lt-leb _ _ m.thread_may in
        let b : leb MAX_OPERATIONS (all_asks before) ≡ false = lt-leb _ _ m.machine_may in
        rw (a, b) refl

    by_kind : (k : Kind) → refusal setting before (record { step = ask_of k u; starved = false }) ≡ None
    by_kind Enq = rw (lt-leb _ _ m.known, m.open_still, le-ltb _ _ m.none_held, le-ltb _ _ m.none_pending, limits) refl
    by_kind Deq = rw (lt-leb _ _ m.known, m.open_still, le-ltb _ _ m.none_held, le-ltb _ _ m.none_pending, limits) refl

-- a push that may come is accepted
pub push_granted : (setting : Setting) (u : ℕ) (before : List Step) → MayPush setting u before
    → refusal setting before (record { step = Push u; starved = false }) ≡ None
push_granted setting u before m = rw (lt-leb _ _ m.known, m.open_still, lt-leb _ _ m.one_held, lt-leb _ _ m.has_room) refl

-- an answer that may come is accepted
pub say_granted : (setting : Setting) (u : ℕ) (before : List Step) (answer : Answer) → MayAnswer setting u before
    → is_wrong answer (request u before) ≡ false
    → refusal setting before (record { step = Say u answer; starved = false }) ≡ None
say_granted setting u before answer m right =
    rw (lt-leb _ _ m.known, m.open_still, lt-leb _ _ m.one_pending, le-ltb _ _ m.no_answer, right) refl

-- a return that may come is accepted
pub return_granted : (setting : Setting) (u : ℕ) (before : List Step) → MayReturn setting u before
    → refusal setting before (record { step = Ret u; starved = false }) ≡ None
return_granted setting u before m =
    rw (lt-leb _ _ m.known, m.open_still, le-ltb _ _ m.none_held, lt-leb _ _ m.one_pending, lt-leb _ _ m.has_answer) refl

-- a drain is accepted
pub drain_granted : (setting : Setting) (u n : ℕ) (before : List Step) → u < setting.threads
    → refusal setting before (record { step = Drain u n; starved = false }) ≡ None
drain_granted setting u n before known = rw (lt-leb setting.threads u known) refl

-- a close that may come is accepted
pub close_granted : (setting : Setting) (u : ℕ) (before : List Step) → MayClose setting u before
    → refusal setting before (record { step = Close u; starved = false }) ≡ None
close_granted setting u before m = rw (lt-leb _ _ m.known, m.open_still, le-ltb _ _ m.none_held, le-ltb _ _ m.none_pending) refl

-- ---- lists of steps that are all accepted

-- a step with memory for it
abbrev pub granted_attempt : Step → Attempt
granted_attempt step = record { step = step; starved = false }

-- each of these steps is accepted, if memory doesn't run out
abbrev pub AllGranted : Setting → List Step → Type 0
AllGranted setting steps = accepted setting (map granted_attempt steps) ≡ steps

-- one more step is accepted
pub one_granted : (setting : Setting) (step : Step) (before : List Step) → AllGranted setting before
    → refusal setting before (granted_attempt step) ≡ None → AllGranted setting (step ∷ before)
one_granted setting step before all none =
    let none' : refusal setting (accepted setting (map granted_attempt before)) (granted_attempt step) ≡ None = rw all none in
    accepted_is setting (map granted_attempt before) (granted_attempt step) none' ∙ ap (λ (l : List Step). step ∷ l) all

-- the counts and events of a thread after accepted steps
pub granted_recorded : (setting : Setting) (t : ℕ) (steps : List Step) → AllGranted setting steps
    → CountedAndRecorded setting t steps
granted_recorded setting t steps all = subst (CountedAndRecorded setting t) all (recorded setting t (map granted_attempt steps))

-- the counts of all threads after accepted steps
pub granted_added : (setting : Setting) (steps : List Step) → AllGranted setting steps → Added setting steps
granted_added setting steps all = subst (Added setting) all (added setting (map granted_attempt steps))

-- ---- a thread whose events so far are collected

-- the first events of t's list are recorded, and collected but for those that are held; the others have this ticket
-- or later ones
pub record IsOnTurn (setting : Setting) (n t held : ℕ) (list : List Event) (steps : List Step) : Type 0 where
  pub still_open : is_closed t steps ≡ false
  pub pushed : pushes t steps + held ≡ asks t steps + returns t steps
  pub all_drained : drained t steps ≡ pushes t steps
  pub answered : answers t steps ≡ returns t steps
  pub rest : List Event
  pub list_is : list ≡ events setting t steps ++ rest
  pub later : All (λ e. n ≤ e.ticket) rest

-- a thread stays on turn through steps that don't change its counts and events
on_turn_still : (setting : Setting) (n t held : ℕ) (list : List Event) (before after : List Step)
    → is_closed t after ≡ is_closed t before
    → pushes t after ≡ pushes t before → asks t after ≡ asks t before → returns t after ≡ returns t before
    → drained t after ≡ drained t before
    → answers t after ≡ answers t before → events setting t after ≡ events setting t before
    → IsOnTurn setting n t held list before → IsOnTurn setting n t held list after
on_turn_still setting n t held list before after closed pushed asked returned drains answered happened k = record {
  still_open = closed ∙ k.still_open;
  pushed = rw (pushed, asked, returned) k.pushed;
  all_drained = rw (drains, pushed) k.all_drained;
  answered = rw (answered, returned) k.answered;
  rest = k.rest;
  list_is = rw happened k.list_is;
  later = k.later;
}

-- a push and a drain of one event
abbrev pub collect_one : ℕ → List Step → List Step
collect_one u before = Drain u 1 ∷ Push u ∷ before

-- one event of the thread on turn is collected
pub collected_own : (setting : Setting) (n u : ℕ) (list : List Event) (before : List Step)
    → IsOnTurn setting n u 1 list before
    → IsOnTurn setting n u 0 list (collect_one u before)
collected_own setting n u list before h = record {
  still_open = h.still_open;
  pushed = rw (same_number u) (omega (arith, h.pushed));
  all_drained = rw (same_number u) (omega (arith, h.all_drained));
  answered = h.answered;
  rest = h.rest;
  list_is = h.list_is;
  later = h.later;
}

-- nothing of another thread changes
pub collected_other : (setting : Setting) (n t u : ℕ) (list : List Event) (before : List Step) → (u ≡ t → ⊥)
    → IsOnTurn setting n t 0 list before
    → IsOnTurn setting n t 0 list (collect_one u before)
collected_other setting n t u list before other k =
    on_turn_still _ _ _ _ _ before _ refl (rw (ne_eqb u t other) refl) refl refl (rw (ne_eqb u t other) refl) refl refl k

-- the push and the drain are accepted
pub collected_granted : (setting : Setting) (n u : ℕ) (list : List Event) (before : List Step) → u < setting.threads
    → 1 ≤ setting.ring
    → IsOnTurn setting n u 1 list before → AllGranted setting before → AllGranted setting (collect_one u before)
collected_granted setting n u list before known room h all =
    let push = push_granted setting u before (record {
      known = known;
      open_still = h.still_open;
      one_held = omega (arith, h.pushed);
      has_room =
          omega (arith, h.all_drained);
    }) in
    one_granted setting (Drain u 1) (Push u ∷ before) (one_granted setting (Push u) before all push) (drain_granted setting u 1 (Push u ∷ before) known)

-- ---- an ask, and an answer with its return

-- an ask of another thread changes nothing
pub ask_other : (setting : Setting) (n t u : ℕ) (list : List Event) (before : List Step) (kind : Kind) → (u ≡ t → ⊥)
    → IsOnTurn setting n t 0 list before → IsOnTurn setting n t 0 list (ask_of kind u ∷ before)
ask_other setting n t u list before Enq other k =
    on_turn_still _ _ _ _ _ before _ refl refl (rw (ne_eqb u t other) refl) refl refl refl (rw (ne_eqb u t other) refl) k
ask_other setting n t u list before Deq other k =
    on_turn_still _ _ _ _ _ before _ refl refl (rw (ne_eqb u t other) refl) refl refl refl (rw (ne_eqb u t other) refl) k

-- an answer of another thread changes nothing
pub answer_other : (setting : Setting) (n t u : ℕ) (list : List Event) (before : List Step) (answer : Answer)
    → (u ≡ t → ⊥)
    → IsOnTurn setting n t 0 list before → IsOnTurn setting n t 0 list (Ret u ∷ Say u answer ∷ before)
answer_other setting n t u list before answer other k =
    on_turn_still _ _ _ _ _ before _ refl refl refl (rw (ne_eqb u t other) refl) refl (rw (ne_eqb u t other) refl) (rw (ne_eqb u t other) refl) k
