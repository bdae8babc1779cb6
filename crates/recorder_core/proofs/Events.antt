-- The events of one thread, after any schedule.
use Rattle.std.proofs.Common.{◌≡◌, ℕ, suc, ◌+◌, ◌*◌, ◌<◌, ◌≤◌, Bool, true, false, List, [], ◌∷◌, ◌++◌}
use Rattle.std.proofs.Common.{length, Option, Some, None, refl}
use Rattle.std.proofs.Common.{◌∙◌, ap, subst, inl, inr, arith, append_assoc}
use Rattle.std.specs.Prelude.{All, slice_get}
use Rattle.std.proofs.lemmas.Bool.{cases_eq, ne_eqb}
use Rattle.std.proofs.lemmas.List.Elements.{All-nil, All-push, All-weaker}
use Rattle.std.proofs.lemmas.List.Quantifiers.{all_pairs_push}
use Rattle.event_records.specs.declared.event.Event.{Event}
use Rattle.event_records.specs.declared.event.What.{What}
use Rattle.event_records.specs.declared.event.What.TheVariants.{CallEnq}
use Rattle.event_records.specs.declared.kind.Kind.{Kind}
use Rattle.event_records.specs.declared.kind.Kind.TheVariants.{Enq, Deq}
use Rattle.event_records.specs.declared.limits.TheConstants.{MAX_THREAD_OPERATIONS}
use Rattle.event_records.specs.Question.{return_what, value_name}
use Rattle.event_records.specs.Turns.{TakesTurns, TicketsRise, answers as answers_call}
use Rattle.recorder_core.specs.declared.step.Step.{Step}
use Rattle.recorder_core.specs.declared.step.Step.TheVariants.{AskEnq, AskDeq, Push, Effect, Say, Ret, Drain, Close}
use Rattle.event_records.specs.declared.kind.Answer.{Answer}
use Rattle.event_records.specs.declared.kind.Answer.TheVariants.{Taken, Not, Got, Empty}
use Rattle.recorder_core.specs.declared.pending.Request.{Request}
use Rattle.recorder_core.specs.declared.pending.Request.TheVariants.{Enqueue, Dequeue}
use Rattle.recorder_core.specs.Inner.Asked.{asked_for, call_of}
use Rattle.recorder_core.specs.Setting.{Setting}
use Rattle.recorder_core.specs.Schedule.{Attempt, refusal, accepted, asks, answers, returns, tickets, request}
use Rattle.recorder_core.specs.Schedule.{answered, events, is_wrong}
use Rattle.recorder_core.specs.Schedule.{queue_answer, effect_answer, queue, thread_of}
use Rattle.recorder_core.proofs.Runs.{same_number, after_each, may_ask, may_effect, may_say, may_return}
use Rattle.recorder_core.proofs.Counts.{Counted, counts_none, counts_go_on}
use Rattle.recorder_core.proofs.Members.{Below}
use Rattle.history_merge.proofs.Lists.{with_one_more}

-- the answer is of the request's kind
abbrev pub Fits : Option Request → Option Answer → Type 0
Fits (Some asked) (Some answer) = is_wrong answer (Some asked) ≡ false
Fits _ _ = ⊥

-- the last event is the call of the request, and before it calls and returns take turns
pub record IsBusy (asked : Option Request) (events : List Event) : Type 0 where
  pub earlier : List Event
  pub call : Event
  pub request : Request
  pub events_are : events ≡ earlier ++ call ∷ []
  pub take_turns : TakesTurns earlier
  pub asked_is : asked ≡ Some request
  pub call_is : call.what ≡ call_of request

-- the events of t, after this many asks, answers and returns of t and this many tickets, with its last request and
-- its last answer
pub record AreEventsOf (t a n r next : ℕ) (asked : Option Request) (told : Option Answer)
    (events : List Event) : Type 0 where
  pub own : All (λ e. e.thread ≡ t) events
  pub below : All (λ e. e.ticket < next) events
  pub rise : TicketsRise events
  pub named : (k value : ℕ) (call : Event) → slice_get events (2 * k) ≡ Some call → call.what ≡ CallEnq value
      → value ≡ value_name t k
  pub idle : a ≡ r → TakesTurns events
  pub busy : r < a → IsBusy asked events
  pub fits : r < n → Fits asked told
  pub few : a ≤ MAX_THREAD_OPERATIONS

turns_push : (events : List Event) (call answer : Event) → TakesTurns events
    → answers_call call.what answer.what ≡ true
    → TakesTurns (events ++ call ∷ answer ∷ [])
turns_push [] call answer turns fit = (fit, tt)
turns_push (e ∷ []) call answer turns fit = absurd turns
turns_push (e ∷ f ∷ rest) call answer turns fit = (turns.0, turns_push rest call answer turns.1 fit)

-- a property of each answer of an operation's kind holds of each answer that isn't wrong
pub of_right_answers : (P : Request → Answer → Type 0) → ((v : ℕ) → P (Enqueue v) Taken)
    → ((v : ℕ) → P (Enqueue v) Not)
    → ((w : ℕ) → P Dequeue (Got w)) → P Dequeue Empty → (asked : Request) (answer : Answer)
    → is_wrong answer (Some asked) ≡ false → P asked answer
of_right_answers P taken refused got empty (Enqueue v) Taken right = taken v
of_right_answers P taken refused got empty (Enqueue v) Not right = refused v
of_right_answers P taken refused got empty (Enqueue v) (Got w) right = cc
of_right_answers P taken refused got empty (Enqueue v) Empty right = cc
of_right_answers P taken refused got empty Dequeue Taken right = cc
of_right_answers P taken refused got empty Dequeue Not right = cc
of_right_answers P taken refused got empty Dequeue (Got w) right = got w
of_right_answers P taken refused got empty Dequeue Empty right = empty

answer_fits : (asked : Request) (answer : Answer) → is_wrong answer (Some asked) ≡ false
    → answers_call (call_of asked) (return_what answer) ≡ true
answer_fits =
    of_right_answers (λ asked answer. answers_call (call_of asked) (return_what answer) ≡ true) (λ v. refl) (λ v. refl) (λ w. refl) refl

-- the queue's own answer is never wrong
pub queue_is_right : (asked : Request) (items : List ℕ) → is_wrong (queue_answer asked items) (Some asked) ≡ false
queue_is_right (Enqueue v) items = refl
queue_is_right Dequeue [] = refl
queue_is_right Dequeue (x ∷ items) = refl

name_of_ask : (kind : Kind) (t n value : ℕ) → call_of (asked_for kind t n) ≡ CallEnq value → value ≡ value_name t n
name_of_ask Enq t n value is = cc
name_of_ask Deq t n value is = cc

-- ---- the events after one more step

events_none : (t : ℕ) → AreEventsOf t 0 0 0 0 None None []
events_none t = record {
  own = All-nil (λ e. e.thread ≡ t);
  below = All-nil (λ e. e.ticket < 0);
  rise = λ i j d less within. absurd (omega arith);
  named = λ k value call at is. cc;
  idle = λ e. tt;
  busy = λ less. absurd (omega arith);
  fits = λ less. absurd (omega arith);
  few = omega arith;
}

module _ (t a n r next : ℕ) (asked : Option Request) (told : Option Answer) (list : List Event)
    (k : AreEventsOf t a n r next asked told list) where
  -- the same events, after other tickets were drawn and other answers given
  same_events : (n' next' : ℕ) (told' : Option Answer) → All (λ e. e.ticket < next') list → (r < n' → Fits asked told')
      → AreEventsOf t a n' r next' asked told' list
  same_events n' next' told' below fits =
      record { own = k.own; below = below; rise = k.rise; named = k.named; idle = k.idle; busy = k.busy; fits = fits; few = k.few }

  -- the same events, after steps of other threads took tickets
  events_later : (next' : ℕ) → next ≤ next' → AreEventsOf t a n r next' asked told list
  events_later next' h = same_events n next' told (All-weaker (λ e. e.ticket < next) (λ e. e.ticket < next') (λ e less. omega arith) list k.below) k.fits

  own_more : (what : What) → All (λ e. e.thread ≡ t) (list ++ record { ticket = next; thread = t; what = what } ∷ [])
  own_more what = All-push (λ e. e.thread ≡ t) list _ k.own refl

  below_more : (what : What)
      → All (λ e. e.ticket < suc next) (list ++ record { ticket = next; thread = t; what = what } ∷ [])
  below_more what = All-push (λ e. e.ticket < suc next) list _ (events_later (suc next) (omega arith)).below (omega arith)

  rise_more : (what : What) → TicketsRise (list ++ record { ticket = next; thread = t; what = what } ∷ [])
  rise_more what = all_pairs_push Below list _ k.rise (λ i d within. k.below i d within)

  events_asked : length list ≡ a + r → a ≤ r → n ≤ a → r ≤ a → a < MAX_THREAD_OPERATIONS → (kind : Kind)
      → AreEventsOf t (suc a) n r (suc next) (Some (asked_for kind t a)) told
      (list ++ record { ticket = next; thread = t; what = call_of (asked_for kind t a) } ∷ [])
  events_asked long none_pending answered_below returned_below few kind = record {
    own = own_more _;
    below = below_more _;
    rise = rise_more _;
    named = λ m value call at is. elim (with_one_more list _ call (2 * m) at) [
      | inl earlier ↦ k.named m value call earlier is
      | inr (last, same) ↦
          let number : m ≡ a = omega (arith, last, long) in
          rw number (name_of_ask kind t a value (ap (λ (e : Event). e.what) same ∙ is))
    ];
    idle = λ e. absurd (omega arith);
    busy = λ less. record {
      earlier = list;
      call = _;
      request = asked_for kind t a;
      events_are = refl;
      take_turns = k.idle (omega arith);
      asked_is = refl;
      call_is = refl;
    };
    fits = λ less. absurd (omega arith);
    few = few;
  }

  events_answered : (answer : Answer) → Fits asked (Some answer)
      → AreEventsOf t a (suc n) r next asked (Some answer) list
  events_answered answer right = same_events (suc n) next (Some answer) k.below (λ less. right)

  events_returned : length list ≡ a + r → a ≡ suc r → n ≤ a → (answer : Answer) → told ≡ Some answer → r < n
      → AreEventsOf t a n (suc r) (suc next) asked told
      (list ++ record { ticket = next; thread = t; what = return_what answer } ∷ [])
  events_returned long one_pending answered_below answer told_is has_answer =
      let b = k.busy (omega arith) in
      let right : is_wrong answer (Some b.request) ≡ false = rw (b.asked_is, told_is) at (k.fits has_answer) in
      let fit : answers_call b.call.what (return_what answer) ≡ true = rw b.call_is (answer_fits b.request answer right) in
      record {
        own = own_more _;
        below = below_more _;
        rise = rise_more _;
        named = λ m value call at is. elim (with_one_more list _ call (2 * m) at) [
          | inl earlier ↦ k.named m value call earlier is
          | inr (last, same) ↦ absurd (omega (arith, last, long, one_pending))
        ];
        idle = λ e. rw (b.events_are, append_assoc b.earlier (b.call ∷ []) (record { ticket = next; thread = t; what = return_what answer } ∷ []))
            (turns_push b.earlier b.call _ b.take_turns fit);
        busy = λ less. absurd (omega arith);
        fits = λ less. absurd (omega arith);
        few = k.few;
      }

-- ---- after any schedule

-- the events of a thread after these steps
abbrev pub Recorded : Setting → ℕ → List Step → Type 0
Recorded setting t steps = AreEventsOf t (asks t steps) (answers t steps) (returns t steps) (tickets steps) (request t steps)
    (answered setting t steps) (events setting t steps)

-- a step of another thread
other_events : (setting : Setting) (t : ℕ) (step : Step) (before : List Step) → (thread_of step ≡ t → ⊥)
    → Recorded setting t before
    → Recorded setting t (step ∷ before)
other_events setting t (AskEnq u) before ne k = rw (ne_eqb u t ne) (events_later _ _ _ _ _ _ _ _ k (suc (tickets before)) (omega arith))
other_events setting t (AskDeq u) before ne k = rw (ne_eqb u t ne) (events_later _ _ _ _ _ _ _ _ k (suc (tickets before)) (omega arith))
other_events setting t (Push u) before ne k = k
other_events setting t (Effect u) before ne k = rw (ne_eqb u t ne) k
other_events setting t (Say u answer) before ne k = rw (ne_eqb u t ne) k
other_events setting t (Ret u) before ne k = rw (ne_eqb u t ne) (events_later _ _ _ _ _ _ _ _ k (suc (tickets before)) (omega arith))
other_events setting t (Drain u n) before ne k = k
other_events setting t (Close u) before ne k = k

-- the request of the pending operation
pub asked_last : (setting : Setting) (t : ℕ) (before : List Step) → Recorded setting t before
    → returns t before < asks t before
    → (q : Request) × (request t before ≡ Some q)
asked_last setting t before k less = let b = k.busy less in (b.request, b.asked_is)

-- the answer of a thread that may return
pub told_last : (setting : Setting) (t : ℕ) (before : List Step) → Recorded setting t before
    → returns t before < answers t before
    → (a : Answer) × (answered setting t before ≡ Some a)
told_last setting t before k less = some_told (request t before) (answered setting t before) (k.fits less)
  where
    some_told : (q : Option Request) (o : Option Answer) → Fits q o → (a : Answer) × (o ≡ Some a)
    some_told None o f = absurd f
    some_told (Some q) None f = absurd f
    some_told (Some q) (Some a) f = (a, refl)

own_events : (setting : Setting) (step : Step) (starved : Bool) (before : List Step)
    → Counted setting (thread_of step) before
    → Recorded setting (thread_of step) before
    → refusal setting before (record { step = step; starved = starved }) ≡ None
    → Recorded setting (thread_of step) (step ∷ before)
own_events setting (AskEnq u) starved before c k none =
    let m = may_ask setting before u starved none in
    rw (same_number u) (events_asked _ _ _ _ _ _ _ _ k c.events_are m.none_pending c.answered_below (omega arith) m.thread_may Enq)
own_events setting (AskDeq u) starved before c k none =
    let m = may_ask setting before u starved none in
    rw (same_number u) (events_asked _ _ _ _ _ _ _ _ k c.events_are m.none_pending c.answered_below (omega arith) m.thread_may Deq)
own_events setting (Push u) starved before c k none = k
own_events setting (Effect u) starved before c k none =
    let m = may_effect setting before u starved none in
    let q = asked_last setting u before k m.one_pending in
    let right : Fits (request u before) (Some (effect_answer setting u before)) = rw q.1 (queue_is_right q.0 (queue setting before)) in
    rw (same_number u) (events_answered _ _ _ _ _ _ _ _ k (effect_answer setting u before) right)
own_events setting (Say u answer) starved before c k none =
    let m = may_say setting before u answer starved none in
    let q = asked_last setting u before k m.0.one_pending in
    let right : Fits (request u before) (Some answer) = rw q.1 (rw q.1 at m.1) in
    rw (same_number u) (events_answered _ _ _ _ _ _ _ _ k answer right)
own_events setting (Ret u) starved before c k none =
    let m = may_return setting before u starved none in
    let a = told_last setting u before k m.has_answer in
    rw (same_number u, a.1) (events_returned u (asks u before) (answers u before) (returns u before) (tickets before) (request u before) (Some a.0)
    (events setting u before) (rw a.1 at k) c.events_are (omega arith) c.answered_below a.0 refl m.has_answer)
own_events setting (Drain u n) starved before c k none = k
own_events setting (Close u) starved before c k none = k

-- the counts and the events of a thread
abbrev pub CountedAndRecorded : Setting → ℕ → List Step → Type 0
CountedAndRecorded setting t steps = Counted setting t steps × Recorded setting t steps

-- the counts and the events after one more step
pub recorded_goes_on : (setting : Setting) (t : ℕ) (before : List Step) (attempt : Attempt)
    → CountedAndRecorded setting t before
    → refusal setting before attempt ≡ None → CountedAndRecorded setting t (attempt.step ∷ before)
recorded_goes_on setting t before attempt k none = (
  counts_go_on setting t before attempt k.0 none,
  elim (cases_eq (thread_of attempt.step) t) [
    | inl same ↦
        let P : ℕ → Type 0 = λ v. Counted setting v before → Recorded setting v before → Recorded setting v (attempt.step ∷ before) in
        subst P same (λ c own. own_events setting attempt.step attempt.starved before c own none) k.0 k.1
    | inr other ↦ other_events setting t attempt.step before other k.1
  ],
)

-- the counts of a thread, and its events by them, after every schedule
pub recorded : (setting : Setting) (t : ℕ) (schedule : List Attempt)
    → CountedAndRecorded setting t (accepted setting schedule)
recorded setting t schedule = after_each setting (CountedAndRecorded setting t) (counts_none setting.ring, events_none t) (recorded_goes_on setting t) schedule
