-- The machine after each kind of step.
use Rattle.std.proofs.Common.{◌≡◌, ℕ, ◌+◌, ◌<◌, ◌≤◌, min, Bool, true, false, cond, List, [], ◌∷◌, ◌++◌}
use Rattle.std.proofs.Common.{length, take, drop, set, get_or, Option, None}
use Rattle.std.proofs.Common.{Some, Result, Ok, Err, refl, sym, ap, ◌∙◌, subst, inl, inr, arith, ltb, leb}
use Rattle.std.proofs.lemmas.Bool.{false≢true, cases_eq, cases_lt, lt-leb, le-leb}
use Rattle.std.proofs.lemmas.List.{set-get_or, length-set, get_or-set_same, get_or-set_other}
use Rattle.std.proofs.lemmas.Option.{get_or_from_slice_get, slice_get_within, slice_get-get_or, slice_get_past}
use Rattle.std.proofs.lemmas.Option.{slice_get_read, same_Some}
use Rattle.std.specs.List.{slice_get, find}
use Rattle.std.specs.Option.{option_map}
use Rattle.event_records.specs.declared.kind.Kind.{Kind}
use Rattle.event_records.specs.declared.kind.Kind.TheVariants.{Enq, Deq}
use Rattle.event_records.specs.declared.event.Event.{Event}
use Rattle.recorder_core.specs.declared.step.Step.{Step}
use Rattle.recorder_core.specs.declared.step.Step.TheVariants.{AskEnq, AskDeq, Push, Effect, Say, Ret, Drain, Close}
use Rattle.event_records.specs.declared.kind.Answer.{Answer}
use Rattle.recorder_core.specs.declared.pending.Pending.{Pending}
use Rattle.recorder_core.specs.declared.pending.Request.{Request}
use Rattle.recorder_core.specs.declared.step.Done.{Done}
use Rattle.recorder_core.specs.declared.step.Done.TheVariants.{Ticket, Pushed, Answered, Drained, Closed as CloseDone}
use Rattle.recorder_core.specs.declared.step.StepRefused.{StepRefused}
use Rattle.recorder_core.specs.declared.step.StepRefused.TheVariants.{NoThread, Closed, Held, NothingHeld, RingFull}
use Rattle.recorder_core.specs.declared.step.StepRefused.TheVariants.{Pending as PendingRefused}
use Rattle.recorder_core.specs.declared.step.StepRefused.TheVariants.{NotPending, NoAnswer, AnswerTaken, WrongAnswer}
use Rattle.recorder_core.specs.declared.step.StepRefused.TheVariants.{Limit, Memory}
use Rattle.recorder_core.specs.Setting.{Setting}
use Rattle.recorder_core.specs.View.{ThreadView, MachineView}
use Rattle.recorder_core.specs.Inner.Seen.{seen, none_other, when_pushing, given_answer}
use Rattle.recorder_core.specs.Inner.Asked.{ask_of, asked_for, call_of, is_limited}
use Rattle.recorder_core.specs.Schedule.{refusal, accepted, done_of, asks, all_asks, answers, returns, pushes, in_ring}
use Rattle.recorder_core.specs.Schedule.{tickets, with_last, request}
use Rattle.event_records.specs.Question.{return_what}
use Rattle.recorder_core.specs.Schedule.{answered, effect_answer, queue, queue_answer, queue_after, is_closed}
use Rattle.recorder_core.specs.Schedule.{is_wrong, thread_of}
use Rattle.recorder_core.specs.After.{thread_after, IsLeftBy, IsReachable, attempt_at, is_memory}
use Rattle.recorder_core.specs.Inner.After.{TakesStep}
use Rattle.recorder_core.proofs.Runs.{MayAsk, may_ask, may_push, may_effect, may_say, may_return}
use Rattle.recorder_core.proofs.Counts.{Counted, counted}
use Rattle.recorder_core.proofs.Threads.{with_answer, other_thread, own_ask, own_push, own_effect, own_say, own_return}
use Rattle.recorder_core.proofs.Threads.{own_drain, own_close}
use Rattle.recorder_core.proofs.Threads.{answer_of_pending, seen_held, seen_none_held, seen_ring, seen_pending}
use Rattle.recorder_core.proofs.Threads.{seen_given}
use Rattle.recorder_core.proofs.Closing.{accepted_is, refused_is}

-- an element that was set is at its place
pub slice_get-set_same : {X : Type 0} (xs : List X) (i : ℕ) (x : X) → i < length xs → slice_get (set xs i x) i ≡ Some x
slice_get-set_same xs i x h =
    slice_get-get_or (set xs i x) i x (omega (arith, length-set xs i x, h)) ∙ ap Some (get_or-set_same xs i x x h)

-- the elements at other places stay
pub slice_get-set_other : {X : Type 0} (xs : List X) (i j : ℕ) (x : X) → (i ≡ j → ⊥)
    → slice_get (set xs i x) j ≡ slice_get xs j
slice_get-set_other xs i j x ne = elim (cases_lt j (length xs)) [
  | inl within ↦
      slice_get-get_or (set xs i x) j x (omega (arith, length-set xs i x, within))
      ∙ ap Some (get_or-set_other xs i j x x (λ e. ne (sym e)))
      ∙ sym (slice_get-get_or xs j x within)
  | inr past ↦
      slice_get_past (set xs i x) j (omega (arith, length-set xs i x, past)) ∙ sym (slice_get_past xs j past)
]

-- the thread at a place that was looked up
thread_at : (items : List ThreadView) (n i : ℕ) (thread : ThreadView) → n ≡ length items → (true ≡ true → i < n)
    → thread ≡ get_or items i thread
    → slice_get items i ≡ Some thread
thread_at items n i thread long found is = slice_get_read items n i thread long (found refl) is

-- the thread of a machine is in the state after the steps
pub thread_is : (setting : Setting) (old : MachineView) (before : List Step) (u : ℕ) (thread : ThreadView)
    → IsLeftBy setting old before
    → slice_get old.threads u ≡ Some thread → (u < setting.threads) × (thread ≡ thread_after setting u before)
thread_is setting old before u thread left is =
    let within : u < setting.threads = omega (arith, slice_get_within old.threads u thread is, left.threads) in
    (within, same_Some thread (thread_after setting u before) (sym is ∙ left.each u within))

-- one thread changed as by its step
pub put_thread : (setting : Setting) (old : MachineView) (before : List Step) (step : Step) (new : ThreadView)
    (asked next : ℕ) (items : List ℕ)
    → IsLeftBy setting old before → thread_of step < setting.threads → new ≡ thread_after setting (thread_of step) (step ∷ before)
    → asked ≡ all_asks (step ∷ before) → next ≡ tickets (step ∷ before) → items ≡ queue setting (step ∷ before)
    → IsLeftBy setting (record {
      capacity = old.capacity;
      threads = set old.threads (thread_of step) new;
      asked = asked;
      next_ticket =
          next;
      queue = items;
    }) (step ∷ before)
put_thread setting old before step new asked next items left within is a n q =
    let u = thread_of step in
    record {
      threads = length-set old.threads u new ∙ left.threads;
      capacity = left.capacity;
      each = λ t h. elim (cases_eq u t) [
        | inl same ↦
            let P : ℕ → Type 0 = λ v. slice_get (set old.threads u new) v ≡ Some (thread_after setting v (step ∷ before)) in
            subst P same (slice_get-set_same old.threads u new (omega (arith, left.threads, within)) ∙ ap Some is)
        | inr other ↦ slice_get-set_other old.threads u t new other ∙ left.each t h ∙ ap Some (sym (other_thread setting t step before other))
      ];
      asked = a;
      next_ticket = n;
      queue_is = q;
    }

-- the counts of all threads
abbrev pub AllCounted : Setting → List Step → Type 0
AllCounted setting before = (t : ℕ) → Counted setting t before

-- the effect of an accepted step
pub step_accepted : (old new : MachineView) (step : Step) (done : Done) → length new.threads ≡ length old.threads
    → ((setting : Setting) (before : List Step) → AllCounted setting before → IsLeftBy setting old before
    → (refusal setting before (record { step = step; starved = false }) ≡ None) × (done ≡ done_of setting step before)
    × IsLeftBy setting new (step ∷ before)) → TakesStep old step (Ok done) new
step_accepted old new step done same h = record {
  answered = λ setting schedule after.
      let f = h setting (accepted setting schedule) (λ t. counted setting t schedule) after in
      rw f.0 (ap Ok f.1);
  goes_on = λ setting schedule after.
      let f = h setting (accepted setting schedule) (λ t. counted setting t schedule) after in
      subst (IsLeftBy setting new) (sym (accepted_is setting schedule (record { step = step; starved = false }) f.0)) f.2;
  unchanged = tt;
  threads = same;
}

-- a refused step changes nothing
pub step_refused : (old new : MachineView) (step : Step) (r : StepRefused) → new ≡ old
    → ((setting : Setting) (before : List Step) → AllCounted setting before → IsLeftBy setting old before
    → refusal setting before (record { step = step; starved = is_memory r }) ≡ Some r) → TakesStep old step (Err r) new
step_refused old new step r same h = record {
  answered = λ setting schedule after.
      let f = h setting (accepted setting schedule) (λ t. counted setting t schedule) after in
      rw f refl;
  goes_on = λ setting schedule after.
      let f = h setting (accepted setting schedule) (λ t. counted setting t schedule) after in
      rw (refused_is setting schedule (record { step = step; starved = is_memory r }) r f, same) after;
  unchanged = same;
  threads = ap (λ (m : MachineView). length m.threads) same;
}

-- a step leads from a reachable machine to a reachable one
pub reachable_on : (old new : MachineView) (step : Step) (result : Result Done StepRefused)
    → TakesStep old step result new → IsReachable old → IsReachable new
reachable_on old new step result takes (setting, schedule, after) = (setting, attempt_at step result ∷ schedule, takes.goes_on setting schedule after)

-- a thread that is put back unchanged changes nothing
pub put_back : (old : MachineView) (i : ℕ) (thread new : ThreadView) → slice_get old.threads i ≡ Some thread
    → new ≡ thread
    → (let m : MachineView = record old { threads = set old.threads i new } in m) ≡ old
put_back old i thread new at kept =
    ap (λ (l : List ThreadView). let m : MachineView = record old { threads = l } in m)
    (ap (set old.threads i) (kept ∙ sym (get_or_from_slice_get old.threads i thread thread at)) ∙ set-get_or old.threads i thread)

abbrev request_of : Option Pending → Option Request
request_of None = None
request_of (Some pending) = Some pending.request

from_map : (a : Option Answer) (o : Option Request) (asked : Request) (b : Bool)
    → cond b (option_map (with_answer a) o) None ≡ Some (record { request = asked; answer = None }) → o ≡ Some asked
from_map a None asked true h = cc
from_map a (Some q) asked true h = ap request_of h
from_map a o asked false h = cc

-- ---- the refusals of each step, by the state of the thread

-- the first of two optional refusals
abbrev or_else : {X : Type 0} → Option X → Option X → Option X
or_else None o = o
or_else (Some x) o = Some x

three : {X : Type 0} (a b c : Bool) (x y z : X) (rest : Option X)
    → cond a (Some x) (cond b (Some y) (cond c (Some z) rest))
    ≡ or_else (cond a (Some x) (cond b (Some y) (cond c (Some z) None))) rest
three true b c x y z rest = refl
three false true c x y z rest = refl
three false false true x y z rest = refl
three false false false x y z rest = refl

module _ (setting : Setting) (u : ℕ) (before : List Step) (k : Counted setting u before)
    (within : u < setting.threads) (starved : Bool) where
  known : leb setting.threads u ≡ false
  known = lt-leb setting.threads u within

  refusal_ask : (kind : Kind) → refusal setting before (record { step = ask_of kind u; starved = starved })
      ≡ or_else (find (seen (thread_after setting u before) none_other) (Closed ∷ Held ∷ PendingRefused ∷ []))
      (cond (is_limited (asks u before) (all_asks before)) (Some Limit) None)
  refusal_ask Enq = rw (known, seen_held setting u before k, (seen_pending setting u before k).0)
      (three (is_closed u before) (ltb (pushes u before) (asks u before + returns u before))
      (ltb (returns u before) (asks u before)) Closed Held PendingRefused (cond (is_limited (asks u before) (all_asks before)) (Some Limit) None))
  refusal_ask Deq = rw (known, seen_held setting u before k, (seen_pending setting u before k).0)
      (three (is_closed u before) (ltb (pushes u before) (asks u before + returns u before))
      (ltb (returns u before) (asks u before)) Closed Held PendingRefused (cond (is_limited (asks u before) (all_asks before)) (Some Limit) None))

  refusal_push : (capacity : ℕ) → capacity ≡ setting.ring
      → refusal setting before (record { step = Push u; starved = starved })
      ≡ find (seen (thread_after setting u before) (when_pushing (leb capacity (length (thread_after setting u before).ring)) starved))
      (Closed ∷ NothingHeld ∷ RingFull ∷ Memory ∷ [])
  refusal_push capacity same = rw (known, seen_none_held setting u before k, seen_ring setting u before k, same) refl

  refusal_effect : refusal setting before (record { step = Effect u; starved = starved })
      ≡ or_else (find (seen (thread_after setting u before) none_other) (Closed ∷ NotPending ∷ AnswerTaken ∷ [])) (cond starved (Some Memory) None)
  refusal_effect = rw (known, (seen_pending setting u before k).1, (seen_given setting u before k).0)
      (three (is_closed u before) (leb (asks u before) (returns u before)) (ltb (returns u before) (answers u before)) Closed NotPending AnswerTaken
      (cond starved (Some Memory) None))

  refusal_say : (answer : Answer) → refusal setting before (record { step = Say u answer; starved = starved })
      ≡ or_else (find (seen (thread_after setting u before) none_other) (Closed ∷ NotPending ∷ AnswerTaken ∷ []))
      (cond (is_wrong answer (request u before)) (Some WrongAnswer) None)
  refusal_say answer = rw (known, (seen_pending setting u before k).1, (seen_given setting u before k).0)
      (three (is_closed u before) (leb (asks u before) (returns u before)) (ltb (returns u before) (answers u before)) Closed NotPending AnswerTaken
      (cond (is_wrong answer (request u before)) (Some WrongAnswer) None))

  refusal_return : refusal setting before (record { step = Ret u; starved = starved })
      ≡ find (seen (thread_after setting u before) none_other)
      (Closed ∷ Held ∷ NotPending ∷ NoAnswer ∷ [])
  refusal_return = rw (known, seen_held setting u before k, (seen_pending setting u before k).1, (seen_given setting u before k).1) refl

  refusal_drain : (n : ℕ) → refusal setting before (record { step = Drain u n; starved = starved })
      ≡ cond starved (Some Memory) None
  refusal_drain n = rw known refl

  refusal_close : refusal setting before (record { step = Close u; starved = starved })
      ≡ find (seen (thread_after setting u before) none_other)
      (Closed ∷ Held ∷ PendingRefused ∷ [])
  refusal_close = rw (known, seen_held setting u before k, (seen_pending setting u before k).0) refl

-- ---- what the schedule says, by the state of thread u

module _ (old : MachineView) (u : ℕ) (thread : ThreadView) (at : slice_get old.threads u ≡ Some thread) (setting : Setting) (before : List Step)
    (all : AllCounted setting before) (left : IsLeftBy setting old before) where
  shown : (u < setting.threads) × (thread ≡ thread_after setting u before)
  shown = thread_is setting old before u thread left at

  -- a function of the thread is a function of its state after the steps
  by_view : (f : ThreadView → Option StepRefused) (o : Option StepRefused) → o ≡ f thread
      → f (thread_after setting u before) ≡ o
  by_view f o is = ap f (sym shown.1) ∙ sym is

  says_ask : (kind : Kind) (starved : Bool) (o : Option StepRefused)
      → o ≡ find (seen thread none_other) (Closed ∷ Held ∷ PendingRefused ∷ []) →
      refusal setting before (record { step = ask_of kind u; starved = starved }) ≡ or_else o (cond (is_limited thread.asked old.asked) (Some Limit) None)
  says_ask kind starved o is =
      refusal_ask setting u before (all u) shown.0 starved kind
      ∙ ap (λ (x : Option StepRefused). or_else x (cond (is_limited (asks u before) (all_asks before)) (Some Limit) None))
      (by_view (λ x. find (seen x none_other) (Closed ∷ Held ∷ PendingRefused ∷ [])) o is)
      ∙ ap (λ (n : ℕ). or_else o (cond (is_limited (asks u before) n) (Some Limit) None)) (sym left.asked)
      ∙ ap (λ (x : ThreadView). or_else o (cond (is_limited x.asked old.asked) (Some Limit) None)) (sym shown.1)

  says_push : (starved : Bool) (o : Option StepRefused)
      → o ≡ find (seen thread (when_pushing (leb old.capacity (length thread.ring)) starved))
      (Closed ∷ NothingHeld ∷ RingFull ∷ Memory ∷ []) →
      refusal setting before (record { step = Push u; starved = starved }) ≡ o
  says_push starved o is =
      refusal_push setting u before (all u) shown.0 starved old.capacity left.capacity
      ∙ by_view (λ x. find (seen x (when_pushing (leb old.capacity (length x.ring)) starved)) (Closed ∷ NothingHeld ∷ RingFull ∷ Memory ∷ [])) o is

  says_effect : (starved : Bool) (o : Option StepRefused)
      → o ≡ find (seen thread none_other) (Closed ∷ NotPending ∷ AnswerTaken ∷ []) →
      refusal setting before (record { step = Effect u; starved = starved }) ≡ or_else o (cond starved (Some Memory) None)
  says_effect starved o is =
      refusal_effect setting u before (all u) shown.0 starved
      ∙ ap (λ (x : Option StepRefused). or_else x (cond starved (Some Memory) None))
      (by_view (λ x. find (seen x none_other) (Closed ∷ NotPending ∷ AnswerTaken ∷ [])) o is)

  says_say : (told : Answer) (starved : Bool) (o : Option StepRefused)
      → o ≡ find (seen thread none_other) (Closed ∷ NotPending ∷ AnswerTaken ∷ []) →
      refusal setting before (record { step = Say u told; starved = starved }) ≡ or_else o (cond (is_wrong told (request u before)) (Some WrongAnswer) None)
  says_say told starved o is =
      refusal_say setting u before (all u) shown.0 starved told
      ∙ ap (λ (x : Option StepRefused). or_else x (cond (is_wrong told (request u before)) (Some WrongAnswer) None))
      (by_view (λ x. find (seen x none_other) (Closed ∷ NotPending ∷ AnswerTaken ∷ [])) o is)

  says_return : (starved : Bool) (o : Option StepRefused)
      → o ≡ find (seen thread none_other) (Closed ∷ Held ∷ NotPending ∷ NoAnswer ∷ []) →
      refusal setting before (record { step = Ret u; starved = starved }) ≡ o
  says_return starved o is =
      refusal_return setting u before (all u) shown.0 starved
      ∙ by_view (λ x. find (seen x none_other) (Closed ∷ Held ∷ NotPending ∷ NoAnswer ∷ [])) o is

  says_drain : (n : ℕ) (starved : Bool)
      → refusal setting before (record { step = Drain u n; starved = starved }) ≡ cond starved (Some Memory) None
  says_drain n starved = refusal_drain setting u before (all u) shown.0 starved n

  says_close : (starved : Bool) (o : Option StepRefused)
      → o ≡ find (seen thread none_other) (Closed ∷ Held ∷ PendingRefused ∷ []) →
      refusal setting before (record { step = Close u; starved = starved }) ≡ o
  says_close starved o is =
      refusal_close setting u before (all u) shown.0 starved
      ∙ by_view (λ x. find (seen x none_other) (Closed ∷ Held ∷ PendingRefused ∷ [])) o is

  -- the request of the thread is the last one that it asked
  asked_is : (asked : Request) → thread.pending ≡ Some (record { request = asked; answer = None })
      → request u before ≡ Some asked
  asked_is asked is =
      from_map (cond (ltb (returns u before) (answers u before)) (answered setting u before) None) (request u before) asked
      (ltb (returns u before) (asks u before))
      (sym (ap (λ (x : ThreadView). x.pending) shown.1) ∙ is)

-- ---- asks, of either kind

may_ask_of : (setting : Setting) (before : List Step) (u : ℕ) (kind : Kind)
    → refusal setting before (record { step = ask_of kind u; starved = false }) ≡ None → MayAsk setting u before
may_ask_of setting before u Enq none = may_ask setting before u false none
may_ask_of setting before u Deq none = may_ask setting before u false none

done_ask : (setting : Setting) (before : List Step) (u : ℕ) (kind : Kind)
    → Ticket (tickets before) ≡ done_of setting (ask_of kind u) before
done_ask setting before u Enq = refl
done_ask setting before u Deq = refl

put_ask : (setting : Setting) (old : MachineView) (before : List Step) (u : ℕ) (kind : Kind) (new : ThreadView)
    → IsLeftBy setting old before
    → u < setting.threads → new ≡ thread_after setting u (ask_of kind u ∷ before) →
    IsLeftBy setting (record old { threads = set old.threads u new; asked = old.asked + 1; next_ticket = old.next_ticket + 1 }) (ask_of kind u ∷ before)
put_ask setting old before u Enq new left within is = put_thread setting old before (AskEnq u) new _ _ _ left within is (omega (arith, left.asked))
    (omega (arith, left.next_ticket)) left.queue_is
put_ask setting old before u Deq new left within is = put_thread setting old before (AskDeq u) new _ _ _ left within is (omega (arith, left.asked))
    (omega (arith, left.next_ticket)) left.queue_is

-- ---- the effect of each step on the thread

abbrev after_ask : ThreadView → Request → Event → ThreadView
after_ask thread asked call = record thread { asked = thread.asked + 1; pending = Some (record { request = asked; answer = None }); held = Some call }

abbrev after_answer : ThreadView → Request → Answer → ThreadView
after_answer thread asked answer = record thread { pending = Some (record { request = asked; answer = Some answer }) }

abbrev after_return : ThreadView → Event → ThreadView
after_return thread ret = record thread { pending = None; held = Some ret }

-- ---- the steps of a machine with this thread at place i, and that one afterwards

module _ (old : MachineView) (u i n : ℕ) (thread new : ThreadView) (same : i ≡ u) (long : n ≡ length old.threads) (found : true ≡ true → i < n)
    (item : thread ≡ get_or old.threads i thread) where
  at : slice_get old.threads u ≡ Some thread
  at = rw same at (thread_at old.threads n i thread long found item)

  -- an ask that isn't refused takes the next ticket, and its call event is held
  pub ask_taken : (kind : Kind) → None ≡ find (seen thread none_other) (Closed ∷ Held ∷ PendingRefused ∷ [])
      → is_limited thread.asked old.asked ≡ false →
      new ≡ after_ask thread (asked_for kind u thread.asked) (record { ticket = old.next_ticket; thread = u; what = call_of (asked_for kind u thread.asked) }) →
      TakesStep old (ask_of kind u) (Ok (Ticket old.next_ticket)) (record old
      { threads = set old.threads i new; asked = old.asked + 1; next_ticket = old.next_ticket + 1 })
  ask_taken kind is few changed = rw same (step_accepted old _ (ask_of kind u) (Ticket old.next_ticket) (length-set old.threads u new)
      (λ setting before all left.
      let none = says_ask old u thread at setting before all left kind false None is ∙ ap (λ (b : Bool). cond b (Some Limit) None) few in
      let f = thread_is setting old before u thread left at in
      let P : ThreadView → ℕ → ThreadView = λ x n. after_ask x (asked_for kind u x.asked)
      (record { ticket = n; thread = u; what = call_of (asked_for kind u x.asked) }) in
      let is' = changed ∙ ap (λ (x : ThreadView). P x old.next_ticket) f.1 ∙ ap (P (thread_after setting u before)) left.next_ticket
      ∙ sym (own_ask setting u before (all u) (may_ask_of setting before u kind none) kind) in
      (none, ap Ticket left.next_ticket ∙ done_ask setting before u kind, put_ask setting old before u kind new left f.0 is')))

  -- a push that isn't refused appends the held event to the ring
  pub push_taken : None ≡ find (seen thread (when_pushing (leb old.capacity (length thread.ring)) false))
      (Closed ∷ NothingHeld ∷ RingFull ∷ Memory ∷ []) →
      new ≡ record thread { held = None; ring = with_last thread.ring thread.held } →
      TakesStep old (Push u) (Ok Pushed) (record old { threads = set old.threads i new })
  push_taken is changed = rw same (step_accepted old _ (Push u) Pushed (length-set old.threads u new) (λ setting before all left.
      let none = says_push old u thread at setting before all left false None is in
      let f = thread_is setting old before u thread left at in
      let own = own_push setting u before (all u) (may_push setting before u false none) in
      let P : ThreadView → ThreadView = λ x. record x { held = None; ring = with_last x.ring x.held } in (
        none,
        refl,
        put_thread setting old before (Push u) new old.asked old.next_ticket old.queue left f.0
            (changed ∙ ap P f.1 ∙ sym own) left.asked left.next_ticket left.queue_is,
      )))

  -- an effect that isn't refused gives the queue's answer, and changes the queue
  pub effect_taken : (asked : Request) (answer : Answer) (items : List ℕ)
      → None ≡ find (seen thread none_other) (Closed ∷ NotPending ∷ AnswerTaken ∷ []) →
      thread.pending ≡ Some (record { request = asked; answer = None }) → answer ≡ queue_answer asked old.queue → items ≡ queue_after asked old.queue
      → new ≡ after_answer thread asked answer →
      TakesStep old (Effect u) (Ok (Answered answer)) (record old { threads = set old.threads i new; queue = items })
  effect_taken asked answer items is shows gives leaves changed =
      rw same (step_accepted old _ (Effect u) (Answered answer) (length-set old.threads u new) (λ setting before all left.
      let none = says_effect old u thread at setting before all left false None is in
      let f = thread_is setting old before u thread left at in
      let q = asked_is old u thread at setting before all left asked shows in
      let a : answer ≡ effect_answer setting u before = rw (q, ← left.queue_is) gives in
      let own = own_effect setting u before (all u) (may_effect setting before u false none) asked q in
      let is' = changed ∙ ap (λ (x : ThreadView). after_answer x asked answer) f.1 ∙ ap (after_answer (thread_after setting u before) asked) a ∙ sym own in (
        none,
        ap Answered a,
        put_thread setting old before (Effect u) new old.asked old.next_ticket items left f.0 is' left.asked left.next_ticket
            (rw (q, ← left.queue_is) leaves),
      )))

  -- an answer of the right kind that isn't refused is given, and leaves the queue
  pub say_taken : (asked : Request) (told : Answer)
      → None ≡ find (seen thread none_other) (Closed ∷ NotPending ∷ AnswerTaken ∷ []) →
      thread.pending ≡ Some (record { request = asked; answer = None }) → is_wrong told (Some asked) ≡ false → new ≡ after_answer thread asked told →
      TakesStep old (Say u told) (Ok (Answered told)) (record old { threads = set old.threads i new })
  say_taken asked told is shows right changed = rw same (step_accepted old _ (Say u told) (Answered told) (length-set old.threads u new)
      (λ setting before all left.
      let f = thread_is setting old before u thread left at in
      let q = asked_is old u thread at setting before all left asked shows in
      let none = says_say old u thread at setting before all left told false None is
      ∙ ap (λ (b : Bool). cond b (Some WrongAnswer) None) (ap (is_wrong told) q ∙ right) in
      let own = own_say setting u before (all u) (may_say setting before u told false none).0 asked told q in
      let is' = changed ∙ ap (λ (x : ThreadView). after_answer x asked told) f.1 ∙ sym own in
      (none, refl, put_thread setting old before (Say u told) new old.asked old.next_ticket old.queue left f.0 is' left.asked left.next_ticket left.queue_is)))

  -- a return that isn't refused takes the next ticket, and its event is held
  pub return_taken : (answer : Answer)
      → None ≡ find (seen thread none_other) (Closed ∷ Held ∷ NotPending ∷ NoAnswer ∷ [])
      → given_answer thread.pending ≡ Some answer →
      new ≡ after_return thread (record { ticket = old.next_ticket; thread = u; what = return_what answer }) →
      TakesStep old (Ret u) (Ok (Ticket old.next_ticket)) (record old { threads = set old.threads i new; next_ticket = old.next_ticket + 1 })
  return_taken answer is shows changed = rw same (step_accepted old _ (Ret u) (Ticket old.next_ticket) (length-set old.threads u new)
      (λ setting before all left.
      let none = says_return old u thread at setting before all left false None is in
      let f = thread_is setting old before u thread left at in
      let m = may_return setting before u false none in
      let a = answer_of_pending setting u before (all u) m answer (ap (λ (x : ThreadView). given_answer x.pending) (sym f.1) ∙ shows) in
      let P : ThreadView → ℕ → ThreadView = λ x n. after_return x (record { ticket = n; thread = u; what = return_what answer }) in
      let is' = changed ∙ ap (λ (x : ThreadView). P x old.next_ticket) f.1 ∙ ap (P (thread_after setting u before)) left.next_ticket
      ∙ sym (own_return setting u before (all u) m answer a) in (
        none,
        ap Ticket left.next_ticket,
        put_thread setting old before (Ret u) new old.asked _ old.queue left f.0 is' left.asked
            (omega (arith, left.next_ticket)) left.queue_is,
      )))

  -- a drain collects the first events of the ring, up to its number
  pub drain_taken : (n m : ℕ) → m ≡ min n (length thread.ring) → new
      ≡ record thread { ring = drop m thread.ring; collected = thread.collected ++ take m thread.ring } →
      TakesStep old (Drain u n) (Ok (Drained m)) (record old { threads = set old.threads i new })
  drain_taken n m count changed = rw same (step_accepted old _ (Drain u n) (Drained m) (length-set old.threads u new) (λ setting before all left.
      let f = thread_is setting old before u thread left at in
      let e : m ≡ min n (in_ring u before) = count ∙ ap (λ (x : ThreadView). min n (length x.ring)) f.1 ∙ ap (min n) (seen_ring setting u before (all u)) in
      let P : ThreadView → ℕ → ThreadView = λ x v. record x { ring = drop v x.ring; collected = x.collected ++ take v x.ring } in
      let is' = changed ∙ ap (λ (x : ThreadView). P x m) f.1 ∙ ap (P (thread_after setting u before)) e ∙ sym (own_drain setting u before (all u) n) in (
        says_drain old u thread at setting before all left n false,
        ap Drained e,
        put_thread setting old before
            (Drain u n) new old.asked old.next_ticket old.queue left f.0 is' left.asked left.next_ticket left.queue_is,
      )))

  -- a close that isn't refused closes the thread
  pub close_taken : None ≡ find (seen thread none_other) (Closed ∷ Held ∷ PendingRefused ∷ [])
      → new ≡ record thread { closed = true } →
      TakesStep old (Close u) (Ok CloseDone) (record old { threads = set old.threads i new })
  close_taken is changed = rw same (step_accepted old _ (Close u) CloseDone (length-set old.threads u new) (λ setting before all left.
      let f = thread_is setting old before u thread left at in
      let P : ThreadView → ThreadView = λ x. record x { closed = true } in
      let is' = changed ∙ ap P f.1 ∙ sym (own_close setting u before (all u)) in (
        says_close old u thread at setting before all left false None is,
        refl,
        put_thread setting old before
            (Close u) new old.asked old.next_ticket old.queue left f.0 is' left.asked left.next_ticket left.queue_is,
      )))

-- ---- refused steps

module _ (old : MachineView) (u i n : ℕ) (thread new : ThreadView) (same : i ≡ u) (long : n ≡ length old.threads) (found : true ≡ true → i < n)
    (item : thread ≡ get_or old.threads i thread) (kept : new ≡ thread) where
  refused_at : (step : Step) (r : StepRefused)
      → ((setting : Setting) (before : List Step) → AllCounted setting before → IsLeftBy setting old before
      → refusal setting before (record { step = step; starved = is_memory r }) ≡ Some r) →
      TakesStep old step (Err r) (record old { threads = set old.threads i new })
  refused_at step r h = step_refused old _ step r (put_back old i thread new (thread_at old.threads n i thread long found item) kept) h

  at_place : slice_get old.threads u ≡ Some thread
  at_place = rw same at (thread_at old.threads n i thread long found item)

  -- an ask that is refused changes nothing
  pub ask_refused : (kind : Kind) (r : StepRefused)
      → Some r ≡ find (seen thread none_other) (Closed ∷ Held ∷ PendingRefused ∷ [])
      → TakesStep old (ask_of kind u) (Err r) (record old { threads = set old.threads i new })
  ask_refused kind r is = refused_at (ask_of kind u) r (λ setting before all left. says_ask old u thread at_place setting before all left kind
      (is_memory r) (Some r) is)

  -- an ask beyond a limit changes nothing
  pub ask_limited : (kind : Kind) → None ≡ find (seen thread none_other) (Closed ∷ Held ∷ PendingRefused ∷ [])
      → is_limited thread.asked old.asked ≡ true
      → TakesStep old (ask_of kind u) (Err Limit) (record old { threads = set old.threads i new })
  ask_limited kind is many = refused_at (ask_of kind u) Limit (λ setting before all left. says_ask old u thread at_place setting before all left kind
      false None is ∙ ap (λ (b : Bool). cond b (Some Limit) None) many)

  -- a push that is refused changes nothing
  pub push_refused : (r : StepRefused)
      → Some r ≡ find (seen thread (when_pushing (leb old.capacity (length thread.ring)) (is_memory r)))
      (Closed ∷ NothingHeld ∷ RingFull ∷ Memory ∷ []) → TakesStep old (Push u) (Err r) (record old { threads = set old.threads i new })
  push_refused r is = refused_at (Push u) r (λ setting before all left. says_push old u thread at_place setting before all left (is_memory r) (Some r) is)

  -- an effect that is refused changes nothing
  pub effect_refused : (r : StepRefused)
      → Some r ≡ find (seen thread none_other) (Closed ∷ NotPending ∷ AnswerTaken ∷ [])
      → TakesStep old (Effect u) (Err r) (record old { threads = set old.threads i new })
  effect_refused r is = refused_at (Effect u) r (λ setting before all left. says_effect old u thread at_place setting before all left (is_memory r) (Some r) is)

  -- an effect without memory changes nothing
  pub effect_starved : None ≡ find (seen thread none_other) (Closed ∷ NotPending ∷ AnswerTaken ∷ [])
      → TakesStep old (Effect u) (Err Memory) (record old { threads = set old.threads i new })
  effect_starved is = refused_at (Effect u) Memory (λ setting before all left. says_effect old u thread at_place setting before all left true None is)

  -- an answer that is refused changes nothing
  pub say_refused : (told : Answer) (r : StepRefused)
      → Some r ≡ find (seen thread none_other) (Closed ∷ NotPending ∷ AnswerTaken ∷ [])
      → TakesStep old (Say u told) (Err r) (record old { threads = set old.threads i new })
  say_refused told r is = refused_at (Say u told) r (λ setting before all left. says_say old u thread at_place setting before all left told
      (is_memory r) (Some r) is)

  -- an answer of the other kind changes nothing
  pub say_wrong : (asked : Request) (told : Answer)
      → None ≡ find (seen thread none_other) (Closed ∷ NotPending ∷ AnswerTaken ∷ [])
      → thread.pending ≡ Some (record { request = asked; answer = None }) → is_wrong told (Some asked) ≡ true →
      TakesStep old (Say u told) (Err WrongAnswer) (record old { threads = set old.threads i new })
  say_wrong asked told is shows wrong = refused_at (Say u told) WrongAnswer (λ setting before all left.
      says_say old u thread at_place setting before all left told false None is
      ∙ ap (λ (b : Bool). cond b (Some WrongAnswer) None) (ap (is_wrong told) (asked_is old u thread at_place setting before all left asked shows) ∙ wrong))

  -- a return that is refused changes nothing
  pub return_refused : (r : StepRefused)
      → Some r ≡ find (seen thread none_other) (Closed ∷ Held ∷ NotPending ∷ NoAnswer ∷ [])
      → TakesStep old (Ret u) (Err r) (record old { threads = set old.threads i new })
  return_refused r is = refused_at (Ret u) r (λ setting before all left. says_return old u thread at_place setting before all left (is_memory r) (Some r) is)

  -- a close that is refused changes nothing
  pub close_refused : (r : StepRefused) → Some r ≡ find (seen thread none_other) (Closed ∷ Held ∷ PendingRefused ∷ [])
      → TakesStep old (Close u) (Err r) (record old { threads = set old.threads i new })
  close_refused r is = refused_at (Close u) r (λ setting before all left. says_close old u thread at_place setting before all left (is_memory r) (Some r) is)

-- a place that was looked up without success
pub past_end : (n i : ℕ) → (i < n → false ≡ true) → n ≤ i
past_end n i none = elim (cases_lt i n) [ inl within ↦ absurd (false≢true (none within)) | inr past ↦ past ]

-- an ask of a thread that doesn't exist
pub ask_unknown : (old : MachineView) (u : ℕ) (kind : Kind) → length old.threads ≤ u
    → TakesStep old (ask_of kind u) (Err NoThread) old
ask_unknown old u Enq h = step_refused old old (AskEnq u) NoThread refl
    (λ setting before all left. let e : leb setting.threads u ≡ true = le-leb _ _ (omega (arith, h, left.threads)) in rw e refl)
ask_unknown old u Deq h = step_refused old old (AskDeq u) NoThread refl
    (λ setting before all left. let e : leb setting.threads u ≡ true = le-leb _ _ (omega (arith, h, left.threads)) in rw e refl)
