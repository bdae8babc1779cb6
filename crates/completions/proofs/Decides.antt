-- The chosen completion decides.
use Rattle.std.proofs.Common.{◌≡◌, ◌≢◌, ℕ, zero, suc, ◌+◌, ◌-◌, ◌<◌, ◌≤◌, ◌⊎◌, ◌++◌, inl, inr, Bool}
use Rattle.std.proofs.Common.{true, false, not, List, [], ◌∷◌, length, map}
use Rattle.std.proofs.Common.{Option, Some, None, refl, ap, sym, subst, ◌∙◌, arith}
use Rattle.std.proofs.Common.{ap₂, get_or, take, drop}
use Rattle.std.specs.Prelude.{AllPairs, Contains, filter, filter_map, option_map, slice_get}
use Rattle.std.specs.List.{last_or}
use Rattle.std.proofs.lemmas.Bool.{cases_Bool}
use Rattle.std.proofs.lemmas.List.{append_assoc}
use Rattle.std.proofs.lemmas.List.Elements.{Contains-append_cases, Contains-append_left, Contains-append_right}
use Rattle.std.proofs.lemmas.List.Elements.{Contains-get_or}
use Rattle.std.proofs.lemmas.List.Kept.{AllPairs-filter}
use Rattle.std.proofs.lemmas.Option.{slice_get-map}
use Rattle.event_records.specs.declared.event.Event.{Event}
use Rattle.event_records.specs.declared.event.What.{What}
use Rattle.event_records.specs.declared.event.What.TheVariants.{CallEnq, CallDeq, RetEnq, RetNot, RetDeq, RetEmpty}
use Rattle.event_records.specs.declared.limits.TheConstants.{MAX_INITIAL, MAX_TICKET, ORIGIN}
use Rattle.event_records.specs.Turns.{answers, TicketsRise}
use Rattle.history_merge.specs.declared.operation.Operation.{Operation}
use Rattle.history_merge.specs.declared.operation.OpKind.{OpKind}
use Rattle.history_merge.specs.declared.operation.OpKind.TheVariants.{Enqueue, Dequeue, DequeueEmpty, EnqueueFailed}
use Rattle.history_merge.specs.Initial.{enqueues_from, initial_enqueues, later_by}
use Rattle.history_merge.specs.Inner.Timeline.{timeline}
use Rattle.history_merge.specs.Operations.{Did, kind_of, NoneDid, operation_of, operations_of}
use Rattle.history_merge.proofs.Distinct.{contains_at, contains_cons, cut_at, made_of, not_in_none, place_of, traced}
use Rattle.history_merge.proofs.Timelines.{timeline_is_complete}
use Rattle.verdicts.proofs.Exactly.{linearizable_without, violation_excludes_order}
use Rattle.completions.specs.declared.answers.Answer.{Answer}
use Rattle.completions.specs.Pending.{IsCompletion, IsDeciding, IsHistoryFrom, IsPendingCall}
use Rattle.completions.specs.Completed.{is_answered, answers_to, calls_dequeue, completed, enqueue_answer, is_given}
use Rattle.completions.specs.Completed.{is_left_out, left_values}
use Rattle.completions.specs.Completed.{next_ticket, paired, pending_calls, returns_from, is_pending}
use Rattle.completions.proofs.Followed.{keeping, last_above, last_in, last_of, last_of-append, one_by_ticket}
use Rattle.completions.proofs.Followed.{operations_keep, operations_made, pending_is_last}
use Rattle.completions.proofs.Completing.{completed_or_ended, same_operations}
use Rattle.completions.proofs.Whole.{after_last, test_of_pending, AreAnswers, below_next, is_answer, is_complete}
use Rattle.completions.proofs.Whole.{no_return, only_pending}
use Rattle.completions.proofs.Whole.{only_returns, pairs_across, pairs_made, pending_by_test, return_of}
use Rattle.completions.proofs.Whole.{returns-append, tickets_rise}
use Rattle.completions.proofs.Answering.{enqueue_answer_is, enqueue_answered, taken_rises, value_in, given_by}
use Rattle.completions.proofs.Answering.{given_value_is, left_are}
use Rattle.completions.proofs.Answering.{left_enqueues, OtherThread, paired_apart, paired_at, paired_from, taken_all}
use Rattle.completions.proofs.Answering.{taken_from, taken_in, value_of}
use Rattle.completions.proofs.Deciding.{Chosen, Completes, Ends, EnqueuesGiven, GivesLeft, NoViolation, ours_has_none}
use Rattle.completions.proofs.Whole.{and_false}
use Rattle.history_merge.proofs.Lists.{kept, keeps, mapped_from, mapped_to, passes_filter, passed_filter, pairs_append}
use Rattle.history_merge.proofs.Lists.{pairs_map}

-- ---- the timeline

-- an operation by time is an enqueue of an initial value, or an operation of the history at the times of its tickets
in_timeline : (initial : List ℕ) (operations : List Operation) (o : Operation)
    → Contains (timeline initial operations) o
    → Contains (initial_enqueues initial) o ⊎ ((p : Operation) × Contains operations p × (later_by ORIGIN p ≡ o))
in_timeline initial operations o among = elim (Contains-append_cases (initial_enqueues initial) (map (later_by ORIGIN) operations) o among) [
  | inl first ↦ inl first
  | inr later ↦ let p = mapped_from (later_by ORIGIN) operations o later in inr (p.0, p.1, p.2)
]

first_there : (initial : List ℕ) (operations : List Operation) (o : Operation) → Contains (initial_enqueues initial) o
    → Contains (timeline initial operations) o
first_there initial operations o among = Contains-append_left (initial_enqueues initial) (map (later_by ORIGIN) operations) o among

later_there : (initial : List ℕ) (operations : List Operation) (p : Operation) → Contains operations p
    → Contains (timeline initial operations) (later_by ORIGIN p)
later_there initial operations p among =
    Contains-append_right (initial_enqueues initial) (map (later_by ORIGIN) operations) (later_by ORIGIN p) (mapped_to (later_by ORIGIN) operations p among)

enqueue_in : (n : ℕ) (values : List ℕ) (o : Operation) → Contains (enqueues_from n values) o
    → ((v : ℕ) × (o.kind ≡ Enqueue v)) × (o.ret < n + length values)
enqueue_in n [] o among = absurd (not_in_none o among)
enqueue_in n (v ∷ values) o among =
    let first : Operation = record { call = n; ret = n; thread = 0; kind = Enqueue v } in
    elim (contains_cons first (enqueues_from (n + 1) values) o among) [
      | inl here ↦
          let ret : n ≡ o.ret = ap (λ (x : Operation). x.ret) here in
          ((v, sym (ap (λ (x : Operation). x.kind) here)), omega (arith, ret))
      | inr there ↦ let found = enqueue_in (n + 1) values o there in (found.0, omega (arith, found.1))
    ]

enqueues_rise : (n : ℕ) (values : List ℕ) → AllPairs (λ x y. x.ret < y.ret) (enqueues_from n values)
enqueues_rise n [] i j d below inside = absurd (omega arith)
enqueues_rise n (v ∷ values) zero zero d below inside = absurd (omega arith)
enqueues_rise n (v ∷ values) zero (suc j) d below inside =
    let least = all_from (n + 1) values j d (omega arith) in omega (arith, least)
  where
    all_from : (m : ℕ) (vs : List ℕ) (k : ℕ) (e : Operation) → k < length (enqueues_from m vs)
        → m ≤ (get_or (enqueues_from m vs) k e).ret
    all_from m [] k e within = absurd (omega arith)
    all_from m (w ∷ vs) zero e within = omega arith
    all_from m (w ∷ vs) (suc k) e within = let more = all_from (m + 1) vs k e (omega arith) in omega (arith, more)
enqueues_rise n (v ∷ values) (suc i) zero d below inside = absurd (omega arith)
enqueues_rise n (v ∷ values) (suc i) (suc j) d below inside = enqueues_rise (n + 1) values i j d (omega arith) (omega arith)

calls_dequeue_is : (e : Event) → calls_dequeue e ≡ true → e.what ≡ CallDeq
calls_dequeue_is e is = by_what e.what refl is
  where
    by_what : (w : What) → e.what ≡ w → (elim w [ CallDeq ↦ true | _ ↦ false ]) ≡ true → e.what ≡ CallDeq
    by_what CallDeq what test = what
    by_what (CallEnq v) what test = cc
    by_what RetEnq what test = cc
    by_what RetNot what test = cc
    by_what (RetDeq v) what test = cc
    by_what RetEmpty what test = cc

dequeue_is_called : (e : Event) → e.what ≡ CallDeq → calls_dequeue e ≡ true
dequeue_is_called e what = subst (λ (w : What). (elim w [ CallDeq ↦ true | _ ↦ false ]) ≡ true) (sym what) refl

module _ (initial : List ℕ) (events : List Event) (history : IsHistoryFrom initial events)
    (few_initial : length initial ≤ MAX_INITIAL) where
  -- a thread has one pending call
  same_pending : (c d : Event) → IsPendingCall events c → IsPendingCall events d → c.thread ≡ d.thread → c ≡ d
  same_pending c d is_c is_d same =
      let both : Some c ≡ Some d = sym (pending_is_last c.thread events c is_c).0 ∙ ap (λ t. last_of t events) same ∙ (pending_is_last d.thread events d is_d).0 in cc

  in_pending : (c : Event) → Contains (pending_calls events) c → Contains events c × IsPendingCall events c
  in_pending c among =
      let there = passed_filter (is_pending events) events c among in
      (there.0, pending_by_test initial events history c there.0 there.1)

  pending_apart : AllPairs OtherThread (pending_calls events)
  pending_apart i j d below inside same =
      let c = get_or (pending_calls events) i d in
      let e = get_or (pending_calls events) j d in
      let in_c = in_pending c (Contains-get_or (pending_calls events) i d (omega arith)) in
      let in_e = in_pending e (Contains-get_or (pending_calls events) j d inside) in
      let one = ap (λ (x : Event). x.ticket) (same_pending c e in_c.1 in_e.1 same) in
      let less = AllPairs-filter (λ x y. x.ticket < y.ticket) (is_pending events) events history.tickets_rise i j d below inside in
      omega (arith, one, less)

  abbrev answered : List Answer
  answered = answers_to initial events

  abbrev enqueue_answers : List Answer
  enqueue_answers = filter_map (enqueue_answer events) (pending_calls events)

  abbrev dequeue_calls : List Event
  dequeue_calls = filter calls_dequeue (pending_calls events)

  in_enqueue_answers : (a : Answer) → Contains enqueue_answers a
      → Contains events a.call × IsPendingCall events a.call
      × ((v : ℕ) × (a.call.what ≡ CallEnq v) × (is_given events v ≡ true) × (a.what ≡ RetEnq))
  in_enqueue_answers a among =
      let from = kept (enqueue_answer events) (pending_calls events) a among in
      let is = enqueue_answer_is events from.0 a from.2 in
      let there = in_pending from.0 from.1 in (
        subst (Contains events) (sym is.3) there.0,
        subst (IsPendingCall events) (sym is.3) there.1,
        (is.0, ap (λ (e : Event). e.what) is.3 ∙ is.1, is.2, is.4),
      )

  in_dequeue_answers : (a : Answer) → Contains (paired dequeue_calls (left_values initial events)) a
      → Contains events a.call × IsPendingCall events a.call × (a.call.what ≡ CallDeq)
      × ((i : ℕ) × (v : ℕ) × (slice_get dequeue_calls i ≡ Some a.call) × (slice_get (left_values initial events) i ≡ Some v) × (a.what ≡ RetDeq v))
  in_dequeue_answers a among =
      let from = paired_from dequeue_calls (left_values initial events) a among in
      let there = passed_filter calls_dequeue (pending_calls events) a.call (contains_at dequeue_calls from.0 a.call from.2) in
      let is = in_pending a.call there.0 in
      (is.0, is.1, calls_dequeue_is a.call there.1, from)

  are : AreAnswers initial events history answered
  are = record {
    pending = λ a among. elim (Contains-append_cases enqueue_answers (paired dequeue_calls (left_values initial events)) a among) [
      | inl first ↦ let is = in_enqueue_answers a first in (is.0, is.1)
      | inr second ↦ let is = in_dequeue_answers a second in (is.0, is.1)
    ];
    fits = λ a among. elim (Contains-append_cases enqueue_answers (paired dequeue_calls (left_values initial events)) a among) [
      | inl first ↦ let is = (in_enqueue_answers a first).2 in
          subst (λ (w : What). answers w a.what ≡ true) (sym is.1) (subst (λ (w : What). answers (CallEnq is.0) w ≡ true) (sym is.3) refl)
      | inr second ↦ let is = in_dequeue_answers a second in
          subst (λ (w : What). answers w a.what ≡ true) (sym is.2) (subst (λ (w : What). answers CallDeq w ≡ true) (sym is.3.4) refl)
    ];
    apart = pairs_append (λ (a b : Answer). a.call.thread ≢ b.call.thread) enqueue_answers (paired dequeue_calls (left_values initial events))
        (pairs_made OtherThread (λ (a b : Answer). a.call.thread ≢ b.call.thread) (enqueue_answer events) (pending_calls events)
        (λ x y a b is_a is_b other same.
        let a_is = enqueue_answer_is events x a is_a in
        let b_is = enqueue_answer_is events y b is_b in
        other (ap (λ (e : Event). e.thread) (sym a_is.3) ∙ same ∙ ap (λ (e : Event). e.thread) b_is.3))
        pending_apart)
        (paired_apart dequeue_calls (left_values initial events) (AllPairs-filter OtherThread calls_dequeue (pending_calls events) pending_apart))
        (λ a b in_a in_b same.
        let a_is = in_enqueue_answers a in_a in
        let b_is = in_dequeue_answers b in_b in
        let one = same_pending a.call b.call a_is.1 b_is.1 same in
        let clash : CallEnq a_is.2.0 ≡ CallDeq = sym a_is.2.1 ∙ ap (λ (e : Event). e.what) one ∙ b_is.2 in cc);
  }

  -- the completed operations of a history with pending calls, by time
  abbrev done : List Operation
  done = timeline initial (operations_of events)

  abbrev Enqueuing : ℕ → ℕ → Type 0
  Enqueuing time v = (call : Event) × Contains events call × IsPendingCall events call × (call.what ≡ CallEnq v) × (call.ticket + ORIGIN ≡ time)

  abbrev time_of_call : Event → ℕ
  time_of_call call = call.ticket + ORIGIN

  abbrev dequeuing : List ℕ
  dequeuing = map time_of_call dequeue_calls

  -- a pending dequeue is one of the pending dequeue calls
  dequeue_pends : (call : Event) → Contains events call → IsPendingCall events call → call.what ≡ CallDeq
      → Contains dequeue_calls call
  dequeue_pends call among pending what =
      passes_filter calls_dequeue (pending_calls events) call (dequeue_is_called call what)
      (passes_filter (is_pending events) events call (test_of_pending initial events history call pending) among)

  -- a pending call with any return ends
  ends : (call r : Event) (p : Operation) → Contains events call → IsPendingCall events call
      → operation_of call (Some r) ≡ Some p
      → Ends done Enqueuing dequeuing (later_by ORIGIN p)
  ends call r p among pending made =
      let of = made_of call (Some r) p made in
      by_call call.what of.0.what p.kind refl of.2.kind (ap (λ n. n + ORIGIN) of.2.called)
    where
      by_call : (w a : What) (k : OpKind) → call.what ≡ w → kind_of w a ≡ Some k
          → p.call + ORIGIN ≡ call.ticket + ORIGIN
          → ((v : ℕ) × Enqueuing (p.call + ORIGIN) v × ((k ≡ Enqueue v) ⊎ (k ≡ EnqueueFailed v)))
          ⊎ (Contains dequeuing (p.call + ORIGIN) × (((v : ℕ) × (k ≡ Dequeue v)) ⊎ (k ≡ DequeueEmpty)))
      by_call (CallEnq v) RetEnq k what is time = let e : Some (Enqueue v) ≡ Some k = is in inl (v, (call, among, pending, what, sym time), inl cc)
      by_call (CallEnq v) RetNot k what is time = let e : Some (EnqueueFailed v) ≡ Some k = is in inl (v, (call, among, pending, what, sym time), inr cc)
      by_call (CallEnq v) (RetDeq w) k what is time = cc
      by_call (CallEnq v) RetEmpty k what is time = cc
      by_call (CallEnq v) (CallEnq w) k what is time = cc
      by_call (CallEnq v) CallDeq k what is time = cc
      by_call CallDeq (RetDeq v) k what is time = let e : Some (Dequeue v) ≡ Some k = is in
          inr (subst (Contains dequeuing) (sym time) (mapped_to time_of_call dequeue_calls call (dequeue_pends call among pending what)), inl (v, cc))
      by_call CallDeq RetEmpty k what is time = let e : Some DequeueEmpty ≡ Some k = is in
          inr (subst (Contains dequeuing) (sym time) (mapped_to time_of_call dequeue_calls call (dequeue_pends call among pending what)), inr cc)
      by_call CallDeq (CallEnq w) k what is time = cc
      by_call CallDeq CallDeq k what is time = cc
      by_call CallDeq RetEnq k what is time = cc
      by_call CallDeq RetNot k what is time = cc
      by_call RetEnq a k what is time = cc
      by_call RetNot a k what is time = cc
      by_call (RetDeq w) a k what is time = cc
      by_call RetEmpty a k what is time = cc

  -- each completion completes these operations
  completes : (full : List Event) → IsCompletion initial events full
      → Completes done Enqueuing dequeuing (timeline initial (operations_of full))
  completes full completion = record {
    complete = timeline_is_complete initial full completion.is_complete few_initial;
    keeps = λ o among. elim (in_timeline initial (operations_of events) o among) [
      | inl first ↦ first_there initial (operations_of full) o first
      | inr (p, there, is) ↦ subst (Contains (timeline initial (operations_of full))) is (later_there initial (operations_of full) p
          (subst (λ (es : List Event). Contains (operations_of es) p) (sym completion.is)
          (operations_keep (keeping completion.leaves_out events) completion.returns p
          (subst (λ (os : List Operation). Contains os p) (sym (same_operations initial events history completion.leaves_out completion.only_pending)) there))))
    ];
    from = λ o among. elim (in_timeline initial (operations_of full) o among) [
      | inl first ↦ inl (first_there initial (operations_of events) o first)
      | inr (p, there, is) ↦ elim (completed_or_ended initial events history completion.leaves_out completion.only_pending completion.returns p
          (subst TicketsRise completion.is completion.is_complete.complete.tickets_rise) completion.only_returns
          (subst (λ (es : List Event). Contains (operations_of es) p) completion.is there)) [
            | inl old ↦ inl (subst (Contains done) is (later_there initial (operations_of events) p old))
            | inr (call, r, in_events, pending, in_returns, threads, made) ↦
                inr (subst (Ends done Enqueuing dequeuing) is (ends call r p in_events pending made))
          ]
    ];
  }

  module _ (few : next_ticket events + length answered ≤ MAX_TICKET + 1) where
    abbrev left_out : Event → Bool
    left_out e = is_left_out events answered e

    abbrev rets : List Event
    rets = returns_from (next_ticket events) answered

    abbrev ours : List Event
    ours = completed initial events

    -- an answered call stays the last of its thread
    last_of_answered : (a : Answer) → Contains answered a
        → last_of a.call.thread (keeping left_out events) ≡ Some a.call
    last_of_answered a among =
        let pending = are.pending a among in
        let gone : left_out a.call ≡ false = and_false (is_pending events a.call) (is_answered answered a.call) (is_answer initial events history answered are few a among) in
        let there : Contains (keeping left_out events) a.call = passes_filter (λ e. not (left_out e)) events a.call (ap not gone) pending.0 in
        let rise = AllPairs-filter (λ e f. e.ticket < f.ticket) (λ e. not (left_out e)) events history.tickets_rise in
        let l = last_above (keeping left_out events) a.call there rise in
        let in_l = last_in (keeping left_out events) a.call.thread l.0 l.1 in
        let l_events = (passed_filter (λ e. not (left_out e)) events l.0 in_l.0).0 in
        let m = last_above events l.0 l_events history.tickets_rise in
        let same : m.0 ≡ a.call =
        let both : Some m.0 ≡ Some a.call = sym m.1 ∙ ap (λ t. last_of t events) in_l.1 ∙ (pending_is_last a.call.thread events a.call pending.1).0 in cc in
        let tickets = ap (λ (e : Event). e.ticket) same in
        let one = one_by_ticket events l.0 a.call history.tickets_rise l_events pending.0 (omega (arith, l.2, m.2, tickets)) in
        l.1 ∙ ap (λ y. Some y) one

    -- the return of an answered call makes an operation
    answered_made : (a : Answer) (k : OpKind) → Contains answered a → kind_of a.call.what a.what ≡ Some k
        → (p : Operation) × Contains (operations_of ours) p × (p.call ≡ a.call.ticket) × (p.kind ≡ k)
    answered_made a k among kind =
        let at = place_of answered a among in
        by_parts (take at.0 answered) (drop (suc at.0) answered) (cut_at answered at.0 a at.1)
      where
        by_parts : (xs ys : List Answer) → answered ≡ xs ++ a ∷ ys
            → (p : Operation) × Contains (operations_of ours) p × (p.call ≡ a.call.ticket) × (p.kind ≡ k)
        by_parts xs ys is =
            let n = next_ticket events in
            let r : Event = record { ticket = n + length xs; thread = a.call.thread; what = a.what } in
            let p : Operation = record { call = a.call.ticket; ret = r.ticket; thread = a.call.thread; kind = k } in
            let apart : AllPairs (λ (a b : Answer). a.call.thread ≢ b.call.thread) (xs ++ a ∷ ys) =
            subst (AllPairs (λ (a b : Answer). a.call.thread ≢ b.call.thread)) is are.apart in
            let none : last_of a.call.thread (returns_from n xs) ≡ None = ap (last_or None) (no_return n a.call.thread xs (λ b in_b.
            pairs_across (λ (a b : Answer). a.call.thread ≢ b.call.thread) xs (a ∷ ys) b a apart in_b (zero, omega arith, refl))) in
            let last : last_of r.thread (keeping left_out events ++ returns_from n xs) ≡ Some a.call =
            last_of-append (keeping left_out events) (returns_from n xs) a.call.thread none ∙ last_of_answered a among in
            let made : operation_of a.call (Some r) ≡ Some p = rw (kind, operation_of) refl in
            let there = operations_made (keeping left_out events ++ returns_from n xs) r a.call p last made in
            let parts : ours ≡ ((keeping left_out events ++ returns_from n xs) ++ r ∷ []) ++ returns_from (n + length xs + 1) ys =
            ap (λ (es : List Event). keeping left_out events ++ es) (ap (returns_from n) is ∙ returns-append n xs (a ∷ ys))
            ∙ sym (append_assoc (keeping left_out events) (returns_from n xs) (r ∷ returns_from (n + length xs + 1) ys))
            ∙ sym (append_assoc (keeping left_out events ++ returns_from n xs) (r ∷ []) (returns_from (n + length xs + 1) ys)) in (
              p,
              subst (λ (es : List Event). Contains (operations_of es) p) (sym parts)
                  (operations_keep ((keeping left_out events ++ returns_from n xs) ++ r ∷ []) (returns_from (n + length xs + 1) ys) p there),
              refl,
              refl,
            )

    abbrev is_ours : IsCompletion initial events ours
    is_ours = record {
      leaves_out = left_out;
      returns = rets;
      only_pending = only_pending initial events history answered are few;
      only_returns = only_returns initial events history answered are few;
      after_last = after_last initial events history answered are few;
      is = refl;
      is_complete = is_complete initial events history answered are few;
    }

    abbrev last : ℕ
    last = next_ticket events + (ORIGIN - 1)

    -- ---- the values that are left

    abbrev left : List Operation
    left = left_enqueues initial events

    -- if a dequeue by time has this value, a dequeue gave it
    given_if_done : (d : Operation) (v : ℕ) → Did done d (Dequeue v) → is_given events v ≡ true
    given_if_done d v did = elim (in_timeline initial (operations_of events) d did.0) [
      | inl first ↦ let kind = (enqueue_in (ORIGIN - length initial) initial d first).0 in let clash : Enqueue kind.0 ≡ Dequeue v = sym kind.1 ∙ did.1 in cc
      | inr (q, there, is) ↦ given_value_is initial events history v q there (ap (λ (o : Operation). o.kind) is ∙ did.1)
    ]

    done_if_given : (v : ℕ) → is_given events v ≡ true → (d : Operation) × Did done d (Dequeue v)
    done_if_given v given =
        let q = given_by initial events history v given in
        (later_by ORIGIN q.0, (later_there initial (operations_of events) q.0 q.1, q.2))

    in_left : (x : Operation) → Contains left x → (v : ℕ) × Did done x (Enqueue v) × (is_given events v ≡ false)
    in_left x among =
        let there = passed_filter (λ o. not (is_given events (value_of o))) (initial_enqueues initial ++ map (later_by ORIGIN) (taken_from [] events)) x among in
        elim (Contains-append_cases (initial_enqueues initial) (map (later_by ORIGIN) (taken_from [] events)) x there.0) [
          | inl first ↦
              let kind = (enqueue_in (ORIGIN - length initial) initial x first).0 in
              (kind.0, (first_there initial (operations_of events) x first, kind.1), not_given x kind.0 kind.1 there.1)
          | inr later ↦
              let p = mapped_from (later_by ORIGIN) (taken_from [] events) x later in
              let taken = taken_in [] events p.0 p.1 in
              let kind : x.kind ≡ Enqueue taken.1.0 = ap (λ (o : Operation). o.kind) (sym p.2) ∙ taken.1.1 in
              (taken.1.0, (subst (Contains done) p.2 (later_there initial (operations_of events) p.0 taken.0), kind), not_given x taken.1.0 kind there.1)
        ]
      where
        false_of_not : (b : Bool) → not b ≡ true → b ≡ false
        false_of_not true is = cc
        false_of_not false is = refl

        not_given : (x : Operation) (v : ℕ) → x.kind ≡ Enqueue v → not (is_given events (value_of x)) ≡ true
            → is_given events v ≡ false
        not_given x v kind is = ap (is_given events) (sym (ap value_in kind)) ∙ false_of_not (is_given events (value_of x)) is

    none_dequeued : (v : ℕ) → is_given events v ≡ false → NoneDid done (Dequeue v)
    none_dequeued v not_given o among kind = let clash : true ≡ false = sym (given_if_done o v (among, kind)) ∙ not_given in cc

    left_value : (i v : ℕ) → slice_get (left_values initial events) i ≡ Some v
        → (x : Operation) × (slice_get left i ≡ Some x) × (x.kind ≡ Enqueue v)
    left_value i v at =
        let mapped : option_map value_of (slice_get left i) ≡ Some v =
        sym (slice_get-map value_of left i) ∙ ap (λ (vs : List ℕ). slice_get vs i) (left_are initial events) ∙ at in
        by_found (slice_get left i) refl mapped
      where
        by_found : (found : Option Operation) → slice_get left i ≡ found → option_map value_of found ≡ Some v
            → (x : Operation) × (slice_get left i ≡ Some x) × (x.kind ≡ Enqueue v)
        by_found None here is = cc
        by_found (Some x) here is =
            let known = in_left x (contains_at left i x here) in
            let same : value_of x ≡ v = let e : Some (value_of x) ≡ Some v = is in cc in
            let values : known.0 ≡ v = sym (ap value_in known.1.1) ∙ same in
            (x, here, known.1.1 ∙ ap (λ w. Enqueue w) values)

    value_left : (i v : ℕ) (x : Operation) → slice_get left i ≡ Some x → x.kind ≡ Enqueue v
        → slice_get (left_values initial events) i ≡ Some v
    value_left i v x at kind =
        ap (λ (vs : List ℕ). slice_get vs i) (sym (left_are initial events)) ∙ slice_get-map value_of left i
        ∙ ap (option_map value_of) at ∙ ap (λ w. Some w) (ap value_in kind)

    -- ---- the chosen completion

    -- an added return ends an enqueue of a given value, or a dequeue of a value that is left
    added : (call r : Event) (p : Operation) → Contains events call → IsPendingCall events call → Contains rets r
        → call.thread ≡ r.thread
        → operation_of call (Some r) ≡ Some p
        → (last < p.ret + ORIGIN)
        × (EnqueuesGiven done Enqueuing dequeuing (later_by ORIGIN p)
        ⊎ ((v : ℕ) × GivesLeft done Enqueuing dequeuing left (later_by ORIGIN p) v))
    added call r p among pending in_rets threads made =
        let found = return_of (next_ticket events) answered r in_rets in
        let one = same_pending call found.0.call pending (are.pending found.0 found.1).1 (threads ∙ found.2) in
        let of = made_of call (Some r) p made in
        let same : r ≡ of.0 = let s : Some r ≡ Some of.0 = of.1 in cc in
        let what : of.0.what ≡ found.0.what = ap (λ (e : Event). e.what) (sym same) ∙ found.3 in
        let called : call.what ≡ found.0.call.what = ap (λ (e : Event). e.what) one in
        let ret : p.ret ≡ r.ticket = of.2.returned ∙ ap (λ (e : Event). e.ticket) (sym same) in
        let time : p.call + ORIGIN ≡ call.ticket + ORIGIN = ap (λ n. n + ORIGIN) of.2.called in (
          omega (arith, ret, found.4),
          elim (Contains-append_cases enqueue_answers (paired dequeue_calls (left_values initial events)) found.0 found.1) [
            | inl first ↦
                let is = (in_enqueue_answers found.0 first).2 in
                let kind : Some (Enqueue is.0) ≡ Some p.kind =
                ap₂ kind_of (sym (called ∙ is.1)) (sym (what ∙ is.3)) ∙ of.2.kind in
                inl (is.0, (call, among, pending, called ∙ is.1, sym time), (let e : Enqueue is.0 ≡ p.kind = cc in sym e), done_if_given is.0 is.2)
            | inr second ↦
                let is = in_dequeue_answers found.0 second in
                let v = is.3.1 in
                let kind : Some (Dequeue is.3.1) ≡ Some p.kind = ap₂ kind_of (sym (called ∙ is.2)) (sym (what ∙ is.3.4)) ∙ of.2.kind in
                let x = left_value is.3.0 is.3.1 is.3.3 in
                let at_call : slice_get dequeuing is.3.0 ≡ Some (p.call + ORIGIN) =
                slice_get-map time_of_call dequeue_calls is.3.0 ∙ ap (option_map time_of_call) is.3.2
                ∙ ap (λ (n : ℕ). Some n) (ap time_of_call (sym one) ∙ sym time) in
                inr (is.3.1, (is.3.0, x.0, at_call, x.1, x.2, (let e : Dequeue is.3.1 ≡ p.kind = cc in sym e)))
          ],
        )

    returned_by_last : (o : Operation) → Contains done o → o.ret ≤ last
    returned_by_last o among = elim (in_timeline initial (operations_of events) o among) [
      | inl first ↦ let early = (enqueue_in (ORIGIN - length initial) initial o first).1 in omega (arith, early, few_initial)
      | inr (p, there, is) ↦
          let t = traced events p there in
          let below = below_next events t.answer history.tickets_rise (contains_at events t.returned_at t.answer t.at_return) in
          let ret = ap (λ (x : Operation). x.ret) is in
          omega (arith, below, t.made.returned, ret)
    ]

    later_rises : AllPairs (λ x y. x.ret < y.ret) (map (later_by ORIGIN) (taken_from [] events))
    later_rises = pairs_map (λ x y. x.ret < y.ret) (later_by ORIGIN) (taken_from [] events) (λ i j d below inside.
        let less = taken_rises [] events history.tickets_rise i j d below inside in omega (arith, less))

    chosen : Chosen done Enqueuing dequeuing left last (timeline initial (operations_of ours))
    chosen = record {
      complete = timeline_is_complete initial ours is_ours.is_complete few_initial;
      keeps = (completes ours is_ours).keeps;
      from = λ o among. elim (in_timeline initial (operations_of ours) o among) [
        | inl first ↦ inl (first_there initial (operations_of events) o first)
        | inr (p, there, is) ↦ elim (completed_or_ended initial events history left_out is_ours.only_pending rets p
            (tickets_rise initial events history answered are few) is_ours.only_returns there) [
              | inl old ↦ inl (subst (Contains done) is (later_there initial (operations_of events) p old))
              | inr (call, r, in_events, pending, in_rets, threads, made) ↦
                  inr (subst (λ (o : Operation). (last < o.ret)
                  × (EnqueuesGiven done Enqueuing dequeuing o ⊎ ((v : ℕ) × GivesLeft done Enqueuing dequeuing left o v))) is
                  (added call r p in_events pending in_rets threads made))
            ]
      ];
      has_enqueue = λ time v d enqueuing did.
          let c = enqueuing.0 in
          let a : Answer = record { call = enqueuing.0; what = RetEnq } in
          let answer = enqueue_answered events enqueuing.0 v enqueuing.3 (given_if_done d v did) in
          let in_pend = passes_filter (is_pending events) events enqueuing.0 (test_of_pending initial events history enqueuing.0 enqueuing.2) enqueuing.1 in
          let in_a = Contains-append_left enqueue_answers (paired dequeue_calls (left_values initial events)) (record { call = enqueuing.0; what = RetEnq })
          (keeps (enqueue_answer events) (pending_calls events) enqueuing.0 (record { call = enqueuing.0; what = RetEnq }) in_pend answer) in
          let p = answered_made (record { call = enqueuing.0; what = RetEnq }) (Enqueue v) in_a (ap (λ w. kind_of w RetEnq) enqueuing.3) in
          (later_by ORIGIN p.0, (later_there initial (operations_of ours) p.0 p.1, p.3), ap (λ n. n + ORIGIN) p.2 ∙ enqueuing.4);
      has_dequeue = λ i time v x at_call at_left is_x.
          let c = call_at i time at_call in
          let what = calls_dequeue_is c.0 (passed_filter calls_dequeue (pending_calls events) c.0 (contains_at dequeue_calls i c.0 c.1)).1 in
          let in_a = Contains-append_right enqueue_answers (paired dequeue_calls (left_values initial events)) (record { call = c.0; what = RetDeq v })
          (paired_at dequeue_calls (left_values initial events) i c.0 v c.1 (value_left i v x at_left is_x)) in
          let p = answered_made (record { call = c.0; what = RetDeq v }) (Dequeue v) in_a (ap (λ w. kind_of w (RetDeq v)) what) in
          (later_by ORIGIN p.0, (later_there initial (operations_of ours) p.0 p.1, p.3), ap (λ n. n + ORIGIN) p.2 ∙ c.2);
      returned = returned_by_last;
      enqueue_called = λ time v enqueuing.
          let below = below_next events enqueuing.0 history.tickets_rise enqueuing.1 in
          let at = enqueuing.4 in omega (arith, below, at);
      dequeue_called = λ time among.
          let c = mapped_from time_of_call dequeue_calls time among in
          let there = in_pending c.0 (passed_filter calls_dequeue (pending_calls events) c.0 c.1).0 in
          let below = below_next events c.0 history.tickets_rise there.0 in
          let at = c.2 in omega (arith, below, at);
      left_is = λ x among. let known = in_left x among in (known.0, known.1, none_dequeued known.0 known.2);
      left_has = λ x v did none. elim (cases_Bool (is_given events v)) [
        | inl given ↦ let d = done_if_given v given in absurd (none d.0 d.1.0 d.1.1)
        | inr not_given ↦
            passes_filter (λ o. not (is_given events (value_of o))) (initial_enqueues initial ++ map (later_by ORIGIN) (taken_from [] events)) x
            (ap (λ w. not (is_given events w)) (ap value_in did.1) ∙ ap not not_given)
            (elim (in_timeline initial (operations_of events) x did.0) [
              | inl first ↦ Contains-append_left (initial_enqueues initial) (map (later_by ORIGIN) (taken_from [] events)) x first
              | inr (p, there, is) ↦ elim (taken_all [] events p v there (ap (λ (o : Operation). o.kind) is ∙ did.1)) [
                | inl none_there ↦ absurd (not_in_none p none_there)
                | inr taken ↦ Contains-append_right (initial_enqueues initial) (map (later_by ORIGIN) (taken_from [] events)) x
                    (subst (Contains (map (later_by ORIGIN) (taken_from [] events))) is (mapped_to (later_by ORIGIN) (taken_from [] events) p taken))
              ]
            ])
      ];
      left_rises = AllPairs-filter (λ x y. x.ret < y.ret) (λ o. not (is_given events (value_of o))) (initial_enqueues initial ++ map (later_by ORIGIN) (taken_from [] events))
          (pairs_append (λ x y. x.ret < y.ret) (initial_enqueues initial) (map (later_by ORIGIN) (taken_from [] events))
          (enqueues_rise (ORIGIN - length initial) initial) later_rises
          (λ x y in_x in_y.
          let early = (enqueue_in (ORIGIN - length initial) initial x in_x).1 in
          let p = mapped_from (later_by ORIGIN) (taken_from [] events) y in_y in
          let ret = ap (λ (o : Operation). o.ret) p.2 in
          omega (arith, early, ret, few_initial)));
      calls_rise = pairs_map (λ c d. c < d) time_of_call dequeue_calls (λ i j d below inside.
          let less = AllPairs-filter (λ (e f : Event). e.ticket < f.ticket) calls_dequeue (pending_calls events)
          (AllPairs-filter (λ (e f : Event). e.ticket < f.ticket) (is_pending events) events history.tickets_rise) i j d below inside in
          omega (arith, less));
    }
      where
        call_at : (i time : ℕ) → slice_get dequeuing i ≡ Some time
            → (c : Event) × (slice_get dequeue_calls i ≡ Some c) × (time_of_call c ≡ time)
        call_at i time at = by_found (slice_get dequeue_calls i) refl (sym (slice_get-map time_of_call dequeue_calls i) ∙ at)
          where
            by_found : (found : Option Event) → slice_get dequeue_calls i ≡ found
                → option_map time_of_call found ≡ Some time
                → (c : Event) × (slice_get dequeue_calls i ≡ Some c) × (time_of_call c ≡ time)
            by_found None here is = cc
            by_found (Some c) here is = (c, here, (let e : Some (time_of_call c) ≡ Some time = is in cc))

    -- so the chosen completion decides
    pub decides : IsDeciding initial events ours
    decides = record {
      completion = is_ours;
      decides = λ some.
          let full = some.0 in
          let timed = completes full some.1 in
          let none : NoViolation (timeline initial (operations_of full)) = λ violation bad.
          violation_excludes_order initial (operations_of full) violation timed.complete bad some.2 in
          linearizable_without initial (operations_of ours) (timeline_is_complete initial ours is_ours.is_complete few_initial)
          (ours_has_none done Enqueuing dequeuing (timeline initial (operations_of full)) timed none (left_enqueues initial events) last
          (timeline initial (operations_of ours)) chosen);
    }
