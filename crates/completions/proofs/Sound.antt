-- Events without a fault, except for pending calls, are a history.
use Rattle.std.proofs.Common.{◌≡◌, ℕ, suc, ◌+◌, ◌≤◌, ◌++◌, inl, inr, true, false, not, List, [], ◌∷◌, length, Option}
use Rattle.std.proofs.Common.{Some, None, refl, ap, sym, subst, ◌∙◌, arith, length-append}
use Rattle.std.specs.Prelude.{Contains, filter, filter_map, IfOk, IsErrAnd, OnOk, MatchOption, Result, Ok, Err}
use Rattle.std.specs.List.{last_or}
use Rattle.std.proofs.lemmas.List.{append-nil}
use Rattle.std.proofs.lemmas.Bool.{cases_Bool, cases_lt}
use Rattle.event_records.specs.declared.event.Event.{Event}
use Rattle.event_records.specs.declared.limits.TheConstants.{MAX_EVENTS, MAX_TICKET}
use Rattle.event_records.specs.Projection.{projection}
use Rattle.event_records.specs.Turns.{answers, is_call, TakesTurns}
use Rattle.history_merge.specs.Faults.{IsFirstFault}
use Rattle.history_merge.specs.Initial.{HistoryView, IsCompleteFrom}
use Rattle.history_merge.specs.declared.fault.HistoryFault.{HistoryFault}
use Rattle.history_merge.specs.declared.fault.HistoryFault.TheVariants.{Pending}
use Rattle.history_merge.proofs.Faults.{IsSound, nothing_pending_in_complete, sound_without_fault}
use Rattle.history_merge.proofs.Turns.{pending_in, TurnsSoFar}
use Rattle.completions.specs.Completed.{answers_to, calls_dequeue, completed, enqueue_answer, is_left_out, is_pending}
use Rattle.completions.specs.Completed.{left_values, next_ticket}
use Rattle.completions.specs.Completed.{paired, pending_calls, returns_from}
use Rattle.completions.specs.declared.answers.Answer.{Answer}
use Rattle.completions.specs.Faults.{IsBeyondLimits, MayBePending}
use Rattle.completions.specs.Pending.{IsHistoryFrom, TakesTurnsSoFar}
use Rattle.completions.proofs.Whole.{filter_all, filter_none, pending_by_test}

-- ---- turns so far

whole_turns : (xs : List Event) → TakesTurns xs → TakesTurnsSoFar xs
whole_turns [] turns = tt
whole_turns (call ∷ []) turns = absurd turns
whole_turns (call ∷ answer ∷ rest) turns = (turns.0, whole_turns rest turns.1)

turns_with_call : (done : List Event) (call : Event) → TakesTurns done → is_call call.what ≡ true
    → TakesTurnsSoFar (done ++ call ∷ [])
turns_with_call [] call turns waits = waits
turns_with_call (x ∷ []) call turns waits = absurd turns
turns_with_call (x ∷ answer ∷ rest) call turns waits = (turns.0, turns_with_call rest call turns.1 waits)

turns_so_far : (xs : List Event) → TurnsSoFar xs → TakesTurnsSoFar xs
turns_so_far xs turns = by_pending (pending_in xs) refl turns
  where
    waiting : (o : Option Event) (c : Event)
        → Rattle.std.specs.Option.option_and_then (λ e. Rattle.std.specs.Bool.then_some (is_call e.what) e) o ≡ Some c
        → is_call c.what ≡ true
    waiting None c is = cc
    waiting (Some e) c is = elim (cases_Bool (is_call e.what)) [
      | inl call ↦ let same : Some e ≡ Some c = rw call at is in let one : e ≡ c = cc in subst (λ (x : Event). is_call x.what ≡ true) one call
      | inr other ↦ let clash : None ≡ Some c = rw other at is in cc
    ]

    by_pending : (p : Option Event) → pending_in xs ≡ p
        → MatchOption p (TakesTurns xs) (λ call. (done : List Event) × (xs ≡ done ++ call ∷ []) × TakesTurns done)
        → TakesTurnsSoFar xs
    by_pending None is whole = whole_turns xs whole
    by_pending (Some call) is (done, parts, whole) =
        subst TakesTurnsSoFar (sym parts) (turns_with_call done call whole (waiting (last_or None xs) call is))

sound_is_history : (initial : List ℕ) (events : List Event) → IsSound initial events → IsHistoryFrom initial events
sound_is_history initial events sound = record {
  tickets_rise = sound.tickets_rise;
  tickets_in_range = sound.tickets_in_range;
  threads_in_range = sound.threads_in_range;
  threads_take_turns = λ thread. turns_so_far (projection thread events) (sound.turns thread);
  values_are_distinct = sound.values_are_distinct;
}

complete_is_history : (initial : List ℕ) (events : List Event) → IsCompleteFrom initial events
    → IsHistoryFrom initial events
complete_is_history initial events whole = record {
  tickets_rise = whole.complete.tickets_rise;
  tickets_in_range = whole.complete.tickets_in_range;
  threads_in_range = whole.complete.threads_in_range;
  threads_take_turns = λ thread. whole_turns (projection thread events) (whole.complete.threads_take_turns thread);
  values_are_distinct = whole.values_are_distinct;
}

-- ---- events without a fault

-- events that a history builder accepts, except for pending calls, are a history
pending_is_history : (initial : List ℕ) (events : List Event) (ticket : ℕ)
    → IsFirstFault initial events (Pending ticket) → IsHistoryFrom initial events
pending_is_history initial events ticket (distinct, none, least) =
    sound_is_history initial events (sound_without_fault initial events distinct none)

-- ---- a complete history is unchanged

none_pending : (initial : List ℕ) (events : List Event) → IsCompleteFrom initial events → (e : Event)
    → Contains events e → is_pending events e ≡ false
none_pending initial events whole e among = elim (cases_Bool (is_pending events e)) [
  | inr other ↦ other
  | inl pending ↦
      let is = pending_by_test initial events (complete_is_history initial events whole) e among pending in
      let none = nothing_pending_in_complete events whole.complete e.thread in
      let clash : None ≡ Some e = sym none ∙ is in cc
]

pub complete_stays : (initial : List ℕ) (events : List Event) → IsCompleteFrom initial events
    → completed initial events ≡ events
complete_stays initial events whole =
    let none : pending_calls events ≡ [] = filter_none (is_pending events) events (none_pending initial events whole) in
    let no_answers : answers_to initial events ≡ [] =
    ap (λ (calls : List Event). filter_map (enqueue_answer events) calls ++ paired (filter calls_dequeue calls) (left_values initial events)) none in
    let stay : filter (λ e. not (is_left_out events (answers_to initial events) e)) events ≡ events =
    filter_all (λ e. not (is_left_out events (answers_to initial events) e)) events (λ e among. rw (none_pending initial events whole e among) refl) in
    ap (λ (es : List Event). es ++ returns_from (next_ticket events) (answers_to initial events)) stay
    ∙ ap (λ (l : List Answer). events ++ returns_from (next_ticket events) l) no_answers ∙ append-nil events

-- ---- the length of the completion

length_returns : (n : ℕ) (answers : List Answer) → length (returns_from n answers) ≡ length answers
length_returns n [] = refl
length_returns n (a ∷ answers) = ap (λ m. suc m) (length_returns (n + 1) answers)

pub length_completed : (initial : List ℕ) (events : List Event)
    → length (completed initial events)
    ≡ length (filter (λ e. not (is_left_out events (answers_to initial events) e)) events) + length (answers_to initial events)
length_completed initial events =
    let parts = length-append (filter (λ e. not (is_left_out events (answers_to initial events) e)) events) (returns_from (next_ticket events) (answers_to initial events)) in
    let rets = length_returns (next_ticket events) (answers_to initial events) in
    omega (arith, parts, rets)

-- a property of a result's value follows from another
pub when_ok : {T E : Type 0} (r : Result T E) (P Q : T → Type 0) → ((x : T) → P x → Q x) → IfOk r P → IfOk r Q
when_ok (Ok x) P Q each is = each x is
when_ok (Err e) P Q each is = is

-- a completion that isn't beyond the limits has tickets and events within them
pub within_limits : (initial : List ℕ) (events : List Event) → ¬ (IsBeyondLimits initial events)
    → (length (completed initial events) ≤ MAX_EVENTS)
    × (next_ticket events + length (answers_to initial events) ≤ MAX_TICKET + 1)
within_limits initial events within = (
  elim (cases_lt MAX_EVENTS (length (completed initial events))) [ inl more ↦ absurd (within (inl more)) | inr few ↦ few ],
  elim (cases_lt (MAX_TICKET + 1) (next_ticket events + length (answers_to initial events))) [ inl more ↦ absurd (within (inr more)) | inr few ↦ few ],
)

pub when_both : {T E : Type 0} (r : Result T E) (P P' Q : T → Type 0) → ((x : T) → P x → P' x → Q x) → IfOk r P
    → IfOk r P' → IfOk r Q
when_both (Ok x) P P' Q each is also = each x is also
when_both (Err e) P P' Q each is also = is

pub on_ok : {T E : Type 0} (r : Result T E) (P Q : Type 0) → (P → Q) → OnOk r P → OnOk r Q
on_ok (Ok x) P Q then is = then is
on_ok (Err e) P Q then is = is

-- events are a history if they have no fault, or if the first is that a call is pending
pub may_be_pending : (initial : List ℕ) (events : List Event) → MayBePending initial events
    → IsHistoryFrom initial events
may_be_pending initial events (inl whole) = complete_is_history initial events whole
may_be_pending initial events (inr (ticket, first)) = pending_is_history initial events ticket first

pub if_may_be_pending : (initial : List ℕ) (events : List Event) (fault : HistoryFault)
    → IsFirstFault initial events fault
    → ((ticket : ℕ) × (fault ≡ Pending ticket)) → MayBePending initial events
if_may_be_pending initial events fault first (ticket, is) = inr (ticket, subst (IsFirstFault initial events) is first)

pub taken_may_be_pending : (initial : List ℕ) (events : List Event) (made : HistoryView)
    → (made.initial ≡ initial) × (made.events ≡ events)
    → IsCompleteFrom made.initial made.events → MayBePending initial events
taken_may_be_pending initial events made is whole =
    inl (subst (λ (es : List Event). IsCompleteFrom initial es) is.1 (subst (λ (vs : List ℕ). IsCompleteFrom vs made.events) is.0 whole))

pub when_known : {T E : Type 0} (r : Result T E) (P : Type 0) → OnOk r P → IfOk r (λ _. P)
when_known (Ok x) P is = is
when_known (Err e) P is = is

pub known_ok : {T E : Type 0} (r : Result T E) (P : Type 0) → P → OnOk r P
known_ok (Ok x) P is = is
known_ok (Err e) P is = tt

-- a fault passed on by `?` is the result
pub carries : {T E : Type 0} (r : Result T E) (fault : E) → IsErrAnd r (λ y. y ≡ fault) → r ≡ Err fault
carries (Ok x) fault is = absurd is
carries (Err y) fault is = cc
