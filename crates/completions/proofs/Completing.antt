-- Completions, event by event: the operations of a completion, and that the chosen one is complete.
use Rattle.std.proofs.Common.{◌≡◌, ℕ, zero, suc, ◌<◌, ◌⊎◌, ◌++◌, inl, inr, Bool, true, false}
use Rattle.std.proofs.Common.{not, List, [], ◌∷◌, Some, None, refl, ap, sym, subst, ◌∙◌, arith}
use Rattle.std.specs.Prelude.{All, Contains, nat_eq}
use Rattle.std.specs.List.{last_or}
use Rattle.std.proofs.lemmas.Bool.{cases_Bool, eq-eqb, eqb-true}
use Rattle.std.proofs.lemmas.List.{append_assoc}
use Rattle.std.proofs.lemmas.List.Elements.{All-contains, Contains-append_cases, Contains-append_left}
use Rattle.std.proofs.lemmas.List.Elements.{Contains-append_right}
use Rattle.std.proofs.lemmas.List.Kept.{AllPairs-filter}
use Rattle.event_records.specs.declared.event.Event.{Event}
use Rattle.event_records.specs.Projection.{projection}
use Rattle.event_records.specs.Turns.{is_call, TicketsRise}
use Rattle.history_merge.specs.declared.operation.Operation.{Operation}
use Rattle.history_merge.specs.Operations.{operation_of, operations_of}
use Rattle.history_merge.proofs.Distinct.{contains_cons, not_in_none, rises_later}
use Rattle.history_merge.proofs.Turns.{answer_is_return}
use Rattle.completions.specs.Pending.{IsHistoryFrom, IsPendingCall, TakesTurnsSoFar}
use Rattle.completions.proofs.Followed.{keeping, last_above, last_in, last_is_pending, last_of, last_or-some}
use Rattle.completions.proofs.Followed.{made_by_call, made_later}
use Rattle.completions.proofs.Followed.{only_last, operations_kept, pending_is_last, rises_front}
use Rattle.history_merge.proofs.Lists.{passes_filter, passed_filter, All-left}

-- a call of a thread whose events take turns is the last of them, or a return comes after it
call_or_answered : (xs : List Event) (c : Event) → TakesTurnsSoFar xs → TicketsRise xs → Contains xs c
    → is_call c.what ≡ true
    → (last_or None xs ≡ Some c) ⊎ ((x : Event) × Contains xs x × (is_call x.what ≡ false) × (c.ticket < x.ticket))
call_or_answered [] c turns rise among call = absurd (not_in_none c among)
call_or_answered (x ∷ []) c turns rise among call = elim (contains_cons x [] c among) [
  | inl here ↦ inl (ap (λ y. Some y) here)
  | inr there ↦ absurd (not_in_none c there)
]
call_or_answered (x ∷ answer ∷ rest) c turns rise among call =
    let ret : is_call answer.what ≡ false = answer_is_return x.what answer.what turns.0 in
    let less : x.ticket < answer.ticket = rise zero (suc zero) x (omega arith) (omega arith) in
    elim (contains_cons x (answer ∷ rest) c among) [
      | inl here ↦ inr (answer, (suc zero, omega arith, refl), ret, subst (λ (y : Event). y.ticket < answer.ticket) here less)
      | inr there ↦ elim (contains_cons answer rest c there) [
        | inl here ↦ let clash : true ≡ false = sym call ∙ ap (λ (y : Event). is_call y.what) (sym here) ∙ ret in cc
        | inr behind ↦ elim (call_or_answered rest c turns.1 (rises_later answer rest (rises_later x (answer ∷ rest) rise)) behind call) [
          | inl last ↦ inl (last_or-some (Some answer) rest c last)
          | inr (y, in_y, is_ret, later) ↦ inr (y, (suc (suc in_y.0), omega (arith, in_y.1), in_y.2), is_ret, later)
        ]
      ]
    ]

module _ (initial : List ℕ) (events : List Event) (history : IsHistoryFrom initial events) (out : Event → Bool)
    (only : (e : Event) → Contains events e → out e ≡ true → IsPendingCall events e) where
  -- each event that stays is one of the events
  stays : (e : Event) → Contains (keeping out events) e → Contains events e
  stays e among = (passed_filter (λ e. not (out e)) events e among).0

  -- a return stays
  return_stays : (e : Event) → Contains events e → is_call e.what ≡ false → Contains (keeping out events) e
  return_stays e among ret = elim (cases_Bool (out e)) [
    | inl gone ↦ let call = (pending_is_last e.thread events e (only e among gone)).1 in let clash : true ≡ false = sym call ∙ ret in cc
    | inr there ↦ passes_filter (λ e. not (out e)) events e (ap not there) among
  ]

  pub same_operations : operations_of (keeping out events) ≡ operations_of events
  same_operations = operations_kept out events (only_last out events history.tickets_rise only)

  -- a call that is pending among those that stay, and returns after them, was pending before
  pub was_pending : (returns : List Event) (thread : ℕ) (call : Event) → TicketsRise (keeping out events ++ returns)
      → All (λ r. is_call r.what ≡ false) returns → last_of thread (keeping out events ++ returns) ≡ Some call
      → is_call call.what ≡ true
      → Contains events call × IsPendingCall events call
  was_pending returns thread call rise rets last is =
      let found = last_in (keeping out events ++ returns) thread call last in
      elim (Contains-append_cases (keeping out events) returns call found.0) [
        | inr there ↦ let ret = All-contains (λ r. is_call r.what ≡ false) returns call rets there in let clash : true ≡ false = sym is ∙ ret in cc
        | inl here ↦
            let among = stays call here in
            let own : Contains (projection call.thread events) call = passes_filter (λ e. nat_eq e.thread call.thread) events call (eq-eqb call.thread call.thread refl) among in
            let rises : TicketsRise (projection call.thread events) =
            AllPairs-filter (λ e f. e.ticket < f.ticket) (λ e. nat_eq e.thread call.thread) events history.tickets_rise in
            elim (call_or_answered (projection call.thread events) call (history.threads_take_turns call.thread) rises own is) [
              | inl last_own ↦ (among, last_is_pending call.thread events call last_own is)
              | inr (x, in_x, ret, later) ↦
                  let there = passed_filter (λ e. nat_eq e.thread call.thread) events x in_x in
                  let threads : x.thread ≡ thread = eqb-true x.thread call.thread there.1 ∙ found.1 in
                  let x_stays = Contains-append_left (keeping out events) returns x (return_stays x there.0 ret) in
                  let above = last_above (keeping out events ++ returns) x x_stays rise in
                  let same : above.0 ≡ call =
                  let both : Some above.0 ≡ Some call = sym above.1 ∙ ap (λ t. last_of t (keeping out events ++ returns)) threads ∙ last in cc in
                  let tickets = ap (λ (y : Event). y.ticket) same in
                  absurd (omega (arith, above.2, tickets, later))
            ]
      ]

  -- an operation of a completion is one of the history, or a pending call with one of the added returns
  pub completed_or_ended : (returns : List Event) (o : Operation) → TicketsRise (keeping out events ++ returns)
      → All (λ r. is_call r.what ≡ false) returns → Contains (operations_of (keeping out events ++ returns)) o
      → Contains (operations_of events) o
      ⊎ ((call r : Event) × Contains events call × IsPendingCall events call × Contains returns r
      × (call.thread ≡ r.thread) × (operation_of call (Some r) ≡ Some o))
  completed_or_ended returns o rise rets among = elim (made_later (keeping out events) returns o among) [
    | inl old ↦ inl (subst (λ (os : List Operation). Contains os o) same_operations old)
    | inr (before, r, after, call, is, last, made) ↦
        let whole : keeping out events ++ returns ≡ (keeping out events ++ before) ++ r ∷ after =
        ap (λ (es : List Event). keeping out events ++ es) is ∙ sym (append_assoc (keeping out events) before (r ∷ after)) in
        let front = rises_front (keeping out events ++ before) (r ∷ after) (subst TicketsRise whole rise) in
        let earlier = All-left (λ (x : Event). is_call x.what ≡ false) before (r ∷ after) (subst (All (λ (x : Event). is_call x.what ≡ false)) is rets) in
        let pending = was_pending before r.thread call front earlier last (made_by_call call r o made) in
        let in_r : Contains returns r = subst (λ (es : List Event). Contains es r) (sym is) (Contains-append_right before (r ∷ after) r (zero, omega arith, refl)) in
        inr (call, r, pending.0, pending.1, in_r, (last_in (keeping out events ++ before) r.thread call last).1, made)
  ]
