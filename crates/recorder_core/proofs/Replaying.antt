-- Recorded lists are collected by some schedule. It takes the events by ticket: an ask, or a say and a return, and
-- then a push and a drain of one.
use Rattle.std.proofs.Common.{◌≡◌, ℕ, zero, suc, ◌+◌, ◌*◌, ◌<◌, ◌≤◌, Bool, true, false, List, [], ◌∷◌}
use Rattle.std.proofs.Common.{◌++◌, length, get_or, map, Some, refl, sym}
use Rattle.std.proofs.Common.{◌∙◌, ap, subst, inl, inr, arith, append_assoc, length-append}
use Rattle.std.specs.Prelude.{All, Contains, slice_get, flat_map, not}
use Rattle.std.specs.List.{range_with_len, list_all}
use Rattle.std.proofs.lemmas.Bool.{cases_eq, cases_lt}
use Rattle.std.proofs.lemmas.List.FromFn.{fill_by_all}
use Rattle.std.proofs.lemmas.List.Elements.{All-contains, All-head, Contains-append_right, Contains-append_cases}
use Rattle.std.proofs.lemmas.List.Sorted.{IsPermutation-sym, Contains-permutation}
use Rattle.std.proofs.lemmas.Option.{slice_get_within, get_or_from_slice_get, slice_get-get_or, same_Some}
use Rattle.event_records.specs.declared.event.Event.{Event}
use Rattle.event_records.specs.declared.event.What.TheVariants.{CallEnq}
use Rattle.event_records.specs.declared.kind.Kind.{Kind}
use Rattle.event_records.specs.declared.kind.Kind.TheVariants.{Enq, Deq}
use Rattle.event_records.specs.Turns.{TakesTurns, TicketsRise}
use Rattle.recorder_core.specs.declared.step.Step.{Step}
use Rattle.recorder_core.specs.declared.step.Step.TheVariants.{Say, Ret}
use Rattle.event_records.specs.declared.kind.Answer.{Answer}
use Rattle.recorder_core.specs.Inner.Asked.{ask_of, asked_for, call_of}
use Rattle.recorder_core.specs.Setting.{Setting}
use Rattle.event_records.specs.Question.{return_what}
use Rattle.recorder_core.specs.Schedule.{asks, answers, returns, pushes, drained, tickets, request, events, is_closed}
use Rattle.recorder_core.specs.Schedule.{is_wrong}
use Rattle.recorder_core.specs.Replay.{is_effect, setting_for}
use Rattle.recorder_core.proofs.Runs.{same_number, MayAsk}
use Rattle.recorder_core.proofs.Totals.{total, total_doubled_less}
use Rattle.recorder_core.proofs.Members.{Below, contains_joined, joined_contains, in_range}
use Rattle.recorder_core.proofs.Blocks.{once_same, joined_blocks, blocks}
use Rattle.recorder_core.proofs.Fitting.{ticket_of, AreFit, once_joined}
use Rattle.recorder_core.proofs.Granted.{AllGranted, one_granted, granted_recorded, granted_added, ask_granted}
use Rattle.recorder_core.proofs.Granted.{say_granted, return_granted, IsOnTurn}
use Rattle.recorder_core.proofs.Granted.{collect_one, collected_own, collected_other, collected_granted, ask_other}
use Rattle.recorder_core.proofs.Granted.{answer_other}
use Rattle.recorder_core.proofs.Turns.{turns_split, turns_from_call, turns_even, first_is_call, answer_in}
use Rattle.recorder_core.proofs.Turns.{pending_is_answered}
use Rattle.history_merge.proofs.Distinct.{contains_cons, not_in_none}
use Rattle.history_merge.proofs.Lists.{mapped_from, all_members, pairs_first, pairs_back}

-- no step is an effect
abbrev pub without_effects : List Step → Bool
without_effects steps = list_all (λ step. not (is_effect step)) steps

-- the next event of a list on turn
pub record HasNext (setting : Setting) (n t : ℕ) (list : List Event) (steps : List Step) (e : Event) : Type 0 where
  pub rest : List Event
  pub list_is : list ≡ events setting t steps ++ e ∷ rest
  pub later : All (λ e. suc n ≤ e.ticket) rest

-- in a list on turn that contains the event with this ticket, that event is the next
next_is : (setting : Setting) (n t : ℕ) (list : List Event) (steps : List Step) (e : Event) → TicketsRise list
    → All (λ x. x.ticket < n) (events setting t steps) → IsOnTurn setting n t 0 list steps → Contains list e
    → e.ticket ≡ n → HasNext setting n t list steps e
next_is setting n t list steps e rise below k among same =
    elim (Contains-append_cases (events setting t steps) k.rest e (subst (λ (l : List Event). Contains l e) k.list_is among)) [
      | inl earlier ↦ absurd (omega (arith, All-contains (λ (x : Event). x.ticket < n) (events setting t steps) e below earlier))
      | inr here ↦ first k.rest k.list_is k.later here
    ]
  where
    first : (rest : List Event) → list ≡ events setting t steps ++ rest → All (λ x. n ≤ x.ticket) rest
        → Contains rest e → HasNext setting n t list steps e
    first [] is later here = absurd (not_in_none e here)
    first (x ∷ rest) is later here =
        let up : TicketsRise (x ∷ rest) = pairs_back Below (events setting t steps) (x ∷ rest) (subst TicketsRise is rise) in
        elim (contains_cons x rest e here) [
          | inl head ↦ record {
            rest = rest;
            list_is = is ∙ ap (λ (z : Event). events setting t steps ++ z ∷ rest) head;
            later = all_members (λ z. suc n ≤ z.ticket) rest (λ z there. let less = pairs_first Below x rest z up there in
                omega (arith, less, ap ticket_of head));
          }
          | inr there ↦
              let less = pairs_first Below x rest e up there in
              let high = All-head (λ (z : Event). n ≤ z.ticket) x rest later in
              absurd (omega (arith, less, high))
        ]

-- ---- the two kinds of turns, in the thread of the event

module _ (setting : Setting) (n u : ℕ) (list : List Event) (steps : List Step) (e : Event) (k : IsOnTurn setting n u 0 list steps)
    (next : HasNext setting n u list steps e) (own : e.thread ≡ u) (same : e.ticket ≡ n) (counted : tickets steps ≡ n) where
  event_is : (x : Event) → x.ticket ≡ n → x.thread ≡ u → x.what ≡ e.what → x ≡ e
  event_is x ticket thread what =
      ap (λ (v : ℕ). let y : Event = record { ticket = v; thread = x.thread; what = x.what } in y) (ticket ∙ sym same)
      ∙ ap (λ (v : ℕ). let y : Event = record { ticket = e.ticket; thread = v; what = x.what } in y) (thread ∙ sym own)
      ∙ ap (λ w. let y : Event = record { ticket = e.ticket; thread = e.thread; what = w } in y) what

  one_more : (x : Event) → x ≡ e → list ≡ (events setting u steps ++ x ∷ []) ++ next.rest
  one_more x is = next.list_is ∙ ap (λ (z : Event). events setting u steps ++ z ∷ next.rest) (sym is)
      ∙ sym (append_assoc (events setting u steps) (x ∷ []) next.rest)

  -- the event of an ask of this kind
  abbrev asked_event : Kind → Event
  asked_event kind = record { ticket = tickets steps; thread = u; what = call_of (asked_for kind u (asks u steps)) }

  asked_own : (kind : Kind) (after : List Step) → e.what ≡ call_of (asked_for kind u (asks u steps))
      → is_closed u after ≡ is_closed u steps
      → pushes u after ≡ pushes u steps → asks u after ≡ suc (asks u steps) → returns u after ≡ returns u steps
      → drained u after ≡ drained u steps
      → answers u after ≡ answers u steps → events setting u after ≡ events setting u steps ++ asked_event kind ∷ []
      → IsOnTurn setting (suc n) u 1 list after
  asked_own kind after what closed pushed asked returned drains answered happened = record {
    still_open = closed ∙ k.still_open;
    pushed = rw (pushed, asked, returned) (omega (arith, k.pushed));
    all_drained = rw (drains, pushed) k.all_drained;
    answered = rw (answered, returned) k.answered;
    rest = next.rest;
    list_is = rw happened (one_more _ (event_is _ counted refl (sym what)));
    later = next.later;
  }

  ask_own : (kind : Kind) → e.what ≡ call_of (asked_for kind u (asks u steps))
      → IsOnTurn setting (suc n) u 1 list (ask_of kind u ∷ steps)
  ask_own Enq what = asked_own Enq _ what refl refl (rw (same_number u) refl) refl refl refl (rw (same_number u) refl)
  ask_own Deq what = asked_own Deq _ what refl refl (rw (same_number u) refl) refl refl refl (rw (same_number u) refl)

  answer_own : (answer : Answer) → e.what ≡ return_what answer
      → IsOnTurn setting (suc n) u 1 list (Ret u ∷ Say u answer ∷ steps)
  answer_own answer what = record {
    still_open = k.still_open;
    pushed = rw (same_number u) (omega (arith, k.pushed));
    all_drained = k.all_drained;
    answered = rw (same_number u) (omega (arith, k.answered));
    rest = next.rest;
    list_is = rw (same_number u) (one_more _ (event_is _ counted refl (sym what)));
    later = next.later;
  }

-- ---- the schedule, ticket by ticket

module _ (lists : List (List Event)) (fit : AreFit lists) (ring : ℕ) (initial : List ℕ) (room : 1 ≤ ring) where
  abbrev on : Setting
  on = setting_for ring initial lists

  abbrev all : List Event
  all = flat_map (λ (list : List Event). list) lists

  -- the events with the first n tickets are recorded and collected
  pub record IsReplayed (n : ℕ) : Type 0 where
    pub steps : List Step
    pub granted : AllGranted on steps
    pub silent : without_effects steps ≡ true
    pub counted : tickets steps ≡ n
    pub each : (t : ℕ) (list : List Event) → slice_get lists t ≡ Some list → IsOnTurn on n t 0 list steps

  no_ticket : (t : ℕ) (list : List Event) → IsOnTurn on 0 t 0 list []
  no_ticket t list =
      record { still_open = refl; pushed = refl; all_drained = refl; answered = refl; rest = list; list_is = refl; later = λ i d within. omega arith }

  replayed_none : IsReplayed 0
  replayed_none = record {
    steps = [];
    granted = refl;
    silent = refl;
    counted = refl;
    each = λ t list at. no_ticket t list;
  }

  -- the event with a ticket, in the list of its thread
  found : (n : ℕ) → n < length all
      → (e : Event) × (list : List Event) × (slice_get lists e.thread ≡ Some list) × Contains list e × (e.ticket ≡ n)
  found n below =
      let c = Contains-permutation (range_with_len 0 (length all)) (map ticket_of all) n (IsPermutation-sym _ _ fit.tickets)
      (in_range 0 (length all) n (omega arith) (omega arith)) in
      let m = mapped_from ticket_of all n c in
      let j = joined_contains lists m.0 m.1 in
      let own = All-contains (λ (x : Event). x.thread ≡ j.0) j.1 m.0 (fit.each j.0 j.1 j.2).own j.3 in
      (m.0, j.1, subst (λ (t : ℕ). slice_get lists t ≡ Some j.1) (sym own) j.2, j.3, m.2)

  -- a thread without the event with this ticket has later ones
  other_later : (n t : ℕ) (list : List Event) (steps : List Step) (e : Event) (from : List Event)
      → slice_get lists t ≡ Some list
      → slice_get lists e.thread ≡ Some from → Contains from e → e.ticket ≡ n → (e.thread ≡ t → ⊥)
      → IsOnTurn on n t 0 list steps
      → IsOnTurn on (suc n) t 0 list steps
  other_later n t list steps e from at at_e among same other k =
      let l = all_members (λ x. suc n ≤ x.ticket) k.rest later in
      record { still_open = k.still_open; pushed = k.pushed; all_drained = k.all_drained; answered = k.answered; rest = k.rest; list_is = k.list_is; later = l }
    where
      later : (x : Event) → Contains k.rest x → suc n ≤ x.ticket
      later x here =
          let in_list : Contains list x = subst (λ (l : List Event). Contains l x) (sym k.list_is) (Contains-append_right (events on t steps) k.rest x here) in
          let low = All-contains (λ (z : Event). n ≤ z.ticket) k.rest x k.later here in
          elim (cases_eq x.ticket n) [
            | inl tie ↦
                let one = once_same ticket_of all x e (once_joined lists fit) (contains_joined lists t list x at in_list)
                (contains_joined lists e.thread from e at_e among) (tie ∙ sym same) in
                let own = All-contains (λ (z : Event). z.thread ≡ t) list x (fit.each t list at).own in_list in
                absurd (other (sym (ap (λ (z : Event). z.thread) one) ∙ own))
            | inr apart ↦ omega (arith, low, apart)
          ]

  -- ---- the limits

  abbrev list_of : ℕ → List Event
  list_of t = get_or lists t []

  length_blocks : (f : ℕ → List Event) (n : ℕ) → length (blocks f n) ≡ total (λ t. length (f t)) n
  length_blocks f zero = refl
  length_blocks f (suc n) = omega (arith, length-append (blocks f n) (f n), length_blocks f n)

  all_lengths : length all ≡ total (λ t. length (list_of t)) (length lists)
  all_lengths =
      let are = fill_by_all list_of lists (length lists) [] refl (λ i within. refl) in
      ap length (ap (flat_map (λ (list : List Event). list)) are ∙ joined_blocks list_of (length lists)) ∙ length_blocks list_of (length lists)

  at_place : (t : ℕ) → t < length lists → slice_get lists t ≡ Some (list_of t)
  at_place t within = slice_get-get_or lists t [] within

  -- a list has room for the return of each asked operation
  asks_half : (n t : ℕ) (r : IsReplayed n) → t < length lists → 2 * asks t r.steps ≤ length (list_of t)
  asks_half n t r within =
      let k = r.each t (list_of t) (at_place t within) in
      let c = granted_recorded on t r.steps r.granted in
      let even = turns_even (list_of t) (fit.each t (list_of t) (at_place t within)).alternates.takes_turns in
      omega (arith, even.1, ap length k.list_is, length-append (events on t r.steps) k.rest, c.0.events_are, c.0.one_pending)

  may_ask_next : (n u : ℕ) (r : IsReplayed n) (list : List Event) (e : Event) → slice_get lists u ≡ Some list
      → HasNext on n u list r.steps e
      → asks u r.steps ≡ returns u r.steps → MayAsk on u r.steps
  may_ask_next n u r list e at next idle =
      let steps = r.steps in
      let within : u < length lists = slice_get_within lists u list at in
      let k = r.each u list at in
      let c = granted_recorded on u steps r.granted in
      let own = fit.each u list at in
      let even = turns_even list own.alternates.takes_turns in
      let same : list_of u ≡ list = get_or_from_slice_get lists u list [] at in
      let more : 2 * asks u steps + 2 ≤ length (list_of u) = rw same
      (omega (arith, even.1, ap length next.list_is, length-append (events on u steps) (e ∷ next.rest), c.0.events_are, idle)) in
      let few = total_doubled_less (λ t. asks t steps) (λ t. length (list_of t)) u (length lists) (λ t below. asks_half n t r below) within more in
      record {
        known = within;
        open_still = k.still_open;
        none_held = omega (arith, k.pushed);
        none_pending = omega (arith, idle);
        thread_may = omega (arith, own.not_too_long, more, ap length same);
        machine_may = omega (arith, few, (granted_added on steps r.granted).asks_are, all_lengths, fit.not_too_long);
      }

  -- ---- one more ticket

  finish : (n u : ℕ) (steps : List Step) (list : List Event) → slice_get lists u ≡ Some list → AllGranted on steps
      → without_effects steps ≡ true
      → tickets steps ≡ suc n → IsOnTurn on (suc n) u 1 list steps →
      ((t : ℕ) (l : List Event) → slice_get lists t ≡ Some l → (u ≡ t → ⊥) → IsOnTurn on (suc n) t 0 l steps) → IsReplayed (suc n)
  finish n u steps list at granted silent counted held others = record {
    steps = collect_one u steps;
    granted = collected_granted on (suc n) u list steps (slice_get_within lists u list at) room held granted;
    silent = silent;
    counted = counted;
    each = λ t l at'. elim (cases_eq u t) [
      | inl same ↦
          let one : list ≡ l = same_Some list l (sym at ∙ ap (slice_get lists) same ∙ at') in
          subst (λ (v : ℕ). IsOnTurn on (suc n) v 0 l (collect_one u steps)) same
          (subst (λ (x : List Event). IsOnTurn on (suc n) u 0 x (collect_one u steps)) one (collected_own on (suc n) u list steps held))
      | inr other ↦ collected_other on (suc n) t u l steps other (others t l at' other)
    ];
  }

  silent_ask : (kind : Kind) (u : ℕ) (steps : List Step) → without_effects steps ≡ true
      → without_effects (ask_of kind u ∷ steps) ≡ true
  silent_ask Enq u steps silent = silent
  silent_ask Deq u steps silent = silent

  tickets_ask : (kind : Kind) (u : ℕ) (steps : List Step) → tickets (ask_of kind u ∷ steps) ≡ suc (tickets steps)
  tickets_ask Enq u steps = refl
  tickets_ask Deq u steps = refl

  middle : (xs : List Event) (x : Event) (ys : List Event) (n : ℕ) → length xs ≡ n
      → slice_get (xs ++ x ∷ ys) n ≡ Some x
  middle [] x ys zero long = refl
  middle [] x ys (suc n) long = absurd (omega arith)
  middle (z ∷ xs) x ys zero long = absurd (omega arith)
  middle (z ∷ xs) x ys (suc n) long = middle xs x ys n (omega arith)

  module _ (n : ℕ) (r : IsReplayed n) (e : Event) (list : List Event) (at : slice_get lists e.thread ≡ Some list) (among : Contains list e)
      (same : e.ticket ≡ n) where
    abbrev u : ℕ
    u = e.thread

    on_turn : IsOnTurn on n u 0 list r.steps
    on_turn = r.each u list at

    next : HasNext on n u list r.steps e
    next = next_is on n u list r.steps e (fit.each u list at).alternates.tickets_rise
        (subst (λ (m : ℕ). All (λ x. x.ticket < m) (events on u r.steps)) r.counted (granted_recorded on u r.steps r.granted).1.below) on_turn among same

    turns : TakesTurns (events on u r.steps ++ e ∷ next.rest)
    turns = subst TakesTurns next.list_is (fit.each u list at).alternates.takes_turns

    others : (t : ℕ) (l : List Event) → slice_get lists t ≡ Some l → (u ≡ t → ⊥) → IsOnTurn on (suc n) t 0 l r.steps
    others t l at' other = other_later n t l r.steps e list at' at among same other (r.each t l at')

    by_ask : (kind : Kind) → asks u r.steps ≡ returns u r.steps → e.what ≡ call_of (asked_for kind u (asks u r.steps))
        → IsReplayed (suc n)
    by_ask kind idle what = finish n u (ask_of kind u ∷ r.steps) list at
        (one_granted on (ask_of kind u) r.steps r.granted (ask_granted on u r.steps kind (may_ask_next n u r list e at next idle)))
        (silent_ask kind u r.steps r.silent)
        (tickets_ask kind u r.steps ∙ ap suc r.counted)
        (ask_own on n u list r.steps e on_turn next refl same r.counted kind what)
        (λ t l at' other. ask_other on (suc n) t u l r.steps kind other (others t l at' other))

    by_answer : (answer : Answer) → returns u r.steps < asks u r.steps → is_wrong answer (request u r.steps) ≡ false
        → e.what ≡ return_what answer
        → IsReplayed (suc n)
    by_answer answer busy right what =
        let within : u < length lists = slice_get_within lists u list at in
        let told = one_granted on (Say u answer) r.steps r.granted (say_granted on u r.steps answer
        (record { known = within; open_still = on_turn.still_open; one_pending = busy; no_answer = omega (arith, on_turn.answered) }) right) in
        let has : returns u (Say u answer ∷ r.steps) < answers u (Say u answer ∷ r.steps) = rw (same_number u) (omega (arith, on_turn.answered)) in
        let returned = one_granted on (Ret u) (Say u answer ∷ r.steps) told
        (return_granted on u (Say u answer ∷ r.steps) (record {
          known = within;
          open_still = on_turn.still_open;
          none_held =
              omega (arith, on_turn.pushed);
          one_pending = busy;
          has_answer = has;
        })) in
        finish n u (Ret u ∷ Say u answer ∷ r.steps) list at returned r.silent (ap suc r.counted)
        (answer_own on n u list r.steps e on_turn next refl same r.counted answer what)
        (λ t l at' other. answer_other on (suc n) t u l r.steps answer other (others t l at' other))

    one_more_ticket : IsReplayed (suc n)
    one_more_ticket =
        let c = granted_recorded on u r.steps r.granted in
        elim (cases_lt (returns u r.steps) (asks u r.steps)) [
          | inl busy ↦
              let b = c.1.busy busy in
              let after = turns_from_call b.earlier b.call (e ∷ next.rest) b.take_turns (rw b.events_are at turns) in
              let fit_in = rw b.call_is at (pending_is_answered b.call e next.rest after) in
              let a = answer_in b.request e.what fit_in in
              by_answer a.0 busy (rw b.asked_is a.2) a.1
          | inr idle ↦
              let even : asks u r.steps ≡ returns u r.steps = omega (arith, c.0.returned_below, c.0.answered_below) in
              let after = turns_split (events on u r.steps) (e ∷ next.rest) (c.1.idle even) turns in
              elim (first_is_call e next.rest after) [
                | inl (v, what) ↦
                    let here : slice_get list (2 * asks u r.steps) ≡ Some e = rw next.list_is
                    (middle (events on u r.steps) e next.rest _ (omega (arith, c.0.events_are))) in
                    by_ask Enq even (what ∙ ap CallEnq ((fit.each u list at).names (asks u r.steps) v e here what))
                | inr what ↦ by_ask Deq even what
              ]
        ]

  -- the events of the first n tickets are replayed
  pub replayed : (n : ℕ) → n ≤ length all → IsReplayed n
  replayed zero below = replayed_none
  replayed (suc n) below = let f = found n (omega arith) in one_more_ticket n (replayed n (omega arith)) f.0 f.1 f.2 f.3 f.4
