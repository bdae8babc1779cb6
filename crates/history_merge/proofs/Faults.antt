-- A list of events is a complete history if and only if it has no fault.
use Rattle.history_merge.proofs.Common.{[], All, All-contains, All-nil, All-push, all_pairs_push, ap, append-nil}
use Rattle.history_merge.proofs.Common.{AreDistinct, AreFirstWith, arith, BadThread, called_values, CalledValues}
use Rattle.history_merge.proofs.Common.{CallEnq, calls_initial, CallWhilePending, cases_lt, cases_order, Clash}
use Rattle.history_merge.proofs.Common.{common_steps, Contains, Contains-append_right, drop, DuplicateValue, eqb_tells}
use Rattle.history_merge.proofs.Common.{Err, Event, fault_at, FitsTurn, Forming, Gathering, get_or-append-add}
use Rattle.history_merge.proofs.Common.{get_or-append_seam, get_or_append_left, gets, HasFormed, HasGathered}
use Rattle.history_merge.proofs.Common.{HasMetFault, HasRefusedInitial, HistoryFault, IfErr, IfOk, IfSome}
use Rattle.history_merge.proofs.Common.{Explains, fault_of}
use Rattle.history_merge.proofs.Common.{InitialTwice, inl, inr, is_some, IsClash, IsCompleteFrom, IsCompleteHistory}
use Rattle.history_merge.proofs.Common.{IsErrAnd, IsFirstFault, IsFirstFaultAt, IsFirstTwice, IsForming}
use Rattle.history_merge.proofs.Common.{IsLeastPending, IsRunOf, IsSought, Knows, last_or, length, MatchOption}
use Rattle.history_merge.proofs.Common.{MatchOption-at_none, MatchOption-at_some, MatchResult, MAX_EVENTS, MAX_INITIAL}
use Rattle.history_merge.proofs.Common.{MAX_THREAD, MAX_TICKET, Memory, nat_tests, NoFaultBefore, None, NothingPending}
use Rattle.history_merge.proofs.Common.{Ok, operations_so_far, Option, Pending, pending_call, Placed, projection, refl}
use Rattle.history_merge.proofs.Common.{repeats_value, Result, result_err, ReturnWithoutCall, rules, slice_get}
use Rattle.history_merge.proofs.Common.{slice_get-get_or, slice_get_within, Some, Sought, Stands, subst, suc, sym}
use Rattle.history_merge.proofs.Common.{take, take-append-le, take-append_seam, take-suc, take_all, TakesTurns}
use Rattle.history_merge.proofs.Common.{TicketOrder, TicketsRise, true, WrongReturn, zero, ⊤, ◌++◌, ◌||◌, ◌↔◌, ◌∙◌}
use Rattle.history_merge.proofs.Common.{◌∷◌, ◌≡◌, ◌≢◌, ◌⊎◌}
use Rattle.std.proofs.Common.{append_assoc, false, get_or, length-append, List, ℕ, ◌<◌, ◌≤◌}
use Rattle.history_merge.proofs.Turns.{finished, fits_in_turns, nothing_after_turns, one_event_more, projection-at}
use Rattle.history_merge.proofs.Turns.{turns_push, TurnsSoFar}
use Rattle.history_merge.proofs.Distinct.{cut_at, distinct_push, each_more, initial_distinct, new_from_distinct}
use Rattle.history_merge.proofs.Distinct.{one_at, twice_before, twice_not_distinct}
use Rattle.history_merge.proofs.Lists.{slice_get-append_left}
use Rattle.history_merge.proofs.TheirEvents.{run_of}
use Rattle.history_merge.specs.declared.clash.Clash.TheVariants as clash

-- ---- a list of events is a complete history if and only if it has no fault

-- ---- the kinds of faults: six faults of an event, and three others

-- a fault of the event at place i is the first if and only if it is the first at its place
pub record IsOfEvent (i : ℕ) (fault : HistoryFault) : Type 0 where
  pub first : (initial : List ℕ) (events : List Event)
      → IsFirstFault initial events fault ↔ IsFirstFaultAt initial events i fault
  pub place : (initial : List ℕ) (before : List Event) (k : ℕ) (e : Event) → fault_at initial before k e ≡ Some fault
      → k ≡ i

same : (A : Type 0) → A ↔ A
same A = (λ a. a, λ a. a)

-- a property of each fault of an event, and of the three others, holds of every fault
pub by_kind : (P : HistoryFault → Type 0) → ((i : ℕ) (fault : HistoryFault) → IsOfEvent i fault → P fault)
    → ((ticket : ℕ) → P (Pending ticket))
    → P Memory → ((j : ℕ) → P (InitialTwice j)) → (fault : HistoryFault) → P fault
by_kind P at pending memory twice (TicketOrder i) = at i _ (record { first = λ _ _. same _; place = λ initial before k e is. grind arith })
by_kind P at pending memory twice (BadThread i) = at i _ (record { first = λ _ _. same _; place = λ initial before k e is. grind arith })
by_kind P at pending memory twice (CallWhilePending i) = at i _ (record { first = λ _ _. same _; place = λ initial before k e is. grind arith })
by_kind P at pending memory twice (ReturnWithoutCall i) = at i _ (record { first = λ _ _. same _; place = λ initial before k e is. grind arith })
by_kind P at pending memory twice (WrongReturn i) = at i _ (record { first = λ _ _. same _; place = λ initial before k e is. grind arith })
by_kind P at pending memory twice (DuplicateValue i) = at i _ (record { first = λ _ _. same _; place = λ initial before k e is. grind arith })
by_kind P at pending memory twice (Pending ticket) = pending ticket
by_kind P at pending memory twice Memory = memory
by_kind P at pending memory twice (InitialTwice j) = twice j

-- ---- the rules that an event breaks

-- the event breaks no rule after the events before it
pub record MayFollow (initial : List ℕ) (before : List Event) (e : Event) : Type 0 where
  pub rises : MatchOption (last_or None before) ⊤ (λ last. last.ticket < e.ticket)
  pub ticket_in_range : e.ticket ≤ MAX_TICKET
  pub thread_in_range : e.thread ≤ MAX_THREAD
  pub fits : FitsTurn (pending_call e.thread before) e
  pub is_new : (repeats_value before e || calls_initial initial e) ≡ false

-- an event without a fault may follow
pub may_follow : (initial : List ℕ) (before : List Event) (i : ℕ) (e : Event) → fault_at initial before i e ≡ None
    → MayFollow initial before e
may_follow initial before i e none = grind arith

-- an event that may follow has no fault
pub no_fault : (initial : List ℕ) (before : List Event) (i : ℕ) (e : Event) → MayFollow initial before e
    → fault_at initial before i e ≡ None
no_fault initial before i e may = grind (arith, nat_tests, may.rises, may.fits, may.is_new)

-- the fault found at a place is the first
pub first_fault_at : (initial : List ℕ) (events : List Event) (i : ℕ) (fault : HistoryFault)
    → IsFirstFaultAt initial events i fault
    → IsFirstFault initial events fault
first_fault_at initial events i fault = by_kind (λ f. IsFirstFaultAt initial events i f → IsFirstFault initial events f)
    (λ j f of found. (of.first initial events).1
    (subst (λ n. IsFirstFaultAt initial events n f) (of.place initial (take i events) i found.2.0 found.2.2) found))
    (λ ticket found. absurd (let other = found.2.2 in grind arith)) (λ found. tt)
    (λ j found. absurd (let other = found.2.2 in grind arith)) fault

-- ---- events without a fault are a complete history

-- events without a fault, some calls of which may be pending
pub record IsSound (initial : List ℕ) (events : List Event) : Type 0 where
  pub tickets_rise : TicketsRise events
  pub tickets_in_range : All (λ e. e.ticket ≤ MAX_TICKET) events
  pub threads_in_range : All (λ e. e.thread ≤ MAX_THREAD) events
  pub values_are_distinct : AreDistinct (initial ++ called_values events)
  pub turns : (thread : ℕ) → TurnsSoFar (projection thread events)

-- the last event is that at the last place
last_is : (o : Option Event) (e : Event) (events : List Event) (d : Event)
    → last_or o (e ∷ events) ≡ Some (get_or (e ∷ events) (length events) d)
last_is o e [] d = refl
last_is o e (x ∷ events) d = last_is (Some e) x events d

-- a ticket above the last one is above all
above_all : (events : List Event) (ticket : ℕ) → TicketsRise events
    → MatchOption (last_or None events) ⊤ (λ last. last.ticket < ticket)
    → (k : ℕ) (d : Event) → k < length events → (get_or events k d).ticket < ticket
above_all [] ticket rise above k d below = absurd (omega arith)
above_all (e ∷ events) ticket rise above k d below =
    let last : (get_or (e ∷ events) (length events) d).ticket < ticket =
    subst (λ o. MatchOption o ⊤ (λ l. l.ticket < ticket)) (last_is None e events d) above in
    grind (arith, nat_tests, cases_lt)

sound_push : (initial : List ℕ) (events : List Event) (e : Event) → IsSound initial events → MayFollow initial events e
    → IsSound initial (events ++ e ∷ [])
sound_push initial events e sound may =
    grind (arith, common_steps, all_pairs_push, above_all, All-push, distinct_push, eqb_tells, turns_push, one_event_more)

sound_before : (initial : List ℕ) (events : List Event) (n : ℕ) → n ≤ length events → AreDistinct initial
    → NoFaultBefore initial events (length events)
    → IsSound initial (take n events)
sound_before initial events zero within distinct none = grind (arith, All-nil, append-nil)
sound_before initial events (suc n) within distinct none =
    let d : Event = record { ticket = 0; thread = 0; what = CallEnq 0 } in
    let below : n < length events = omega arith in
    let may = may_follow initial (take n events) n (get_or events n d) (none n (get_or events n d) below (slice_get-get_or events n d below)) in
    grind (arith, take-suc, sound_push, sound_before initial events n)

-- events without a fault are sound
pub sound_without_fault : (initial : List ℕ) (events : List Event) → AreDistinct initial
    → NoFaultBefore initial events (length events) → IsSound initial events
sound_without_fault initial events distinct none =
    subst (IsSound initial) (take_all (length events) events (omega arith)) (sound_before initial events (length events) (omega arith) distinct none)

-- events without a fault are a run, some calls of which may be pending
pub run_without_fault : (initial : List ℕ) (events : List Event) → AreDistinct initial
    → NoFaultBefore initial events (length events)
    → IsRunOf events (operations_so_far events)
run_without_fault initial events distinct none =
    let sound = sound_without_fault initial events distinct none in
    run_of events sound.tickets_rise sound.threads_in_range (λ thread. finished (projection thread events) (sound.turns thread))

-- events without a fault and with nothing pending are a complete history
pub complete_without_fault : (initial : List ℕ) (events : List Event) → AreDistinct initial
    → NoFaultBefore initial events (length events)
    → NothingPending events → IsCompleteFrom initial events
complete_without_fault initial events distinct none nothing =
    grind (arith, sound_without_fault, MatchOption-at_none, length-append, get_or-append-add)

-- ---- a complete history has no fault

may_follow_in : (initial : List ℕ) (before later : List Event) (e : Event)
    → IsCompleteFrom initial (before ++ e ∷ later) → MayFollow initial before e
may_follow_in initial before later e whole = record {
  rises = rises before complete.tickets_rise;
  ticket_in_range = All-contains (λ x. x.ticket ≤ MAX_TICKET) (before ++ e ∷ later) e complete.tickets_in_range among;
  thread_in_range = All-contains (λ x. x.thread ≤ MAX_THREAD) (before ++ e ∷ later) e complete.threads_in_range among;
  fits = fits_in_turns (projection e.thread before) e (projection e.thread later)
      (subst TakesTurns (projection-at before later e) (complete.threads_take_turns e.thread));
  is_new = new_from_distinct initial before later e whole.values_are_distinct;
}
  where
    complete : IsCompleteHistory (before ++ e ∷ later)
    complete = whole.complete

    among : Contains (before ++ e ∷ later) e
    among = Contains-append_right before (e ∷ later) e (zero, omega arith, refl)

    rises : (xs : List Event) → TicketsRise (xs ++ e ∷ later)
        → MatchOption (last_or None xs) ⊤ (λ last. last.ticket < e.ticket)
    rises [] rise = tt
    rises (x ∷ xs) rise =
        let within : suc (length xs) < length ((x ∷ xs) ++ e ∷ later) = rw length-append (omega arith) in
        let less = rise (length xs) (suc (length xs)) x (omega arith) within in
        let last = get_or_append_left (x ∷ xs) (e ∷ later) x (length xs) (omega arith) in
        let own = get_or-append_seam (x ∷ xs) e later x in
        let below : (get_or (x ∷ xs) (length xs) x).ticket < e.ticket =
        subst (λ l. l.ticket < e.ticket) last (subst (λ r. (get_or ((x ∷ xs) ++ e ∷ later) (length xs) x).ticket < r.ticket) own less) in
        subst (λ o. MatchOption o ⊤ (λ l. l.ticket < e.ticket)) (sym (last_is None x xs x)) below

-- a complete history has no fault
pub no_fault_in_complete : (initial : List ℕ) (events : List Event) → IsCompleteFrom initial events
    → NoFaultBefore initial events (length events)
no_fault_in_complete initial events complete i e below here =
    no_fault initial (take i events) i e
    (may_follow_in initial (take i events) (drop (suc i) events) e (subst (IsCompleteFrom initial) (cut_at events i e here) complete))

-- in a complete history no call is pending
pub nothing_pending_in_complete : (events : List Event) → IsCompleteHistory events → NothingPending events
nothing_pending_in_complete events complete thread = nothing_after_turns (projection thread events) (complete.threads_take_turns thread)

no_first_fault : (initial : List ℕ) (events : List Event) (i : ℕ) (fault : HistoryFault)
    → IsCompleteFrom initial events
    → IsFirstFaultAt initial events i fault → ⊥
no_first_fault initial events i fault complete found = grind (arith, no_fault_in_complete, slice_get_within)

-- the only fault of a complete history is out of memory
pub complete_has_no_fault : (initial : List ℕ) (events : List Event) (fault : HistoryFault)
    → IsFirstFault initial events fault
    → IsCompleteFrom initial events → fault ≡ Memory
complete_has_no_fault initial events fault first complete = by_kind (λ f. IsFirstFault initial events f → f ≡ Memory)
    (λ i f of found. absurd (no_first_fault initial events i f complete ((of.first initial events).0 found)))
    (λ ticket found.
    let call = found.2.0 in
    let nothing = nothing_pending_in_complete events complete.complete call.0 in
    let there = call.2 in cc)
    (λ found. refl) (λ j found. absurd (twice_not_distinct initial j (initial_distinct initial events complete) found)) fault first

-- ---- initial values and events have at most one first fault

-- there is only one least ticket
pub one_least : (events : List Event) (t u : ℕ) → IsLeastPending events t → IsLeastPending events u → t ≡ u
one_least events t u least_t least_u = grind (arith)

-- a property of each first fault of an event, a pending call or an initial value holds of each first fault but out of
-- memory
by_first : (P : HistoryFault → Type 0) (initial : List ℕ) (events : List Event)
    → ((i : ℕ) (f : HistoryFault) → IsFirstFaultAt initial events i f → P f)
    → ((ticket : ℕ) → IsFirstFault initial events (Pending ticket) → P (Pending ticket))
    → ((j : ℕ) → IsFirstTwice initial j → P (InitialTwice j))
    → (f : HistoryFault) → f ≢ Memory → IsFirstFault initial events f → P f
by_first P initial events at pending twice = by_kind (λ f. f ≢ Memory → IsFirstFault initial events f → P f)
    (λ i f of known first. at i f ((of.first initial events).0 first)) (λ ticket known. pending ticket) (λ known first. absurd (known refl)) (λ j known. twice j)

-- a faulty event contradicts that no event has a fault
not_among : (initial : List ℕ) (events : List Event) (i : ℕ) (fault : HistoryFault)
    → IsFirstFaultAt initial events i fault
    → NoFaultBefore initial events (length events) → ⊥
not_among initial events i fault at none = grind (arith, slice_get_within)

-- an event has only one first fault
one_place : (initial : List ℕ) (events : List Event) (i j : ℕ) (f g : HistoryFault) → IsFirstFaultAt initial events i f
    → IsFirstFaultAt initial events j g → f ≡ g
one_place initial events i j f g at_f at_g = grind (arith, cases_order, one_at)

-- only one place is the first of a value that equals an earlier one
one_twice : (initial : List ℕ) (j k : ℕ) → IsFirstTwice initial j → IsFirstTwice initial k → j ≡ k
one_twice initial j k at_j at_k = grind (arith, cases_order j k, twice_before initial j k, twice_before initial k j)

-- two first faults of the same initial values and events, neither of which is out of memory, are equal
pub one_first_fault : (initial : List ℕ) (events : List Event) (f g : HistoryFault) → f ≢ Memory → g ≢ Memory
    → IsFirstFault initial events f → IsFirstFault initial events g → f ≡ g
one_first_fault initial events f g known_f known_g first_f first_g = by_first (λ f. f ≡ g) initial events
    (λ i f a. by_first (λ g. f ≡ g) initial events (λ k g b. one_place initial events i k f g a b)
    (λ ticket b. absurd (not_among initial events i f a b.1)) (λ j b. absurd (twice_not_distinct initial j a.0 b)) g known_g first_g)
    (λ ticket a. by_first (λ g. Pending ticket ≡ g) initial events (λ k g b. absurd (not_among initial events k g b a.1))
    (λ u b. ap (λ t. Pending t) (one_least events ticket u a.2 b.2)) (λ j b. absurd (twice_not_distinct initial j a.0 b)) g known_g first_g)
    (λ j a. by_first (λ g. InitialTwice j ≡ g) initial events (λ k g b. absurd (twice_not_distinct initial j b.0 a))
    (λ u b. absurd (twice_not_distinct initial j b.0 a)) (λ k b. ap (λ n. InitialTwice n) (one_twice initial j k a b)) g known_g first_g) f known_f first_f

-- ---- the faults of events when more are added

pub slice_get-append_seam : (xs : List Event) (y : Event) → slice_get (xs ++ y ∷ []) (length xs) ≡ Some y
slice_get-append_seam [] y = refl
slice_get-append_seam (x ∷ xs) y = slice_get-append_seam xs y

-- later events don't change the faults of those before
pub no_fault-append : (initial : List ℕ) (events later : List Event) (n : ℕ) → n ≤ length events
    → NoFaultBefore initial events n
    → NoFaultBefore initial (events ++ later) n
no_fault-append initial events later n within none i e below here =
    rw (take-append-le i events later (omega (arith, below, within))) (none i e below (sym (slice_get-append_left events later i (omega arith)) ∙ here))

-- one more event without a fault
pub no_fault-push : (initial : List ℕ) (events : List Event) (e : Event)
    → fault_at initial events (length events) e ≡ None
    → NoFaultBefore initial events (length events)
    → NoFaultBefore initial (events ++ e ∷ []) (length (events ++ e ∷ []))
no_fault-push initial events e here none i x below at =
    let short = simp length-append at below in
    each_more (λ k y. fault_at initial (take k (events ++ e ∷ [])) k y ≡ None) (events ++ e ∷ []) (length events) e (slice_get-append_seam events e)
    (rw take-append_seam here) (no_fault-append initial events (e ∷ []) (length events) (omega arith) none) i x short at

-- a fault that was found stays the first
pub met_fault-append : (initial : List ℕ) (events later : List Event) (fault : HistoryFault)
    → HasMetFault initial events fault
    → HasMetFault initial (events ++ later) fault
met_fault-append initial events later fault (inl refused) = inl refused
met_fault-append initial events later fault (inr (i, (distinct, none, (e, here, found)))) =
    let within = slice_get_within events i e here in
    inr (
      i,
      (
        distinct,
        no_fault-append initial events later i (omega (arith, within)) none,
        (e, slice_get-append_left events later i within ∙ here, rw (take-append-le i events later (omega (arith, within))) found),
      ),
    )

-- the fault of one more event is the first
pub met_fault-push : (initial : List ℕ) (events : List Event) (e : Event) (fault : HistoryFault) → AreDistinct initial
    → NoFaultBefore initial events (length events)
    → (fault ≡ Memory) ⊎ (fault_at initial events (length events) e ≡ Some fault)
    → HasMetFault initial (events ++ e ∷ []) fault
met_fault-push initial events e fault distinct none (inl memory) = inl (inl memory)
met_fault-push initial events e fault distinct none (inr found) =
    grind (arith, no_fault-append, slice_get-append_seam, take-append_seam)

-- a fault that was found is the first, at the end too
pub met_fault_is_first : (initial : List ℕ) (events : List Event) (fault : HistoryFault)
    → HasMetFault initial events fault → IsFirstFault initial events fault
met_fault_is_first initial events fault (inl (inl memory)) = subst (IsFirstFault initial events) (sym memory) tt
met_fault_is_first initial events fault (inl (inr (j, is, twice))) = subst (IsFirstFault initial events) (sym is) twice
met_fault_is_first initial events fault (inr (i, found)) = first_fault_at initial events i fault found

-- after a fault was found, events are ignored
pub gathered_after_fault : (initial : List ℕ) (events : List Event) (e : Event) (g : Gathering)
    → true ≡ is_some g.fault
    → length events < MAX_EVENTS → IfSome g.clash (Explains initial (events ++ e ∷ []) g.fault)
    → HasGathered initial events g
    → HasGathered initial (events ++ e ∷ []) g
gathered_after_fault initial events e g some few clash known = record {
  few_initial = known.few_initial;
  few = simp length-append (omega (arith, few));
  gathered = join g.fault some known.gathered;
  clash = clash;
}
  where
    join : (fault : Option HistoryFault) → true ≡ is_some fault
        → MatchOption fault (IsForming initial events g) (HasMetFault initial events)
        → MatchOption fault (IsForming initial (events ++ e ∷ []) g) (HasMetFault initial (events ++ e ∷ []))
    join None h none = cc
    join (Some fault) h met = met_fault-append initial events (e ∷ []) fault met

pub none_kept : (kept : Option HistoryFault) → false ≡ is_some kept → kept ≡ None
none_kept kept none = grind arith

-- if no fault is kept, the events so far have none
pub still_forming : (initial : List ℕ) (events : List Event) (g : Gathering) → g.fault ≡ None
    → HasGathered initial events g → IsForming initial events g
still_forming initial events g none known = MatchOption-at_none _ _ none known.gathered

-- while no fault was found, the events have none
pub none_met : (initial : List ℕ) (events : List Event) (g : Gathering) → false ≡ is_some g.fault
    → HasGathered initial events g → IsForming initial events g
none_met initial events g none = still_forming initial events g (none_kept g.fault none)

-- a kept fault was found
pub kept_is_met : (initial : List ℕ) (events : List Event) (g : Gathering) (fault : HistoryFault)
    → g.fault ≡ Some fault → HasGathered initial events g
    → HasMetFault initial events fault
kept_is_met initial events g fault kept known = MatchOption-at_some _ _ fault kept known.gathered

-- without a fault, the operations are those of a run
pub run_of_formed : (initial : List ℕ) (events : List Event) (forming : Forming) → HasFormed events forming
    → AreDistinct initial
    → NoFaultBefore initial events (length events) → IsRunOf events forming.timeline.operations
run_of_formed initial events forming formed distinct none = rw formed.operations (run_without_fault initial events distinct none)

pub run_of_forming : (initial : List ℕ) (events : List Event) (g : Gathering) → IsForming initial events g
    → IsRunOf events g.forming.timeline.operations
run_of_forming initial events g known = run_of_formed initial events g.forming known.formed known.distinct known.no_fault

-- a property of a result's error, which is one
pub of_err : {T E : Type 0} (P : T → Type 0) (Q R : E → Type 0) (result : Result T E) → IsErrAnd result R
    → ((fault : E) → R fault → Q fault)
    → MatchResult result P Q
of_err P Q R (Ok made) is told = absurd is
of_err P Q R (Err fault) is told = told fault is

-- the start of a builder: its values are noted and distinct, or one equals an earlier one
pub begun : (g : Gathering) (initial : List ℕ) (called : CalledValues) (r : Result (Unit {0}) HistoryFault)
    → length initial ≤ MAX_INITIAL
    → HasFormed [] g.forming → g.count ≡ 0 → g.forming.timeline.initial ≡ initial → g.called ≡ called
    → g.fault ≡ result_err r
    → IfOk r (λ _. Knows initial called × AreDistinct initial) → IfErr r (HasRefusedInitial initial)
    → IfSome g.clash (Explains initial [] g.fault)
    → HasGathered initial [] g
begun g initial called r few formed count is same fault noted refused clash = search (rules, append-nil)

-- ---- the first event with a property, and contradictions as events are added

-- ---- searching for an event, one after another

-- the event after those that were seen
at_seam : (seen : List Event) (e : Event) (left : List Event) → slice_get (seen ++ e ∷ left) (length seen) ≡ Some e
at_seam [] e left = refl
at_seam (x ∷ seen) e left = at_seam seen e left

-- the events before the place were seen, and none of them has the property
pub record Searched (all left : List Event) (sought : Sought) (place : ℕ) : Type 0 where
  pub seen : List Event
  pub parts : seen ++ left ≡ all
  pub count : place ≡ length seen
  pub none : (i : ℕ) (e : Event) → slice_get seen i ≡ Some e → ¬ (IsSought sought (record { place = i; event = e }))

-- one more event without the property
pub searched_more : (all old left : List Event) (sought : Sought) (place next : ℕ) (e : Event) → old ≡ e ∷ left
    → (place < MAX_EVENTS → next ≡ suc place)
    → ¬ (IsSought sought (record { place = place; event = e }))
    → (length all ≤ MAX_EVENTS → Searched all old sought place)
    → length all ≤ MAX_EVENTS → Searched all left sought next
searched_more all old left sought place next e is counts other searched few =
    let was = searched few in
    let whole : was.seen ++ e ∷ left ≡ all = ap (λ (es : List Event). was.seen ++ es) (sym is) ∙ was.parts in
    let long : length (was.seen ++ e ∷ left) ≡ length all = ap length whole in
    let size = length-append was.seen (e ∷ left) in
    let more = length-append was.seen (e ∷ []) in
    grind (arith, append_assoc, slice_get_within, each_more, slice_get-append_seam, slice_get-append_left)

-- ---- contradictions

-- an event stays at its place when more are added
pub stands-append : (events later : List Event) (x : Placed) → Stands events x → Stands (events ++ later) x
stands-append events later x at = slice_get-append_left events later x.place (slice_get_within events x.place x.event at) ∙ at

-- an added event is at the end
pub stands-push : (events : List Event) (x : Placed) → x.place ≡ length events → Stands (events ++ x.event ∷ []) x
stands-push events x here = subst (λ n. slice_get (events ++ x.event ∷ []) n ≡ Some x.event) (sym here) (slice_get-append_seam events x.event)

-- the first event that calls for a value stays the first
pub first_with-append : (events later : List Event) (x y : Placed) → Stands events x → AreFirstWith events x y
    → AreFirstWith (events ++ later) x y
first_with-append events later x y at are = grind (arith, slice_get_within, slice_get-append_left)

-- that a call is pending isn't found before all events came
met_not_pending : (initial : List ℕ) (events : List Event) (ticket : ℕ) → HasMetFault initial events (Pending ticket)
    → ⊥
met_not_pending initial events ticket (inl (inl memory)) = cc
met_not_pending initial events ticket (inl (inr (j, is, twice))) = cc
met_not_pending initial events ticket (inr (i, found)) = let other = found.2.2 in grind arith

-- the call that is pending before an event stays the same
pending-append : (events later : List Event) (x : Event) (y : Placed) → Stands events y
    → pending_call y.event.thread (take y.place events) ≡ Some x → pending_call y.event.thread (take y.place (events ++ later)) ≡ Some x
pending-append events later x y at is = grind (arith, slice_get_within, take-append-le)

-- events or values that contradict each other at a fault still do when more events are added
clash-append : (initial : List ℕ) (events later : List Event) (found : Clash)
    → HasMetFault initial events (fault_of found)
    → IsClash initial events found → IsClash initial (events ++ later) found
clash-append initial events later (clash.Tickets x y) met is = (stands-append events later x is.0, stands-append events later y is.1, is.2, is.3)
clash-append initial events later (clash.Calls x y) met is =
    (stands-append events later x is.0, stands-append events later y is.1, pending-append events later x.event y is.1 is.2)
clash-append initial events later (clash.Return x y) met is =
    (stands-append events later x is.0, stands-append events later y is.1, pending-append events later x.event y is.1 is.2, is.3)
clash-append initial events later (clash.Values x y) met is = grind (arith, stands-append, first_with-append)
clash-append initial events later (clash.Initial place x) met is = (stands-append events later x is.0, is.1)
clash-append initial events later (clash.Twice value i j) met is = is
clash-append initial events later (clash.Pending x) met is = absurd (met_not_pending initial events x.event.ticket met)

-- the kept ones still do when more events are added
pub kept-append : (initial : List ℕ) (events later : List Event) (g : Gathering) → HasGathered initial events g
    → IfSome g.clash (Explains initial (events ++ later) g.fault)
kept-append initial events later g known = of_kept g.clash known.clash
  where
    of_kept : (kept : Option Clash) → IfSome kept (Explains initial events g.fault)
        → IfSome kept (Explains initial (events ++ later) g.fault)
    of_kept None is = is
    of_kept (Some found) is = (clash-append initial events later found (kept_is_met initial events g (fault_of found) is.1 known) is.0, is.1)

-- a contradiction, and the fault that it explains
pub explains : (initial : List ℕ) (events : List Event) (kept : Option HistoryFault) (found : Option Clash)
    → IfSome found (IsClash initial events)
    → IfSome found (λ clash. kept ≡ Some (fault_of clash)) → IfSome found (Explains initial events kept)
explains initial events kept None is same = is
explains initial events kept (Some found) is same = (is, same)

-- the kept events or values contradict each other
pub kept_is_clash : (initial : List ℕ) (events : List Event) (g : Gathering) → HasGathered initial events g
    → IfSome g.clash (IsClash initial events)
kept_is_clash initial events g known = of_kept g.clash known.clash
  where
    of_kept : (kept : Option Clash) → IfSome kept (Explains initial events g.fault)
        → IfSome kept (IsClash initial events)
    of_kept None is = is
    of_kept (Some found) is = is.0

-- the fault that the kept ones explain is the first
pub kept_is_first : (initial : List ℕ) (events : List Event) (g : Gathering) → HasGathered initial events g
    → IfSome g.clash (λ found. IsFirstFault initial events (fault_of found))
kept_is_first initial events g known = of_kept g.clash known.clash
  where
    of_kept : (kept : Option Clash) → IfSome kept (Explains initial events g.fault)
        → IfSome kept (λ found. IsFirstFault initial events (fault_of found))
    of_kept None is = is
    of_kept (Some found) is = met_fault_is_first initial events (fault_of found) (kept_is_met initial events g (fault_of found) is.1 known)

-- no events or values explain out of memory
not_memory : (found : Clash) → fault_of found ≢ Memory
not_memory (clash.Tickets x y) = λ is. cc
not_memory (clash.Calls x y) = λ is. cc
not_memory (clash.Return x y) = λ is. cc
not_memory (clash.Values x y) = λ is. cc
not_memory (clash.Initial place x) = λ is. cc
not_memory (clash.Twice value i j) = λ is. cc
not_memory (clash.Pending x) = λ is. cc

-- a complete history has no contradiction
pub none_in_complete : (initial : List ℕ) (events : List Event) (found : Option Clash) → IsCompleteFrom initial events
    → IfSome found (λ clash. IsFirstFault initial events (fault_of clash)) → found ≡ None
none_in_complete initial events None complete first = refl
none_in_complete initial events (Some clash) complete first =
    absurd (not_memory clash (complete_has_no_fault initial events (fault_of clash) first complete))

-- the place of an event as more are added, for `clash_of`
pub ruleset standing = (first_with-append, stands-append, stands-push, take-append_seam)
