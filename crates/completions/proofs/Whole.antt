-- Events with answers to pending calls are a complete history.
use Rattle.std.proofs.Common.{◌≡◌, ◌≢◌, ℕ, zero, suc, ◌+◌, ◌<◌, ◌≤◌, ◌⊎◌, ◌++◌, inl, inr, Bool, true, false, not, List}
use Rattle.std.proofs.Common.{[], ◌∷◌, length, Option}
use Rattle.std.proofs.Common.{Some, None, refl, ap, sym, subst, ◌∙◌, arith}
use Rattle.std.proofs.Common.{length-append, get_or}
use Rattle.std.specs.Prelude.{All, AllPairs, Contains, filter, filter_map, nat_eq, ◌&&◌}
use Rattle.std.specs.List.{last_or}
use Rattle.std.specs.Option.{option_map_or}
use Rattle.std.proofs.lemmas.Bool.{cases_Bool, eq-eqb, eqb-true, ne_eqb}
use Rattle.std.proofs.lemmas.List.{append_assoc, append-nil, get_or_append_left}
use Rattle.std.proofs.lemmas.List.Elements.{All-append, All-contains, All-filter, Contains-append_left}
use Rattle.std.proofs.lemmas.List.Elements.{Contains-append_right}
use Rattle.std.proofs.lemmas.List.Elements.{filter-append, filter_map-append}
use Rattle.std.proofs.lemmas.List.Folds.{Any-from_list_any, list_any_at}
use Rattle.std.proofs.lemmas.List.Kept.{AllPairs-cons, AllPairs-filter}
use Rattle.event_records.specs.declared.event.Event.{Event}
use Rattle.event_records.specs.declared.event.What.{What}
use Rattle.event_records.specs.declared.limits.TheConstants.{MAX_THREAD, MAX_TICKET}
use Rattle.event_records.specs.Projection.{projection}
use Rattle.event_records.specs.Turns.{answers, is_call, TakesTurns, TicketsRise}
use Rattle.history_merge.specs.Complete.{AreDistinct, called_value, called_values}
use Rattle.history_merge.specs.Faults.{pending_call}
use Rattle.history_merge.specs.Initial.{IsCompleteFrom}
use Rattle.history_merge.proofs.Distinct.{contains_cons, not_in_none, rises_later}
use Rattle.history_merge.proofs.Turns.{answer_is_return, nothing_after_turns, TakesTurns-append, last_or-push}
use Rattle.completions.specs.declared.answers.Answer.{Answer}
use Rattle.completions.specs.Pending.{IsHistoryFrom, IsPendingCall, TakesTurnsSoFar}
use Rattle.completions.specs.Completed.{completed_by, is_answered, is_left_out, is_pending, next_ticket, returns_from}
use Rattle.completions.proofs.Followed.{keeping, last_above, last_in, last_is_pending, last_of, one_by_ticket}
use Rattle.completions.proofs.Followed.{pending_is_last}
use Rattle.history_merge.proofs.Formed.{no_value}
use Rattle.verdicts.proofs.Selections.{filters_swap}
use Rattle.history_merge.proofs.Lists.{contains_head, one_deeper, kept, keeps, passed_filter, all_members}
use Rattle.history_merge.proofs.Lists.{AllPairs-tail, pairs_first, pairs_back, pairs_append}

-- ---- lists

pub pairs_none : {X : Type 0} (R : X → X → Type 0) → AllPairs R []
pairs_none R i j d below inside = absurd (omega arith)

-- a relation of pairs holds of the values made of elements
pub pairs_made : {X Y : Type 0} (R : X → X → Type 0) (S : Y → Y → Type 0) (h : X → Option Y) (xs : List X)
    → ((x y : X) (b c : Y) → h x ≡ Some b → h y ≡ Some c → R x y → S b c) → AllPairs R xs
    → AllPairs S (filter_map h xs)
pairs_made R S h [] each pairs = pairs_none S
pairs_made {X} {Y} R S h (x ∷ xs) each pairs = by_head (h x) refl (pairs_made R S h xs each (AllPairs-tail R x xs pairs))
  where
    by_head : (made : Option Y) → h x ≡ made → AllPairs S (filter_map h xs) → AllPairs S (filter_map h (x ∷ xs))
    by_head None is rest = rw is rest
    by_head (Some b) is rest = rw is (AllPairs-cons S b (filter_map h xs) (all_members (S b) (filter_map h xs) (λ c among.
        let from = kept h xs c among in each x from.0 b c is from.2 (pairs_first R x xs from.0 pairs from.1))) rest)

pub pairs_front : {X : Type 0} (R : X → X → Type 0) (xs ys : List X) → AllPairs R (xs ++ ys) → AllPairs R xs
pairs_front {X} R xs ys pairs i j d below inside =
    let holds = pairs i j d below (omega (arith, inside, length-append xs ys)) in
    let at_i = get_or_append_left xs ys d i (omega arith) in
    let at_j = get_or_append_left xs ys d j inside in
    subst (λ (x : X). R x (get_or xs j d)) at_i (subst (λ (y : X). R (get_or (xs ++ ys) i d) y) at_j holds)

pub pairs_across : {X : Type 0} (R : X → X → Type 0) (xs ys : List X) (x y : X) → AllPairs R (xs ++ ys) → Contains xs x
    → Contains ys y → R x y
pairs_across R [] ys x y pairs in_x in_y = absurd (not_in_none x in_x)
pairs_across {X} R (z ∷ xs) ys x y pairs in_x in_y = elim (contains_cons z xs x in_x) [
  | inl here ↦ subst (λ (w : X). R w y) here (pairs_first R z (xs ++ ys) y pairs (Contains-append_right xs ys y in_y))
  | inr there ↦ pairs_across R xs ys x y (AllPairs-tail R z (xs ++ ys) pairs) there in_y
]

-- ---- distinct values stay distinct when some events are removed

called_still : (p : Event → Bool) (events : List Event) (v : ℕ) → Contains (called_values (filter p events)) v
    → Contains (called_values events) v
called_still p events v among =
    let from = kept (λ (e : Event). called_value e.what) (filter p events) v among in
    keeps (λ (e : Event). called_value e.what) events from.0 v (passed_filter p events from.0 from.1).0 from.2

called_distinct : (p : Event → Bool) (events : List Event) → AreDistinct (called_values events)
    → AreDistinct (called_values (filter p events))
called_distinct p [] distinct = distinct
called_distinct p (e ∷ events) distinct = by_value (called_value e.what) refl (called_distinct p events)
  where
    by_value : (value : Option ℕ) → called_value e.what ≡ value
        → (AreDistinct (called_values events) → AreDistinct (called_values (filter p events)))
        → AreDistinct (called_values (filter p (e ∷ events)))
    by_value None is deeper =
        let rest = deeper (rw is at distinct) in
        elim (cases_Bool (p e)) [ inl stays ↦ rw (stays, is) rest | inr gone ↦ rw gone rest ]
    by_value (Some v) is deeper =
        let whole : AreDistinct (v ∷ called_values events) = rw is at distinct in
        let rest = deeper (AllPairs-tail (λ a b. a ≢ b) v (called_values events) whole) in
        elim (cases_Bool (p e)) [
          | inl stays ↦ rw (stays, is) (AllPairs-cons (λ a b. a ≢ b) v (called_values (filter p events))
              (all_members (λ w. v ≢ w) (called_values (filter p events))
              (λ w among. pairs_first (λ a b. a ≢ b) v (called_values events) w whole (called_still p events w among))) rest)
          | inr gone ↦ rw gone rest
        ]

distinct_kept : (p : Event → Bool) (initial : List ℕ) (events : List Event)
    → AreDistinct (initial ++ called_values events)
    → AreDistinct (initial ++ called_values (filter p events))
distinct_kept p initial events distinct =
    pairs_append (λ a b. a ≢ b) initial (called_values (filter p events)) (pairs_front (λ a b. a ≢ b) initial (called_values events) distinct)
    (called_distinct p events (pairs_back (λ a b. a ≢ b) initial (called_values events) distinct))
    (λ v w in_v in_w. pairs_across (λ a b. a ≢ b) initial (called_values events) v w distinct in_v (called_still p events w in_w))

-- ---- the events of a thread, and its pending call

-- complete turns, or complete turns and a pending call
turns_split : (xs : List Event) → TakesTurnsSoFar xs
    → TakesTurns xs ⊎ ((done : List Event) × (call : Event) × (xs ≡ done ++ call ∷ []) × TakesTurns done
    × (is_call call.what ≡ true))
turns_split [] turns = inl tt
turns_split (x ∷ []) turns = inr ([], x, refl, tt, turns)
turns_split (x ∷ answer ∷ rest) turns = elim (turns_split rest turns.1) [
  | inl whole ↦ inl (turns.0, whole)
  | inr (done, call, is, whole, waits) ↦ inr (x ∷ answer ∷ done, call, ap (λ (es : List Event). x ∷ answer ∷ es) is, (turns.0, whole), waits)
]

pub filter_none : (p : Event → Bool) (xs : List Event) → ((x : Event) → Contains xs x → p x ≡ false) → filter p xs ≡ []
filter_none p [] each = refl
filter_none p (x ∷ xs) each = rw (each x (zero, omega arith, refl)) (filter_none p xs (λ y among. each y (suc among.0, omega (arith, among.1), among.2)))

pub filter_all : (p : Event → Bool) (xs : List Event) → ((x : Event) → Contains xs x → p x ≡ true) → filter p xs ≡ xs
filter_all p [] each = refl
filter_all p (x ∷ xs) each = rw (each x (contains_head x xs)) (ap (λ (es : List Event). x ∷ es) (filter_all p xs (λ y among. each y (one_deeper x xs y among))))

-- the last of a list whose tickets rise is above all
last_whole : (xs : List Event) (e : Event) → Contains xs e → TicketsRise xs
    → (l : Event) × (last_or None xs ≡ Some l) × (e.ticket ≤ l.ticket)
last_whole [] e among rise = absurd (not_in_none e among)
last_whole (x ∷ []) e among rise = elim (contains_cons x [] e among) [
  | inl here ↦ let same = ap (λ (y : Event). y.ticket) here in (x, refl, omega (arith, same))
  | inr there ↦ absurd (not_in_none e there)
]
last_whole (x ∷ y ∷ ys) e among rise =
    let deeper = last_whole (y ∷ ys) y (contains_head y ys) (rises_later x (y ∷ ys) rise) in
    let less : x.ticket < y.ticket = rise zero (suc zero) x (omega arith) (omega arith) in
    elim (contains_cons x (y ∷ ys) e among) [
      | inl here ↦ let same = ap (λ (z : Event). z.ticket) here in (deeper.0, deeper.1, omega (arith, same, less, deeper.2))
      | inr there ↦ last_whole (y ∷ ys) e there (rises_later x (y ∷ ys) rise)
    ]

pub below_next : (xs : List Event) (e : Event) → TicketsRise xs → Contains xs e → e.ticket < next_ticket xs
below_next xs e rise among = let last = last_whole xs e among rise in rw last.1 (omega (arith, last.2))

-- ---- returns, one after another

pub return_of : (n : ℕ) (answers : List Answer) (r : Event) → Contains (returns_from n answers) r
    → (a : Answer) × Contains answers a × (r.thread ≡ a.call.thread) × (r.what ≡ a.what) × (n ≤ r.ticket)
    × (r.ticket < n + length answers)
return_of n [] r among = absurd (not_in_none r among)
return_of n (a ∷ rest) r among =
    elim (contains_cons (record { ticket = n; thread = a.call.thread; what = a.what }) (returns_from (n + 1) rest) r among) [
      | inl here ↦
          let tickets : n ≡ r.ticket = ap (λ (e : Event). e.ticket) here in
          (a, contains_head a rest, sym (ap (λ (e : Event). e.thread) here), sym (ap (λ (e : Event). e.what) here), omega (arith, tickets), omega (arith, tickets))
      | inr there ↦
          let found = return_of (n + 1) rest r there in
          (found.0, one_deeper a rest found.0 found.1, found.2, found.3, omega (arith, found.4), omega (arith, found.5))
    ]

pub returns-append : (n : ℕ) (xs ys : List Answer)
    → returns_from n (xs ++ ys) ≡ returns_from n xs ++ returns_from (n + length xs) ys
returns-append n [] ys = ap (λ m. returns_from m ys) (let e : n ≡ n + 0 = omega arith in e)
returns-append n (a ∷ xs) ys =
    let first : Event = record { ticket = n; thread = a.call.thread; what = a.what } in
    let e : (n + 1) + length xs ≡ n + suc (length xs) = omega arith in
    ap (λ (es : List Event). first ∷ es) (returns-append (n + 1) xs ys ∙ ap (λ m. returns_from (n + 1) xs ++ returns_from m ys) e)

returns_rise : (n : ℕ) (answers : List Answer) → TicketsRise (returns_from n answers)
returns_rise n [] = pairs_none (λ e f. e.ticket < f.ticket)
returns_rise n (a ∷ rest) = AllPairs-cons (λ e f. e.ticket < f.ticket) (record { ticket = n; thread = a.call.thread; what = a.what }) (returns_from (n + 1) rest)
    (all_members (λ r. n < r.ticket) (returns_from (n + 1) rest) (λ r among. let found = return_of (n + 1) rest r among in omega (arith, found.4)))
    (returns_rise (n + 1) rest)

pub no_return : (n t : ℕ) (answers : List Answer) → ((a : Answer) → Contains answers a → a.call.thread ≢ t)
    → projection t (returns_from n answers) ≡ []
no_return n t [] none = refl
no_return n t (a ∷ rest) none =
    rw (ne_eqb a.call.thread t (none a (contains_head a rest))) (no_return (n + 1) t rest (λ b among. none b (one_deeper a rest b among)))

one_return : (n : ℕ) (answers : List Answer) (a : Answer) → Contains answers a
    → AllPairs (λ a b. a.call.thread ≢ b.call.thread) answers
    → (r : Event) × (projection a.call.thread (returns_from n answers) ≡ r ∷ []) × (r.what ≡ a.what)
one_return n [] a among apart = absurd (not_in_none a among)
one_return n (b ∷ rest) a among apart = elim (contains_cons b rest a among) [
  | inl here ↦
      let first : Event = record { ticket = n; thread = b.call.thread; what = b.what } in
      let threads : b.call.thread ≡ a.call.thread = ap (λ (c : Answer). c.call.thread) here in
      let others : projection a.call.thread (returns_from (n + 1) rest) ≡ [] =
      no_return (n + 1) a.call.thread rest (λ c in_c same. pairs_first (λ a b. a.call.thread ≢ b.call.thread) b rest c apart in_c (threads ∙ sym same)) in
      (first, rw (eq-eqb b.call.thread a.call.thread threads) (ap (λ (es : List Event). first ∷ es) others), ap (λ (c : Answer). c.what) here)
  | inr there ↦
      let found = one_return (n + 1) rest a there (AllPairs-tail (λ a b. a.call.thread ≢ b.call.thread) b rest apart) in
      let other : b.call.thread ≢ a.call.thread = pairs_first (λ a b. a.call.thread ≢ b.call.thread) b rest a apart there in
      (found.0, rw (ne_eqb b.call.thread a.call.thread other) found.1, found.2)
]

no_called : (events : List Event) → All (λ r. is_call r.what ≡ false) events → called_values events ≡ []
no_called [] rets = refl
no_called (r ∷ rest) rets =
    rw (no_value r.what (rets zero r (omega arith))) (no_called rest (λ k d below. rets (suc k) d (omega arith)))

-- ---- answers

-- if a conjunction holds, so does each part
and_true : (a b : Bool) → (a && b) ≡ true → (a ≡ true) × (b ≡ true)
and_true true b is = (refl, is)
and_true false b is = cc

pub and_false : (a b : Bool) → b ≡ true → (a && not b) ≡ false
and_false true b is = ap not is
and_false false b is = refl

module _ (initial : List ℕ) (events : List Event) (history : IsHistoryFrom initial events) where
  -- a call is pending by the test if and only if it is pending
  pub pending_by_test : (e : Event) → Contains events e → is_pending events e ≡ true → IsPendingCall events e
  pending_by_test e among test =
      let last = last_above events e among history.tickets_rise in
      let parts = and_true (is_call e.what) (option_map_or (λ (l : Event). nat_eq l.ticket e.ticket) (last_of e.thread events) false) test in
      let here : nat_eq last.0.ticket e.ticket ≡ true = rw last.1 at parts.1 in
      let same = one_by_ticket events last.0 e history.tickets_rise (last_in events e.thread last.0 last.1).0 among (eqb-true last.0.ticket e.ticket here) in
      last_is_pending e.thread events e (last.1 ∙ ap (λ y. Some y) same) parts.0

  pub test_of_pending : (e : Event) → IsPendingCall events e → is_pending events e ≡ true
  test_of_pending e pending =
      let is = pending_is_last e.thread events e pending in
      rw (is.1, is.0) (eq-eqb e.ticket e.ticket refl)

  -- the answers are to pending calls, of their kinds, and at most one in a thread
  pub record AreAnswers (answered : List Answer) : Type 0 where
    pub pending : (a : Answer) → Contains answered a → Contains events a.call × IsPendingCall events a.call
    pub fits : (a : Answer) → Contains answered a → answers a.call.what a.what ≡ true
    pub apart : AllPairs (λ a b. a.call.thread ≢ b.call.thread) answered

  module _ (answered : List Answer) (are : AreAnswers answered)
      (few : next_ticket events + length answered ≤ MAX_TICKET + 1) where
    abbrev pub out : Event → Bool
    out e = is_left_out events answered e

    abbrev pub returns : List Event
    returns = returns_from (next_ticket events) answered

    pub only_pending : (e : Event) → Contains events e → out e ≡ true → IsPendingCall events e
    only_pending e among gone = pending_by_test e among (and_true (is_pending events e) (not (is_answered answered e)) gone).0

    pub only_returns : All (λ r. is_call r.what ≡ false) returns
    only_returns = all_members (λ r. is_call r.what ≡ false) returns (λ r among.
        let found = return_of (next_ticket events) answered r among in
        ap is_call found.3 ∙ answer_is_return found.0.call.what found.0.what (are.fits found.0 found.1))

    pub after_last : (e r : Event) → Contains events e → Contains returns r → e.ticket < r.ticket
    after_last e r in_e in_r =
        let found = return_of (next_ticket events) answered r in_r in
        let below = below_next events e history.tickets_rise in_e in
        omega (arith, below, found.4)

    -- an answered call is one of these
    answer_of : (e : Event) → Contains events e → is_answered answered e ≡ true
        → (a : Answer) × Contains answered a × (a.call ≡ e)
    answer_of e among is =
        let found = Any-from_list_any (λ (a : Answer). nat_eq a.call.ticket e.ticket) answered is in
        let in_a : Contains answered found.1 = (found.0, found.2, found.3) in
        (found.1, in_a, one_by_ticket events found.1.call e history.tickets_rise (are.pending found.1 in_a).0 among (eqb-true found.1.call.ticket e.ticket found.4))

    pub is_answer : (a : Answer) → Contains answered a → is_answered answered a.call ≡ true
    is_answer a among =
        list_any_at (λ (b : Answer). nat_eq b.call.ticket a.call.ticket) answered among.0 a among.1
        (eq-eqb (get_or answered among.0 a).call.ticket a.call.ticket (ap (λ (b : Answer). b.call.ticket) among.2))

    pub tickets_rise : TicketsRise (completed_by events answered)
    tickets_rise = pairs_append (λ e f. e.ticket < f.ticket) (keeping out events) returns
        (AllPairs-filter (λ e f. e.ticket < f.ticket) (λ e. not (out e)) events history.tickets_rise) (returns_rise (next_ticket events) answered)
        (λ e r in_e in_r. after_last e r (passed_filter (λ e. not (out e)) events e in_e).0 in_r)

    -- an event that isn't the last of its thread stays
    stays_before : (t : ℕ) (x l : Event) → Contains events x → x.thread ≡ t → last_of t events ≡ Some l
        → x.ticket < l.ticket → not (out x) ≡ true
    stays_before t x l among own last less = elim (cases_Bool (out x)) [
      | inr there ↦ ap not there
      | inl gone ↦
          let is = (pending_is_last x.thread events x (only_pending x among gone)).0 in
          let same : x ≡ l = let both : Some x ≡ Some l = sym is ∙ ap (λ u. last_of u events) own ∙ last in cc in
          let tickets = ap (λ (e : Event). e.ticket) same in
          absurd (omega (arith, tickets, less))
    ]

    -- in a thread without a pending call all events stay and none is added
    turns_of_idle : (t : ℕ) → TakesTurns (projection t events)
        → TakesTurns (keeping out (projection t events) ++ projection t returns)
    turns_of_idle t whole =
        let idle : pending_call t events ≡ None = nothing_after_turns (projection t events) whole in
        let stay : keeping out (projection t events) ≡ projection t events = filter_all (λ e. not (out e)) (projection t events) (λ x among.
        let there = passed_filter (λ e. nat_eq e.thread t) events x among in
        elim (cases_Bool (out x)) [
          | inr stays ↦ ap not stays
          | inl gone ↦
              let clash : None ≡ Some x = sym idle ∙ ap (λ u. pending_call u events) (sym (eqb-true x.thread t there.1)) ∙ only_pending x there.0 gone in cc
        ]) in
        let none : projection t returns ≡ [] = no_return (next_ticket events) t answered (λ a among same.
        let clash : None ≡ Some a.call = sym idle ∙ ap (λ u. pending_call u events) (sym same) ∙ (are.pending a among).1 in cc) in
        subst TakesTurns (sym (ap (λ (es : List Event). keeping out (projection t events) ++ es) none
        ∙ append-nil (keeping out (projection t events)) ∙ stay)) whole

    -- in a thread with a pending call, this returns or is removed
    turns_of_pending : (t : ℕ) (done : List Event) (call : Event) → projection t events ≡ done ++ call ∷ []
        → TakesTurns done → is_call call.what ≡ true
        → TakesTurns (keeping out (projection t events) ++ projection t returns)
    turns_of_pending t done call is whole waits =
        let last : last_of t events ≡ Some call = ap (last_or None) is ∙ last_or-push None done call in
        let here = last_in events t call last in
        let pending : IsPendingCall events call = last_is_pending call.thread events call (ap (λ u. last_of u events) here.1 ∙ last) waits in
        let rises : TicketsRise (done ++ call ∷ []) = subst TicketsRise is
        (AllPairs-filter (λ e f. e.ticket < f.ticket) (λ e. nat_eq e.thread t) events history.tickets_rise) in
        let stay : keeping out (projection t events) ≡ done ++ keeping out (call ∷ []) =
        ap (keeping out) is ∙ filter-append (λ e. not (out e)) done (call ∷ [])
        ∙ ap (λ (es : List Event). es ++ keeping out (call ∷ [])) (filter_all (λ e. not (out e)) done (λ x among.
        let in_own : Contains (projection t events) x = subst (λ (es : List Event). Contains es x) (sym is) (Contains-append_left done (call ∷ []) x among) in
        let there = passed_filter (λ e. nat_eq e.thread t) events x in_own in
        stays_before t x call there.0 (eqb-true x.thread t there.1) last
        (pairs_across (λ e f. e.ticket < f.ticket) done (call ∷ []) x call rises among (contains_head call [])))) in
        subst (λ (es : List Event). TakesTurns (es ++ projection t returns)) (sym stay) (by_answer here.0 here.1 pending (cases_Bool (is_answered answered call)))
      where
        by_answer : Contains events call → call.thread ≡ t → IsPendingCall events call
            → ((is_answered answered call ≡ true) ⊎ (is_answered answered call ≡ false))
            → TakesTurns ((done ++ keeping out (call ∷ [])) ++ projection t returns)
        by_answer in_events own pending (inl yields) =
            let found = answer_of call in_events yields in
            let gone : out call ≡ false = and_false (is_pending events call) (is_answered answered call) yields in
            let one = one_return (next_ticket events) answered found.0 found.1 are.apart in
            let threads : found.0.call.thread ≡ t = ap (λ (e : Event). e.thread) found.2 ∙ own in
            let returned : projection t returns ≡ one.0 ∷ [] = ap (λ u. projection u returns) (sym threads) ∙ one.1 in
            let kinds : answers call.what one.0.what ≡ true =
            subst (λ (w : What). answers call.what w ≡ true) (sym one.2)
            (subst (λ (e : Event). answers e.what found.0.what ≡ true) found.2 (are.fits found.0 found.1)) in
            let stays : keeping out (call ∷ []) ≡ call ∷ [] = rw gone refl in
            let parts : (done ++ keeping out (call ∷ [])) ++ projection t returns ≡ done ++ call ∷ one.0 ∷ [] =
            ap (λ (es : List Event). (done ++ es) ++ projection t returns) stays ∙ ap (λ (es : List Event). (done ++ call ∷ []) ++ es) returned
            ∙ append_assoc done (call ∷ []) (one.0 ∷ []) in
            subst TakesTurns (sym parts) (TakesTurns-append done (call ∷ one.0 ∷ []) whole (kinds, tt))
        by_answer in_events own pending (inr silent) =
            let gone : out call ≡ true = rw (test_of_pending call pending, silent) refl in
            let left : keeping out (call ∷ []) ≡ [] = rw gone refl in
            let none : projection t returns ≡ [] = no_return (next_ticket events) t answered (λ a among same.
            let as_last = (pending_is_last a.call.thread events a.call (are.pending a among).1).0 in
            let mine = (pending_is_last call.thread events call pending).0 in
            let one : a.call ≡ call =
            let both : Some a.call ≡ Some call = sym as_last ∙ ap (λ u. last_of u events) (same ∙ sym own) ∙ mine in cc in
            let clash : true ≡ false = sym (is_answer a among) ∙ ap (is_answered answered) one ∙ silent in cc) in
            let parts : (done ++ keeping out (call ∷ [])) ++ projection t returns ≡ done =
            ap (λ (es : List Event). (done ++ es) ++ projection t returns) left ∙ ap (λ (es : List Event). (done ++ []) ++ es) none
            ∙ append-nil (done ++ []) ∙ append-nil done in
            subst TakesTurns (sym parts) whole

    turns : (t : ℕ) → TakesTurns (projection t (completed_by events answered))
    turns t =
        let own : projection t (completed_by events answered) ≡ keeping out (projection t events) ++ projection t returns =
        filter-append (λ e. nat_eq e.thread t) (keeping out events) returns
        ∙ ap (λ (es : List Event). es ++ projection t returns) (filters_swap (λ e. nat_eq e.thread t) (λ e. not (out e)) events) in
        subst TakesTurns (sym own) (elim (turns_split (projection t events) (history.threads_take_turns t)) [
          | inl whole ↦ turns_of_idle t whole
          | inr (done, call, is, whole, waits) ↦ turns_of_pending t done call is whole waits
        ])

    pub is_complete : IsCompleteFrom initial (completed_by events answered)
    is_complete = record {
      complete = record {
        tickets_rise = tickets_rise;
        tickets_in_range = All-append (λ e. e.ticket ≤ MAX_TICKET) (keeping out events) returns
            (All-filter (λ e. not (out e)) (λ e. e.ticket ≤ MAX_TICKET) events history.tickets_in_range)
            (all_members (λ r. r.ticket ≤ MAX_TICKET) returns (λ r among.
            let found = return_of (next_ticket events) answered r among in omega (arith, found.5, few)));
        threads_in_range = All-append (λ e. e.thread ≤ MAX_THREAD) (keeping out events) returns
            (All-filter (λ e. not (out e)) (λ e. e.thread ≤ MAX_THREAD) events history.threads_in_range)
            (all_members (λ r. r.thread ≤ MAX_THREAD) returns (λ r among.
            let found = return_of (next_ticket events) answered r among in
            let most = All-contains (λ e. e.thread ≤ MAX_THREAD) events found.0.call history.threads_in_range (are.pending found.0 found.1).0 in
            omega (arith, found.2, most)));
        threads_take_turns = turns;
        values_are_distinct = pairs_back (λ v w. v ≢ w) initial (called_values (completed_by events answered)) distinct;
      };
      values_are_distinct = distinct;
    }
      where
        distinct : AreDistinct (initial ++ called_values (completed_by events answered))
        distinct =
            let called : called_values (completed_by events answered) ≡ called_values (keeping out events) =
            filter_map-append (λ e. called_value e.what) (keeping out events) returns
            ∙ ap (λ (vs : List ℕ). called_values (keeping out events) ++ vs) (no_called returns only_returns)
            ∙ append-nil (called_values (keeping out events)) in
            subst (λ (vs : List ℕ). AreDistinct (initial ++ vs)) (sym called)
            (distinct_kept (λ e. not (out e)) initial events history.values_are_distinct)
