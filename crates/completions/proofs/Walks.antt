-- Walks over events: the state of each thread, and the lists that are made.
use Rattle.std.proofs.Common.{◌≡◌, ℕ, zero, suc, ◌+◌, ◌-◌, ◌<◌, ◌≤◌, ◌⊎◌, ◌++◌, inl, inr, Bool, true, false, List, []}
use Rattle.std.proofs.Common.{◌∷◌, length, get_or, set}
use Rattle.std.proofs.Common.{take, not, Option, Some, None, Result, Ok, Err, refl, ap, sym, subst, ◌∙◌, arith}
use Rattle.std.proofs.Common.{ap₂, get_or-set_other, get_or-set_same, length-set}
use Rattle.std.proofs.lemmas.List.{take_more}
use Rattle.std.specs.Prelude.{All, Contains, filter, filter_map, is_ok, option_to_list, IsPermutation, MatchResult}
use Rattle.std.specs.Prelude.{nat_eq, slice_get}
use Rattle.std.specs.List.{cons_option, last_or}
use Rattle.std.specs.List.Sorted.{IsBinarySearchResult, IsNonDecreasingBy}
use Rattle.std.specs.Ordering.{nat_cmp}
use Rattle.std.proofs.lemmas.List.{append_assoc, append-nil, get_or_default, get_or-take, length-append}
use Rattle.std.proofs.lemmas.List.{length-take-le}
use Rattle.std.proofs.lemmas.Bool.{cases_Bool, cases_eq, cases_lt, eq-eqb, eqb-true, ne_eqb}
use Rattle.std.proofs.lemmas.List.Elements.{filter-append, filter_map-append}
use Rattle.std.proofs.lemmas.List.Folds.{Any-from_list_any, list_any_at}
use Rattle.std.proofs.lemmas.List.Sorted.{Contains-permutation, IsPermutation-sym, searched}
use Rattle.std.proofs.lemmas.Option.{slice_get_within}
use Rattle.event_records.specs.declared.event.Event.{Event}
use Rattle.event_records.specs.declared.event.What.{What}
use Rattle.event_records.specs.declared.event.What.TheVariants.{CallEnq, CallDeq, RetEnq, RetNot, RetDeq, RetEmpty}
use Rattle.event_records.specs.declared.limits.TheConstants.{MAX_THREAD, MAX_THREADS}
use Rattle.event_records.specs.Projection.{projection}
use Rattle.history_merge.proofs.Turns.{last_or-push, projection-push_other, projection-push_own}
use Rattle.completions.specs.declared.answers.Answer.{Answer}
use Rattle.completions.proofs.Whole.{filter_all, filter_none, pending_by_test, returns-append}
use Rattle.completions.specs.Completed.{given_value, given_values, is_given, is_left_out, is_pending, next_ticket}
use Rattle.completions.specs.Completed.{paired, returns_from, taken_value, taken_values}
use Rattle.completions.specs.Inner.Walk.{AreGiven, AreLast, HasWalked}
use Rattle.completions.specs.Pending.{IsHistoryFrom, IsPendingCall}
use Rattle.completions.specs.declared.walk.Walk.{Walk}
use Rattle.history_merge.proofs.Lists.{option_cons, all_members}

-- an event for places past the end of a list
abbrev pub past_end : Event
past_end = record { ticket = 0; thread = 0; what = CallEnq 0 }

-- one more event
pub noted : (events : List Event) (last : List (Option Event)) (e : Event) (t : ℕ) → t ≡ e.thread → t < MAX_THREADS
    → AreLast events last
    → AreLast (events ++ e ∷ []) (set last t (Some e))
noted events last e t is below are = (
  length-set last t (Some e) ∙ are.0,
  λ thread inside. elim (cases_eq thread t) [
    | inl same ↦
        let threads : thread ≡ e.thread = same ∙ is in
        let read : get_or (set last t (Some e)) thread None ≡ Some e =
        ap (λ n. get_or (set last t (Some e)) n None) same ∙ get_or-set_same last t (Some e) None (omega (arith, below, are.0)) in
        let own : last_or None (projection thread (events ++ e ∷ [])) ≡ Some e =
        ap (λ n. last_or None (projection n (events ++ e ∷ []))) threads ∙ ap (last_or None) (projection-push_own events e)
        ∙ last_or-push None (projection e.thread events) e in
        read ∙ sym own
    | inr other ↦
        let read : get_or (set last t (Some e)) thread None ≡ get_or last thread None = get_or-set_other last t thread (Some e) None other in
        let rest : projection thread (events ++ e ∷ []) ≡ projection thread events =
        projection-push_other events e thread (ne_eqb e.thread thread (λ s. other (sym s ∙ sym is))) in
        read ∙ are.1 thread inside ∙ sym (ap (last_or None) rest)
  ],
)

-- a value that is among the given ones was given
contained_is_given : (events : List Event) (given : List ℕ) (v : ℕ) → AreGiven events given → Contains given v
    → is_given events v ≡ true
contained_is_given events given v are among =
    let there = (are.0 v).1 among in
    list_any_at (λ w. nat_eq w v) (given_values events) there.0 v there.1 (eq-eqb (get_or (given_values events) there.0 v) v there.2)

-- a value at a place of the given ones was given
pub stands_if_given : (events : List Event) (given : List ℕ) (v i d : ℕ) → AreGiven events given → i < length given
    → get_or given i d ≡ v
    → is_given events v ≡ true
stands_if_given events given v i d are below is =
    contained_is_given events given v are (i, below, get_or_default given i v d below ∙ is)

-- whether a binary search finds a value
pub found_if_given : (events : List Event) (given : List ℕ) (v : ℕ) (r : Result ℕ ℕ) → AreGiven events given
    → IsBinarySearchResult (λ y. nat_cmp y v) given r → is_ok r ≡ is_given events v
found_if_given events given v r are search = by_result r (searched given v r search are.1)
  where
    known : Contains given v → is_given events v ≡ true
    known = contained_is_given events given v are

    unknown : ¬ (Contains given v) → is_given events v ≡ false
    unknown none = elim (cases_Bool (is_given events v)) [
      | inr isnt ↦ isnt
      | inl is ↦
          let any = Any-from_list_any (λ w. nat_eq w v) (given_values events) is in
          let among : Contains (given_values events) v = subst (Contains (given_values events)) (eqb-true any.1 v any.4) (any.0, any.2, any.3) in
          absurd (none ((are.0 v).0 among))
    ]

    by_result : (r : Result ℕ ℕ) → MatchResult r (λ i. (i < length given) × (get_or given i 0 ≡ v))
        (λ i. (i ≤ length given) × ((k : ℕ) → k < i → get_or given k 0 < v) × ((k : ℕ) → i ≤ k → k < length given → v < get_or given k 0))
        → is_ok r ≡ is_given events v
    by_result (Ok i) found = sym (known (i, found.0, get_or_default given i v 0 found.0 ∙ found.1))
    by_result (Err i) none = sym (unknown (λ among. elim (cases_lt among.0 i) [
      | inl before ↦ let read = get_or_default given among.0 0 v among.1 ∙ among.2 in let less = none.1 among.0 before in omega (arith, read, less)
      | inr behind ↦ let read = get_or_default given among.0 0 v among.1 ∙ among.2 in let less = none.2 among.0 behind among.1 in omega (arith, read, less)
    ]))

cons_append : {X : Type 0} (o : Option X) (xs ys : List X) → cons_option o (xs ++ ys) ≡ cons_option o xs ++ ys
cons_append None xs ys = refl
cons_append (Some x) xs ys = refl

-- one more event that passes, or doesn't
pub filtered_more : (p : Event → Bool) (xs : List Event) (i : ℕ) (d : Event) → i < length xs → p (get_or xs i d) ≡ true
    → filter p (take (i + 1) xs) ≡ filter p (take i xs) ++ get_or xs i d ∷ []
filtered_more p xs i d below is = ap (filter p) (take_more xs i d below) ∙ filter-append p (take i xs) (get_or xs i d ∷ []) ∙ rw is refl

pub filtered_same : (p : Event → Bool) (xs : List Event) (i : ℕ) (d : Event) → i < length xs
    → p (get_or xs i d) ≡ false
    → filter p (take (i + 1) xs) ≡ filter p (take i xs)
filtered_same p xs i d below is =
    ap (filter p) (take_more xs i d below) ∙ filter-append p (take i xs) (get_or xs i d ∷ []) ∙ rw is (append-nil (filter p (take i xs)))

-- one more is counted
pub counted_more : (p : Event → Bool) (xs : List Event) (i : ℕ) (d : Event) (n : ℕ) → i < length xs
    → p (get_or xs i d) ≡ true
    → n ≡ length (filter p (take i xs)) → n + 1 ≡ length (filter p (take (i + 1) xs))
counted_more p xs i d n below is counted =
    let more = ap (λ (l : List Event). length l) (filtered_more p xs i d below is) in
    omega (arith, more, counted, length-append (filter p (take i xs)) (get_or xs i d ∷ []))

-- no more are counted
pub counted_same : (p : Event → Bool) (xs : List Event) (i : ℕ) (d : Event) (n : ℕ) → i < length xs
    → p (get_or xs i d) ≡ false
    → n ≡ length (filter p (take i xs)) → n ≡ length (filter p (take (i + 1) xs))
counted_same p xs i d n below is counted = counted ∙ ap (λ (l : List Event). length l) (sym (filtered_same p xs i d below is))

-- one more element gives a value
pub made_more : {X Y : Type 0} (h : X → Option Y) (xs : List X) (i : ℕ) (d : X) (y : Y) → i < length xs
    → h (get_or xs i d) ≡ Some y
    → filter_map h (take (i + 1) xs) ≡ filter_map h (take i xs) ++ y ∷ []
made_more h xs i d y below is = ap (filter_map h) (take_more xs i d below) ∙ filter_map-append h (take i xs) (get_or xs i d ∷ []) ∙ rw is refl

pub made_same : {X Y : Type 0} (h : X → Option Y) (xs : List X) (i : ℕ) (d : X) → i < length xs
    → h (get_or xs i d) ≡ None
    → filter_map h (take (i + 1) xs) ≡ filter_map h (take i xs)
made_same h xs i d below is =
    ap (filter_map h) (take_more xs i d below) ∙ filter_map-append h (take i xs) (get_or xs i d ∷ []) ∙ rw is (append-nil (filter_map h (take i xs)))

-- an event other than the return of a value gives none
pub not_given : (what : What) → ((v : ℕ) → what ≡ RetDeq v → ⊥) → given_value what ≡ None
not_given (RetDeq v) other = absurd (other v refl)
not_given (CallEnq v) other = refl
not_given CallDeq other = refl
not_given RetEnq other = refl
not_given RetNot other = refl
not_given RetEmpty other = refl

-- the sorted values are those that were given
pub sorted_are_given : (events : List Event) (given sorted : List ℕ) → given ≡ given_values events
    → IsPermutation given sorted
    → IsNonDecreasingBy (λ x. x) sorted → AreGiven events sorted
sorted_are_given events given sorted is moved rises = (
  λ v. (
    λ among. Contains-permutation given sorted v moved (subst (λ (l : List ℕ). Contains l v) (sym is) among),
    λ among. subst (λ (l : List ℕ). Contains l v) is (Contains-permutation sorted given v (IsPermutation-sym given sorted moved) among),
  ),
  λ i j near inside. rises i j 0 near inside,
)

-- the values taken by one more event
taken_push : (before xs : List Event) (e : Event)
    → taken_values before (xs ++ e ∷ []) ≡ taken_values before xs ++ option_to_list (taken_value (before ++ xs) e)
taken_push before [] e =
    option_cons (taken_value before e) [] ∙ append-nil (option_to_list (taken_value before e))
    ∙ ap (λ (es : List Event). option_to_list (taken_value es e)) (sym (append-nil before))
taken_push before (x ∷ xs) e =
    ap (cons_option (taken_value before x)) (taken_push (before ++ x ∷ []) xs e)
    ∙ cons_append (taken_value before x) (taken_values (before ++ x ∷ []) xs) (option_to_list (taken_value ((before ++ x ∷ []) ++ xs) e))
    ∙ ap (λ (es : List Event). cons_option (taken_value before x) (taken_values (before ++ x ∷ []) xs) ++ option_to_list (taken_value es e))
    (append_assoc before (x ∷ []) xs)

-- the values given by one more event
given_push : (events : List Event) (e : Event)
    → given_values (events ++ e ∷ []) ≡ given_values events ++ option_to_list (given_value e.what)
given_push events e =
    filter_map-append (λ (x : Event). given_value x.what) events (e ∷ [])
    ∙ ap (λ (l : List ℕ). given_values events ++ l) (option_cons (given_value e.what) [] ∙ append-nil (option_to_list (given_value e.what)))

-- one more event is noted
pub walked_on : (events : List Event) (e : Event) (old new : Walk) → HasWalked events old
    → AreLast (events ++ e ∷ []) new.last
    → new.given.items ≡ old.given.items ++ option_to_list (given_value e.what)
    → new.taken.items ≡ old.taken.items ++ option_to_list (taken_value events e) → HasWalked (events ++ e ∷ []) new
walked_on events e old new walked last given taken = record {
  last = last;
  given = given ∙ ap (λ (l : List ℕ). l ++ option_to_list (given_value e.what)) walked.given ∙ sym (given_push events e);
  taken = taken ∙ ap (λ (l : List ℕ). l ++ option_to_list (taken_value events e)) walked.taken ∙ sym (taken_push [] events e);
}

-- an event other than the return of an enqueue takes no value
pub not_taken : (before : List Event) (e : Event) → (e.what ≡ RetEnq → ⊥) → taken_value before e ≡ None
not_taken before e other = by_what e.what other
  where
    by_what : (what : What) → (what ≡ RetEnq → ⊥) → taken_value before (record e { what = what }) ≡ None
    by_what RetEnq other = absurd (other refl)
    by_what (CallEnq v) other = refl
    by_what CallDeq other = refl
    by_what RetNot other = refl
    by_what (RetDeq v) other = refl
    by_what RetEmpty other = refl

-- before an event whose ticket is below that of each pending call, no call is pending
pub none_before : (initial : List ℕ) (events : List Event) (n least : ℕ) → IsHistoryFrom initial events → 0 < n
    → n ≤ length events
    → (get_or events (n - 1) past_end).ticket < least
    → ((call : Event) → call.thread ≤ MAX_THREAD → IsPendingCall events call → least ≤ call.ticket)
    → All (λ e. is_pending events e ≡ false) (take n events)
none_before initial events n least history some few below each = all_members (λ e. is_pending events e ≡ false) (take n events)
    (λ e among. elim (cases_Bool (is_pending events e)) [
      | inr other ↦ other
      | inl pending ↦
          let long = length-take-le n events few in
          let near : among.0 < n = omega (arith, among.1, long) in
          let inside : among.0 < length events = omega (arith, near, few) in
          let is : get_or events among.0 past_end ≡ e =
          get_or_default events among.0 past_end e inside ∙ sym (get_or-take n events among.0 e near) ∙ among.2 in
          let there : Contains events e = (among.0, inside, get_or_default events among.0 e past_end inside ∙ is) in
          let call = pending_by_test initial events history e there pending in
          let thread : e.thread ≤ MAX_THREAD = subst (λ (x : Event). x.thread ≤ MAX_THREAD) is (history.threads_in_range among.0 past_end inside) in
          let least_is = each e thread call in
          let ticket = ap (λ (x : Event). x.ticket) is in
          absurd (elim (cases_lt among.0 (n - 1)) [
            | inl earlier ↦
                let rise = history.tickets_rise among.0 (n - 1) past_end earlier (omega (arith, some, few)) in
                omega (arith, rise, ticket, below, least_is)
            | inr last ↦
                let same = ap (λ (k : ℕ). (get_or events k past_end).ticket) (let e : among.0 ≡ n - 1 = omega (arith, last, near) in e) in
                omega (arith, same, ticket, below, least_is)
          ])
    ])

-- a test that no element passes leaves none
pub filter_no : (p : Event → Bool) (xs : List Event) → All (λ e. p e ≡ false) xs → filter p xs ≡ []
filter_no p xs none = filter_none p xs (λ x among. subst (λ y. p y ≡ false) among.2 (none among.0 x among.1))

-- if none of the events is pending, none is removed
pub all_stay : (events xs : List Event) (answers : List Answer) → All (λ e. is_pending events e ≡ false) xs
    → filter (λ e. not (is_left_out events answers e)) xs ≡ xs
all_stay events xs answers none = filter_all (λ e. not (is_left_out events answers e)) xs
    (λ x among. rw (subst (λ y. is_pending events y ≡ false) among.2 (none among.0 x among.1)) refl)

-- one more element of a filtered list
pub filter_more : {X : Type 0} (p : X → Bool) (xs : List X) (i : ℕ) (d : X) → i < length xs
    → filter p (take (i + 1) xs) ≡ filter p (take i xs) ++ filter p (get_or xs i d ∷ [])
filter_more p xs i d below = ap (filter p) (take_more xs i d below) ∙ filter-append p (take i xs) (get_or xs i d ∷ [])

-- one element that passes, or doesn't
pub filter_one : {X : Type 0} (p : X → Bool) (x : X) → p x ≡ true → filter p (x ∷ []) ≡ x ∷ []
filter_one p x is = rw is refl

pub filter_not : {X : Type 0} (p : X → Bool) (x : X) (xs : List X) → p x ≡ false → xs ++ filter p (x ∷ []) ≡ xs
filter_not p x xs is = rw is (append-nil xs)

-- one more pair
paired_push : (calls : List Event) (values : List ℕ) (c : Event) (v : ℕ) → length calls ≡ length values
    → paired (calls ++ c ∷ []) (values ++ v ∷ []) ≡ paired calls values ++ record { call = c; what = RetDeq v } ∷ []
paired_push [] [] c v same = refl
paired_push [] (w ∷ values) c v same = absurd (omega (arith, same))
paired_push (x ∷ calls) [] c v same = absurd (omega (arith, same))
paired_push (x ∷ calls) (w ∷ values) c v same =
    ap (λ (l : List Answer). record { call = x; what = RetDeq w } ∷ l) (paired_push calls values c v (omega (arith, same)))

pub paired_more : (calls : List Event) (values : List ℕ) (i : ℕ) → i < length calls → i < length values
    → paired (take (i + 1) calls) (take (i + 1) values)
    ≡ paired (take i calls) (take i values) ++ record { call = get_or calls i past_end; what = RetDeq (get_or values i 0) } ∷ []
paired_more calls values i in_calls in_values =
    ap₂ paired (take_more calls i past_end in_calls) (take_more values i 0 in_values)
    ∙ paired_push (take i calls) (take i values) (get_or calls i past_end) (get_or values i 0)
    (length-take-le i calls (omega arith) ∙ sym (length-take-le i values (omega arith)))

-- the pairs are all there are if the calls or the values are used up
pub paired_all : (calls : List Event) (values : List ℕ) (n : ℕ) → (length calls ≤ n) ⊎ (length values ≤ n)
    → paired (take n calls) (take n values) ≡ paired calls values
paired_all [] values zero enough = refl
paired_all [] values (suc n) enough = refl
paired_all (x ∷ calls) [] zero enough = refl
paired_all (x ∷ calls) [] (suc n) enough = refl
paired_all (x ∷ calls) (w ∷ values) zero (inl few) = absurd (omega (arith, few))
paired_all (x ∷ calls) (w ∷ values) zero (inr few) = absurd (omega (arith, few))
paired_all (x ∷ calls) (w ∷ values) (suc n) (inl few) =
    ap (λ (l : List Answer). record { call = x; what = RetDeq w } ∷ l) (paired_all calls values n (inl (omega (arith, few))))
paired_all (x ∷ calls) (w ∷ values) (suc n) (inr few) =
    ap (λ (l : List Answer). record { call = x; what = RetDeq w } ∷ l) (paired_all calls values n (inr (omega (arith, few))))

-- an answer for places past the end of a list
abbrev pub no_answer : Answer
no_answer = record { call = past_end; what = CallEnq 0 }

-- one more return
pub returns_more : (n : ℕ) (answers : List Answer) (i : ℕ) (d : Answer) → i < length answers
    → returns_from n (take (i + 1) answers)
    ≡ returns_from n (take i answers) ++ record { ticket = n + i; thread = (get_or answers i d).call.thread; what = (get_or answers i d).what } ∷ []
returns_more n answers i d below =
    let a = get_or answers i d in
    ap (returns_from n) (take_more answers i d below) ∙ returns-append n (take i answers) (a ∷ [])
    ∙ ap (λ (m : ℕ). returns_from n (take i answers) ++ record { ticket = n + m; thread = a.call.thread; what = a.what } ∷ [])
    (length-take-le i answers (omega arith))

-- the last event is at the last place
last_at : (xs : List Event) (n : ℕ) (l : Event) → suc n ≡ length xs → slice_get xs n ≡ Some l
    → last_or None xs ≡ Some l
last_at [] n l long at = absurd (omega (arith, long))
last_at (x ∷ []) zero l long at = at
last_at (x ∷ []) (suc n) l long at = absurd (omega (arith, long))
last_at (x ∷ y ∷ xs) zero l long at = absurd (omega (arith, long))
last_at (x ∷ y ∷ xs) (suc n) l long at = last_at (y ∷ xs) n l (omega (arith, long)) at

pub after_last_read : (xs : List Event) (l : Event) → slice_get xs (length xs - 1) ≡ Some l
    → l.ticket + 1 ≡ next_ticket xs
after_last_read xs l at =
    let within = slice_get_within xs (length xs - 1) l at in
    rw (last_at xs (length xs - 1) l (omega (arith, within)) at) refl
