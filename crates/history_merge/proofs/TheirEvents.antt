-- The operations of events determine them: each call, with its return inserted by ticket among the events of the
-- later operations.
use Rattle.history_merge.proofs.Common.{[], All, All-contains, All-head, All-tail, ap, AreInTurn, AreLeft, arith, Bool}
use Rattle.history_merge.proofs.Common.{call_event, cases_Bool, cases_eq, cases_lt, comes_by_ticket, common_steps}
use Rattle.history_merge.proofs.Common.{count_by, drop, due_in, eqb-true, eqb_tells, Event, events_of, false≢true}
use Rattle.history_merge.proofs.Common.{FollowsInTurn, get_or-set_other, get_or-set_same, get_or-take, get_or_past}
use Rattle.history_merge.proofs.Common.{IfSome, inl, inr, is_call, IsFirstDue, IsRunOf, leb-true, length}
use Rattle.history_merge.proofs.Common.{length-replicate, length-set, lt-ltb, MAX_THREAD, maybe_return, nat_eq}
use Rattle.history_merge.proofs.Common.{nat_tests, next_of, None, not, Operation, operation_so_far, operations_so_far}
use Rattle.history_merge.proofs.Common.{Option, option_and_then, projection, put_by_ticket, put_each, put_maybe, refl}
use Rattle.history_merge.proofs.Common.{replicate, set, set-get_or, slice_get, Some, subst, suc, sum_by-cons, sym}
use Rattle.history_merge.proofs.Common.{take, TakesTurns, then_some, TicketsRise, zero, ◌++◌, ◌+◌, ◌∙◌, ◌∷◌, ◌≡◌, ◌≢◌}
use Rattle.std.proofs.Common.{append_assoc, false, get_or, List, true, ℕ, ◌<◌, ◌≤◌}
use Rattle.std.proofs.lemmas.List.{length-take-le}
use Rattle.history_merge.proofs.Turns.{answered_is_call, projection-at}
use Rattle.history_merge.proofs.Distinct.{contains_at, cut_at, found_first, one_by_key, rises_later}

-- ---- the next event of a thread

-- a list of absent options has none at each place
pub nothing_at : {X : Type 0} → (n i : ℕ) → get_or {A = Option X} (replicate n None) i None ≡ None
nothing_at zero i = refl
nothing_at (suc n) zero = refl
nothing_at (suc n) (suc i) = nothing_at n i

-- a property of all events holds of the next one
next_holds : (P : Event → Type 0) (thread : ℕ) (xs : List Event) (r : Event) → All P xs → next_of thread xs ≡ Some r
    → P r
next_holds P thread xs r all is =
    let first = found_first (λ x. nat_eq x.thread thread) xs r is in All-contains P xs r all (contains_at xs first.place r first.at)

next_thread : (thread : ℕ) (xs : List Event) (r : Event) → next_of thread xs ≡ Some r → r.thread ≡ thread
next_thread thread xs r is = eqb-true r.thread thread (found_first (λ x. nat_eq x.thread thread) xs r is).passes

-- the next event of a thread is the first of its own
pub next_is_first : (thread : ℕ) (events : List Event) → next_of thread events ≡ slice_get (projection thread events) 0
next_is_first thread [] = refl
next_is_first thread (e ∷ later) = grind (arith, next_is_first thread later)

above_first : (e : Event) (later : List Event) → TicketsRise (e ∷ later) → All (λ x. e.ticket < x.ticket) later
above_first e later rise k d below = rise zero (suc k) d (omega arith) (omega arith)

-- the next events of two threads have different tickets
next_apart : (xs : List Event) (k t : ℕ) (f r : Event) → TicketsRise xs → next_of k xs ≡ Some f → next_of t xs ≡ Some r
    → k ≢ t → f.ticket ≢ r.ticket
next_apart xs k t f r rise is_f is_r apart same =
    let first_f = found_first (λ x. nat_eq x.thread k) xs f is_f in
    let first_r = found_first (λ x. nat_eq x.thread t) xs r is_r in
    let one = (one_by_key (λ x. x.ticket) xs first_f.place first_r.place f r rise first_f.at first_r.at same).1 in
    apart (sym (next_thread k xs f is_f) ∙ ap (λ x. x.thread) one ∙ next_thread t xs r is_r)

-- a due event is the next event of its thread, and a return
due_is : (k : ℕ) (events : List Event) (f : Event) → due_in k events ≡ Some f
    → (next_of k events ≡ Some f) × (is_call f.what ≡ false)
due_is k events f due = grind arith

-- no return is due in a thread whose next event is a call
due_of_call : (k : ℕ) (events : List Event) (e : Event) → next_of k events ≡ Some e → is_call e.what ≡ true
    → due_in k events ≡ None
due_of_call k events e is call = rw (is, call) refl

-- ---- the events of an operation

-- the call of an operation is the event that it was made of, whether it has returned or not
pub call_so_far : (e : Event) (next : Option Event) → is_call e.what ≡ true → call_event (operation_so_far e next) ≡ e
call_so_far e next call = grind arith

-- an operation has the ticket and the thread of its call
so_far_is : (e : Event) (next : Option Event)
    → ((operation_so_far e next).call ≡ e.ticket) × ((operation_so_far e next).thread ≡ e.thread)
so_far_is e next = grind arith

-- the return of an operation is the next event of its thread
return_so_far : (e : Event) (later : List Event) → is_call e.what ≡ true → TicketsRise (e ∷ later)
    → IfSome (next_of e.thread later) (FollowsInTurn e)
    → maybe_return (operation_so_far e (next_of e.thread later)) ≡ due_in e.thread later
return_so_far e later call rise turn = join (next_of e.thread later) refl turn
  where
    join : (next : Option Event) → next_of e.thread later ≡ next → IfSome next (FollowsInTurn e)
        → maybe_return (operation_so_far e next) ≡ option_and_then (λ r. then_some (not (is_call r.what)) r) next
    join None is follows = refl
    join (Some r) is follows =
        let above = next_holds (λ x. e.ticket < x.ticket) e.thread later r (above_first e later rise) is in
        grind (arith, nat_tests, follows.0 call, next_thread e.thread later r is)

-- ---- returns inserted by ticket

put_first : (e : Event) (xs : List Event) → All (λ x. e.ticket < x.ticket) xs → put_by_ticket e xs ≡ e ∷ xs
put_first e [] above = refl
put_first e (x ∷ xs) above = let is = lt-ltb e.ticket x.ticket (above zero x (omega arith)) in rw is refl

-- two events with different tickets may be inserted in any order
put_commutes : (a b : Event) (xs : List Event) → a.ticket ≢ b.ticket
    → put_by_ticket a (put_by_ticket b xs) ≡ put_by_ticket b (put_by_ticket a xs)
put_commutes a b [] apart = grind (arith, nat_tests)
put_commutes a b (x ∷ xs) apart = grind (arith, nat_tests, put_commutes a b xs apart)

-- no due event has the ticket of this event
abbrev AreApart : Event → List (Option Event) → Type 0
AreApart r due = (k : ℕ) (f : Event) → get_or due k None ≡ Some f → f.ticket ≢ r.ticket

maybe_past : (r : Event) (p : Option Event) (xs : List Event) → ((f : Event) → p ≡ Some f → f.ticket ≢ r.ticket)
    → put_maybe p (put_by_ticket r xs) ≡ put_by_ticket r (put_maybe p xs)
maybe_past r None xs apart = refl
maybe_past r (Some f) xs apart = put_commutes f r xs (apart f refl)

put_past : (r : Event) (due : List (Option Event)) (xs : List Event) → AreApart r due
    → put_each due (put_by_ticket r xs) ≡ put_by_ticket r (put_each due xs)
put_past r [] xs apart = refl
put_past r (p ∷ due) xs apart =
    ap (put_maybe p) (put_past r due xs (λ k f at. apart (suc k) f at)) ∙ maybe_past r p (put_each due xs) (apart zero)

-- one more return is due, in a thread in which none was
put_new : (r : Event) (due : List (Option Event)) (t : ℕ) (xs : List Event) → t < length due → get_or due t None ≡ None
    → AreApart r due
    → put_each (set due t (Some r)) xs ≡ put_each due (put_by_ticket r xs)
put_new r [] t xs below none apart = absurd (omega (arith, below))
put_new r (p ∷ due) zero xs below none apart = sym (ap (λ q. put_maybe q (put_each due (put_by_ticket r xs))) none
    ∙ put_past r due xs (λ k f at. apart (suc k) f at))
put_new r (p ∷ due) (suc t) xs below none apart =
    ap (put_maybe p) (put_new r due t xs (omega (arith, below)) none (λ k f at. apart (suc k) f at))

-- a due return comes
put_gone : (r : Event) (due : List (Option Event)) (t : ℕ) (xs : List Event) → get_or due t None ≡ Some r
    → AreApart r (set due t None)
    → put_each due xs ≡ put_by_ticket r (put_each (set due t None) xs)
put_gone r [] t xs at apart = cc
put_gone r (p ∷ due) zero xs at apart = ap (λ q. put_maybe q (put_each due xs)) at
put_gone r (p ∷ due) (suc t) xs at apart =
    ap (put_maybe p) (put_gone r due t xs at (λ k f here. apart (suc k) f here)) ∙ maybe_past r p (put_each (set due t None) xs) (apart zero)

set_none : (due : List (Option Event)) (t : ℕ) → get_or due t None ≡ None → set due t None ≡ due
set_none due t none = ap (set due t) (sym none) ∙ set-get_or due t None

-- if no return is due, the events are those of the operations
pub put_none : (due : List (Option Event)) (xs : List Event) → ((k : ℕ) → get_or due k None ≡ None)
    → put_each due xs ≡ xs
put_none [] xs none = refl
put_none (p ∷ due) xs none = ap (λ q. put_maybe q (put_each due xs)) (none zero) ∙ put_none due xs (λ k. none (suc k))

each_behind : (e : Event) (due : List (Option Event)) (xs : List Event)
    → ((k : ℕ) (f : Event) → get_or due k None ≡ Some f → e.ticket < f.ticket)
    → put_each due (e ∷ xs) ≡ e ∷ put_each due xs
each_behind e [] xs above = refl
each_behind e (p ∷ due) xs above = ap (put_maybe p) (each_behind e due xs (λ k f at. above (suc k) f at)) ∙ grind (arith, nat_tests, above zero)

-- ---- the events that are left

some_within : (due : List (Option Event)) (k : ℕ) (f : Event) → get_or due k None ≡ Some f → k < length due
some_within due k f at = grind (arith, get_or_past)

-- a due return is due in its thread
due_at : (events : List Event) (by_call : List Operation) (due : List (Option Event)) (k : ℕ) (f : Event)
    → AreLeft events by_call due
    → get_or due k None ≡ Some f → due_in k events ≡ Some f
due_at events by_call due k f left at = grind (arith, some_within)

-- the events that are left after the first
step : (e : Event) (later : List Event) (by_call : List Operation) (due : List (Option Event))
    → AreLeft (e ∷ later) by_call due
    → AreLeft later (operations_so_far later) (set due e.thread (due_in e.thread later))
step e later by_call due left = record {
  run = assumption (rises_later e later left.run.rise, left.run.turns, All-tail (λ x. x.thread ≤ MAX_THREAD) e later left.run.threads);
  calls = refl;
  one_per_thread = rw length-set left.one_per_thread;
  due = λ thread within. elim (eqb_tells e.thread thread) [
    | inl own ↦ grind (arith, get_or-set_same)
    | inr other ↦
        rw (get_or-set_other due e.thread thread (due_in e.thread later) None (λ same. other.1 (sym same))) (left.due thread within ∙ rw other.0 refl)
  ];
}

-- the thread of the first event is in range
thread_within : (e : Event) (later : List Event) (by_call : List Operation) (due : List (Option Event))
    → AreLeft (e ∷ later) by_call due
    → e.thread ≤ MAX_THREAD
thread_within e later by_call due left = All-head (λ x. x.thread ≤ MAX_THREAD) e later left.run.threads

next_own : (e : Event) (later : List Event) → next_of e.thread (e ∷ later) ≡ Some e
next_own e later = grind (arith, nat_tests)

-- after a return, none is due in its thread before its next call
none_due_after : (e : Event) (later : List Event) → AreInTurn (e ∷ later) → is_call e.what ≡ false
    → due_in e.thread later ≡ None
none_due_after e later turns returns = grind (arith, turns.0)

-- if a return comes first, it is due
due_first : (e : Event) (later : List Event) (by_call : List Operation) (due : List (Option Event))
    → AreLeft (e ∷ later) by_call due
    → is_call e.what ≡ false → get_or due e.thread None ≡ Some e
due_first e later by_call due left returns = grind (arith, thread_within, next_own)

-- if a call comes first, each due return comes later
due_later : (e : Event) (later : List Event) (by_call : List Operation) (due : List (Option Event)) (k : ℕ) (f : Event)
    → AreLeft (e ∷ later) by_call due → is_call e.what ≡ true → get_or due k None ≡ Some f
    → (next_of k later ≡ Some f) × (k ≢ e.thread)
due_later e later by_call due k f left call at = grind (arith, nat_tests, due_is k (e ∷ later) f (due_at (e ∷ later) by_call due k f left at))

-- if the first event is a return, the later ones are determined
told_return : (e : Event) (later : List Event) (by_call : List Operation) (due : List (Option Event))
    → AreLeft (e ∷ later) by_call due
    → is_call e.what ≡ false → put_each (set due e.thread (due_in e.thread later))
    (events_of (operations_so_far later)) ≡ later
    → put_each due (events_of by_call) ≡ e ∷ later
told_return e later by_call due left returns more =
    let none = none_due_after e later left.run.turns returns in
    ap (λ os. put_each due (events_of os)) (left.calls ∙ rw returns refl)
    ∙ put_gone e due e.thread (events_of (operations_so_far later)) (due_first e later by_call due left returns) apart
    ∙ ap (put_by_ticket e) (rw none at more) ∙ put_first e later (above_first e later left.run.rise)
  where
    apart : AreApart e (set due e.thread None)
    apart k f here = elim (eqb_tells e.thread k) [
      | inl own ↦ grind (arith, some_within, length-set, get_or-set_same)
      | inr other ↦
          let at = rw (get_or-set_other due e.thread k None None (λ same. other.1 (sym same))) at here in
          let is = due_is k (e ∷ later) f (due_at (e ∷ later) by_call due k f left at) in
          next_apart (e ∷ later) k e.thread f e left.run.rise is.0 (next_own e later) (λ same. other.1 (sym same))
    ]

-- if the first event is a call, the later ones are determined
told_call : (e : Event) (later : List Event) (by_call : List Operation) (due : List (Option Event))
    → AreLeft (e ∷ later) by_call due
    → is_call e.what ≡ true → put_each (set due e.thread (due_in e.thread later)) (events_of (operations_so_far later))
    ≡ later
    → put_each due (events_of by_call) ≡ e ∷ later
told_call e later by_call due left call more =
    let first = call_so_far e (next_of e.thread later) call in
    let returned = return_so_far e later call left.run.rise left.run.turns.0 in
    let ops : by_call ≡ operation_so_far e (next_of e.thread later) ∷ operations_so_far later = left.calls ∙ rw call refl in
    ap (λ os. put_each due (events_of os)) ops
    ∙ ap (λ x. put_each due (x ∷ put_maybe (maybe_return (operation_so_far e (next_of e.thread later))) (events_of (operations_so_far later)))) first
    ∙ ap (λ r. put_each due (e ∷ put_maybe r (events_of (operations_so_far later)))) returned
    ∙ each_behind e due (put_maybe (due_in e.thread later) (events_of (operations_so_far later))) above
    ∙ ap (λ xs. e ∷ xs) (sym (new (due_in e.thread later) refl) ∙ more)
  where
    above : (k : ℕ) (f : Event) → get_or due k None ≡ Some f → e.ticket < f.ticket
    above k f at =
        let is = due_later e later by_call due k f left call at in
        next_holds (λ x. e.ticket < x.ticket) k later f (above_first e later left.run.rise) is.0

    empty : get_or due e.thread None ≡ None
    empty = left.due e.thread (thread_within e later by_call due left) ∙ due_of_call e.thread (e ∷ later) e (next_own e later) call

    new : (d : Option Event) → due_in e.thread later ≡ d
        → put_each (set due e.thread d) (events_of (operations_so_far later))
        ≡ put_each due (put_maybe d (events_of (operations_so_far later)))
    new None is = ap (λ xs. put_each xs (events_of (operations_so_far later))) (set_none due e.thread empty)
    new (Some r) is =
        let within = thread_within e later by_call due left in
        put_new r due e.thread (events_of (operations_so_far later)) (omega (arith, within, left.one_per_thread)) empty apart
      where
        apart : AreApart r due
        apart k f at =
            let other = due_later e later by_call due k f left call at in
            next_apart later k e.thread f r (rises_later e later left.run.rise) other.0 (due_is e.thread later r is).0 other.1

-- the operations and the due returns determine the events that are left
pub told : (events : List Event) (by_call : List Operation) (due : List (Option Event)) → AreLeft events by_call due
    → put_each due (events_of by_call) ≡ events
told [] by_call due left = grind (arith, put_none, get_or_past)
told (e ∷ later) by_call due left =
    let more = told later (operations_so_far later) (set due e.thread (due_in e.thread later)) (step e later by_call due left) in
    grind (arith, cases_Bool, told_call, told_return)

-- ---- the event that comes first

-- the due return with the least ticket, if there is one
abbrev pub IsFirstOfAll : List (Option Event) → Option Event → Type 0
IsFirstOfAll due None = (k : ℕ) → get_or due k None ≡ None
IsFirstOfAll due (Some e) =
    ((k : ℕ) × (get_or due k None ≡ Some e)) × ((k : ℕ) (r : Event) → get_or due k None ≡ Some r → e.ticket ≤ r.ticket)

-- the first of some due returns is the first of all, if no other is due
pub first_of_all : (due : List (Option Event)) (n : ℕ) (first : Option Event) → n ≤ length due
    → IsFirstDue (take n due) (length (take n due)) first → ((k : ℕ) → n ≤ k → get_or due k None ≡ None)
    → IsFirstOfAll due first
first_of_all due n None within first none = λ k. elim (cases_lt k n) [
  | inl below ↦ sym (get_or-take n due k None below) ∙ first k (rw (length-take-le n due within) below)
  | inr above ↦ none k above
]
first_of_all due n (Some e) within first none = grind (arith, length-take-le, get_or-take, cases_lt)

-- a ticket below those of all events is below that of the first call
first_call_above : (later : List Event) (t : ℕ) (o : Operation) (rest : List Operation) → All (λ x. t < x.ticket) later
    → operations_so_far later ≡ o ∷ rest → t < o.call
first_call_above [] t o rest above is = cc
first_call_above (e ∷ later) t o rest above is =
    grind (arith, All-head (λ x. t < x.ticket) e later above, first_call_above later t o rest (All-tail (λ x. t < x.ticket) e later above))

-- if the first call comes before all due returns, it is the first event
pub record GivesCall (events : List Event) (o : Operation) (rest : List Operation)
    (due : List (Option Event)) : Type 0 where
  pub later : List Event
  pub is : events ≡ call_event o ∷ later
  pub thread : o.thread ≤ MAX_THREAD
  pub left : AreLeft later rest (set due o.thread (maybe_return o))

pub gives_call : (events : List Event) (o : Operation) (rest : List Operation) (due : List (Option Event))
    (first : Option Event)
    → AreLeft events (o ∷ rest) due → IsFirstOfAll due first → comes_by_ticket first o.call ≡ false → GivesCall events o rest due
gives_call [] o rest due first left is_first not_by = let none = left.calls in cc
gives_call (e ∷ later) o rest due first left is_first not_by = pick (is_call e.what) refl
  where
    late : (f : Option Event) → IsFirstOfAll due f → comes_by_ticket f o.call ≡ false
        → get_or due e.thread None ≡ Some e → e.ticket < o.call → ⊥
    late f is' not_by' at above = grind (arith, nat_tests)

    pick : (called : Bool) → is_call e.what ≡ called → GivesCall (e ∷ later) o rest due
    pick false returns =
        let ops : operations_so_far later ≡ o ∷ rest = sym (left.calls ∙ rw returns refl) in
        let above = first_call_above later e.ticket o rest (above_first e later left.run.rise) ops in
        absurd (late first is_first not_by (due_first e later (o ∷ rest) due left returns) above)
    pick true call =
        let ops : o ∷ rest ≡ operation_so_far e (next_of e.thread later) ∷ operations_so_far later = left.calls ∙ rw call refl in
        let same : o ≡ operation_so_far e (next_of e.thread later) = cc in
        let others : rest ≡ operations_so_far later = cc in
        record {
          later = later;
          is = ap (λ x. x ∷ later) (sym (ap call_event same ∙ call_so_far e (next_of e.thread later) call));
          thread = rw (same, (so_far_is e (next_of e.thread later)).1) (thread_within e later (o ∷ rest) due left);
          left = subst (λ t. AreLeft later rest (set due t (maybe_return o))) (sym (ap (λ x. x.thread) same ∙ (so_far_is e (next_of e.thread later)).1))
              (subst (λ d. AreLeft later rest (set due e.thread d))
              (sym (ap maybe_return same ∙ return_so_far e later call left.run.rise left.run.turns.0))
              (rw others (step e later (o ∷ rest) due left)));
        }

-- if a due return comes before the first call, it is the first event
pub record GivesReturn (events : List Event) (r : Event) (by_call : List Operation)
    (due : List (Option Event)) : Type 0 where
  pub later : List Event
  pub is : events ≡ r ∷ later
  pub thread : r.thread ≤ MAX_THREAD
  pub left : AreLeft later by_call (set due r.thread None)

pub gives_return : (events : List Event) (by_call : List Operation) (due : List (Option Event)) (r : Event)
    → AreLeft events by_call due
    → IsFirstOfAll due (Some r)
    → ((o : Operation) (rest : List Operation) → by_call ≡ o ∷ rest → comes_by_ticket (Some r) o.call ≡ true)
    → GivesReturn events r by_call due
gives_return [] by_call due r left first by = grind (arith, nat_tests, common_steps, due_at)
gives_return (e ∷ later) by_call due r left first by = pick (is_call e.what) refl
  where
    k : (n : ℕ) × (get_or due n None ≡ Some r)
    k = first.0

    pick : (called : Bool) → is_call e.what ≡ called → GivesReturn (e ∷ later) r by_call due
    pick true call =
        let ops : by_call ≡ operation_so_far e (next_of e.thread later) ∷ operations_so_far later = left.calls ∙ rw call refl in
        let soon = leb-true r.ticket _ (by (operation_so_far e (next_of e.thread later)) (operations_so_far later) ops) in
        let above = next_holds (λ x. e.ticket < x.ticket) k.0 later r (above_first e later left.run.rise) (due_later e later by_call due k.0 r left call k.1).0 in
        absurd (omega (arith, soon, above, (so_far_is e (next_of e.thread later)).0))
    pick false returns =
        let sooner = first.1 e.thread e (due_first e later by_call due left returns) in
        let is = due_is k.0 (e ∷ later) r (due_at (e ∷ later) by_call due k.0 r left k.1) in
        let above = next_holds (λ x. e.ticket < x.ticket) k.0 later r (above_first e later left.run.rise) in
        let same : e ≡ r = grind (arith, is.0, above, sooner) in
        let none = none_due_after e later left.run.turns returns in
        let ops : by_call ≡ operations_so_far later = left.calls ∙ rw returns refl in
        record {
          later = later;
          is = ap (λ x. x ∷ later) same;
          thread = subst (λ x. x.thread ≤ MAX_THREAD) same (thread_within e later by_call due left);
          left = rw (ops, ap (λ x. x.thread) (sym same)) (rw none at (step e later by_call due left));
        }

-- if no call comes before a due return, and none is due, no event is left
pub gives_nothing : (events : List Event) (by_call : List Operation) (due : List (Option Event))
    → AreLeft events by_call due → IsFirstOfAll due None
    → ((o : Operation) (rest : List Operation) → by_call ≡ o ∷ rest → comes_by_ticket None o.call ≡ true) → events ≡ []
gives_nothing [] by_call due left none by = refl
gives_nothing (e ∷ later) by_call due left none by = pick (is_call e.what) refl
  where
    pick : (called : Bool) → is_call e.what ≡ called → ◌≡◌ {A = List Event} (e ∷ later) []
    pick true call = absurd (false≢true (by (operation_so_far e (next_of e.thread later)) (operations_so_far later) (left.calls ∙ rw call refl)))
    pick false returns = let some = due_first e later by_call due left returns in let nothing = none e.thread in cc

-- the events left after a call, by the number of its thread and its return
pub left_after_call : (events : List Event) (o : Operation) (rest : List Operation) (due : List (Option Event))
    (given : GivesCall events o rest due)
    (t : ℕ) (p : Option Event) → t ≡ o.thread → p ≡ maybe_return o → AreLeft given.later rest (set due t p)
left_after_call events o rest due given t p own returned = grind arith

-- the events left after a return
pub left_after_return : (events : List Event) (r : Event) (by_call : List Operation) (due : List (Option Event))
    (given : GivesReturn events r by_call due)
    (t : ℕ) → t ≡ r.thread → AreLeft given.later by_call (set due t None)
left_after_return events r by_call due given t own = subst (λ n. AreLeft given.later by_call (set due n None)) (sym own) given.left

-- the events left are determined by the operations and the due returns
pub left_as_told : (events : List Event) (by_call : List Operation) (due : List (Option Event))
    → AreLeft events by_call due
    → AreLeft (put_each due (events_of by_call)) by_call due
left_as_told events by_call due left = subst (λ xs. AreLeft xs by_call due) (sym (told events by_call due left)) left

-- a thread in which no return is due has none later, unless one is set for it
pub still_none : (due : List (Option Event)) (n t k : ℕ) (p : Option Event)
    → ((thread : ℕ) → n ≤ thread → get_or due thread None ≡ None) → n ≤ k → k ≢ t
    → get_or (set due t p) k None ≡ None
still_none due n t k p none past apart = rw (get_or-set_other due t k p None apart) (none k past)

pub stays_none : (due : List (Option Event)) (t k : ℕ) → get_or due k None ≡ None
    → get_or (set due t None) k None ≡ None
stays_none due t k none = grind (arith, cases_eq, set_none, get_or-set_other)

-- ---- the number of events

length-put : (e : Event) (xs : List Event) → length (put_by_ticket e xs) ≡ suc (length xs)
length-put e [] = refl
length-put e (x ∷ xs) = grind (arith, length-put e xs)

-- the operation isn't pending
abbrev pub has_returned : Operation → Bool
has_returned o = not (nat_eq o.ret 0)

-- there is a call for each operation, and a return for each that isn't pending
pub length-events_of : (operations : List Operation)
    → length (events_of operations) ≡ length operations + count_by has_returned operations
length-events_of [] = refl
length-events_of (o ∷ later) = grind (arith, nat_tests, common_steps, sum_by-cons, length-put, length-events_of later)

-- ---- events of threads that take turns

first_is_call : (e : Event) (rest : List Event) → TakesTurns (e ∷ rest) → is_call e.what ≡ true
first_is_call e [] turns = elim turns [ ]
first_is_call e (a ∷ rest) turns = answered_is_call e.what a.what turns.0

-- in a list that takes turns, each event follows the one before in turn
follows_in_turns : (before : List Event) (e next : Event) (rest : List Event) → TakesTurns (before ++ e ∷ next ∷ rest)
    → FollowsInTurn e next
follows_in_turns [] e next rest turns = grind (arith, turns.0)
follows_in_turns (c ∷ []) e next rest turns = grind (arith, turns.0, first_is_call next rest turns.1)
follows_in_turns (c ∷ a ∷ before) e next rest turns = follows_in_turns before e next rest turns.1

-- each thread takes turns, but a call may be pending
abbrev pub AllTakeTurns : List Event → Type 0
AllTakeTurns events = (thread : ℕ) → (more : List Event) × TakesTurns (projection thread events ++ more)

in_turn : (before later : List Event) → AllTakeTurns (before ++ later) → AreInTurn later
in_turn before [] turns = tt
in_turn before (e ∷ later) turns = (
  join (next_of e.thread later) refl,
  in_turn (before ++ e ∷ []) later (λ thread. rw append_assoc (turns thread)),
)
  where
    own : (more : List Event) × TakesTurns (projection e.thread (before ++ e ∷ later) ++ more)
    own = turns e.thread

    join : (next : Option Event) → next_of e.thread later ≡ next → IfSome next (FollowsInTurn e)
    join None is = tt
    join (Some r) is =
        let rest = drop 1 (projection e.thread later) in
        let whole : projection e.thread later ≡ r ∷ rest = cut_at (projection e.thread later) 0 r (sym (next_is_first e.thread later) ∙ is) in
        let split = projection-at before later e ∙ ap (λ xs. projection e.thread before ++ e ∷ xs) whole in
        follows_in_turns (projection e.thread before) e r (rest ++ own.0)
        (subst TakesTurns (ap (λ xs. xs ++ own.0) split ∙ append_assoc (projection e.thread before) (e ∷ r ∷ rest) own.0) own.1)

none_due : (events : List Event) → AllTakeTurns events → (thread : ℕ) → due_in thread events ≡ None
none_due events turns thread = join (next_of thread events) refl
  where
    join : (next : Option Event) → next_of thread events ≡ next → due_in thread events ≡ None
    join None is = rw is refl
    join (Some r) is =
        let rest = drop 1 (projection thread events) in
        let own = turns thread in
        let whole : projection thread events ≡ r ∷ rest = cut_at (projection thread events) 0 r (sym (next_is_first thread events) ∙ is) in
        due_of_call thread events r is (first_is_call r (rest ++ own.0) (subst (λ xs. TakesTurns (xs ++ own.0)) whole own.1))

-- events whose threads take turns are a run in which no return is due at first
pub run_of : (events : List Event) → TicketsRise events → All (λ e. e.thread ≤ MAX_THREAD) events → AllTakeTurns events
    → IsRunOf events (operations_so_far events)
run_of events rise threads turns = assumption (in_turn [] events turns, none_due events turns)

-- at the beginning all events are left, and no return is due
pub all_left : (events : List Event) (operations : List Operation) (due : List (Option Event))
    → IsRunOf events operations
    → length due ≡ MAX_THREAD + 1 → ((k : ℕ) → get_or due k None ≡ None) → AreLeft events operations due
all_left events operations due is long none = grind arith

-- the operations of a run determine its events
pub told_of_run : (events : List Event) (operations : List Operation) → IsRunOf events operations
    → events_of operations ≡ events
told_of_run events operations is =
    let none : List (Option Event) = replicate (MAX_THREAD + 1) None in
    let nothing = nothing_at (MAX_THREAD + 1) in
    let long = length-replicate {A = Option Event} (MAX_THREAD + 1) None in
    sym (put_none none (events_of operations) nothing) ∙ told events operations none (all_left events operations none is long nothing)
