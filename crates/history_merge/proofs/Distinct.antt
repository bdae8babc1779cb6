-- Different operations of a complete history have different tickets, and enqueue different values.
use Rattle.history_merge.proofs.Common.{accept, accept_all, All, All-cons, All-contains, All-head, All-nil}
use Rattle.history_merge.proofs.Common.{[], All-tail, all_pairs_push, AllPairs, AllPairs-cons}
use Rattle.history_merge.proofs.Common.{Any-from_list_any, ap, append-nil, AreApart, AreComplete, AreDistinct, arith}
use Rattle.history_merge.proofs.Common.{Bool, called_value, called_values, calls_initial, cases_lt, cases_order}
use Rattle.history_merge.proofs.Common.{common_steps, cond, cons_option, Contains, Contains-get_or, Dequeue, Did, drop}
use Rattle.history_merge.proofs.Common.{DequeueEmpty, Enqueue, enqueued_value, eq-eqb, eqb-true, eqb_tells, Event}
use Rattle.history_merge.proofs.Common.{false_from_ne_true, false≢true, filter_map, filter_map-append, find}
use Rattle.history_merge.proofs.Common.{find_at, get_or-append_seam, get_or-take, get_or_append_left, get_or_default}
use Rattle.history_merge.proofs.Common.{get_or_from_slice_get, gets, HasRefusedInitial, InitialTwice, inl, inr}
use Rattle.history_merge.proofs.Common.{is_call, is_initial, is_sum_by, IsCompleteFrom, IsCompleteHistory}
use Rattle.history_merge.proofs.Common.{IsFirstTwice, IsPermutation, IsPermutation-map, IsTimed, kind_of, length}
use Rattle.history_merge.proofs.Common.{length-take, list_any, list_any-append, list_any_at, lt-ltb, map, MAX_TICKET}
use Rattle.history_merge.proofs.Common.{MAX_TIME, nat_eq, nat_tests, None, EnqueueFailed, Operation, operation_of}
use Rattle.history_merge.proofs.Common.{operations_of}
use Rattle.history_merge.proofs.Common.{OpKind, Option, option_and_then_some, option_map, option_map_or, or_comm}
use Rattle.history_merge.proofs.Common.{position-Some, position_or_len, refl, repeats_value, same_Some}
use Rattle.history_merge.proofs.Common.{slice_get, slice_get-get_or, slice_get-map, slice_get_read, slice_get_within}
use Rattle.history_merge.proofs.Common.{Some, split_at, subst, suc, sum_by, sum_by-IsPermutation, sym, take, take_all}
use Rattle.history_merge.proofs.Common.{TicketsRise, was_called, What, zero, ◌++◌, ◌+◌, ◌-◌, ◌||◌, ◌∙◌, ◌∷◌, ◌≡◌, ◌≢◌}
use Rattle.history_merge.proofs.Common.{◌⊎◌}
use Rattle.std.proofs.Common.{append_assoc, false, get_or, length-append, List, true, ℕ, ◌<◌, ◌≤◌}

-- ---- the values enqueued and dequeued in an accepted run of the queue

-- the value that an operation of this kind puts in
abbrev pub put_in : OpKind → Option ℕ
put_in (Enqueue v) = Some v
put_in _ = None

-- the value that an operation of this kind takes out
abbrev pub taken_out : OpKind → Option ℕ
taken_out (Dequeue v) = Some v
taken_out _ = None

-- the values of successful enqueues, in their order
abbrev pub enqueued : List OpKind → List ℕ
enqueued kinds = filter_map put_in kinds

-- the values of dequeues, in their order
abbrev pub dequeued : List OpKind → List ℕ
dequeued kinds = filter_map taken_out kinds

-- the values held and enqueued are those dequeued and left, in the same order
pub enqueued_is_dequeued : (kinds : List OpKind) (queue left : List ℕ) → accept_all queue kinds ≡ Some left
    → queue ++ enqueued kinds ≡ dequeued kinds ++ left
enqueued_is_dequeued [] queue left run = let same : queue ≡ left = cc in rw same (append-nil left)
enqueued_is_dequeued (Enqueue v ∷ kinds) queue left run = sym (append_assoc queue (v ∷ []) (enqueued kinds)) ∙ enqueued_is_dequeued kinds (queue ++ v ∷ []) left run
enqueued_is_dequeued (EnqueueFailed v ∷ kinds) queue left run = enqueued_is_dequeued kinds queue left run
enqueued_is_dequeued (Dequeue v ∷ kinds) (front ∷ rest) left run = grind (arith, nat_tests, enqueued_is_dequeued kinds rest left)
enqueued_is_dequeued (DequeueEmpty ∷ kinds) [] left run = enqueued_is_dequeued kinds [] left run
enqueued_is_dequeued _ _ left run = cc

-- before each operation of an accepted run there is a queue that accepts it
pub record IsQueueBefore (start : List ℕ) (kinds : List OpKind) (i : ℕ) (kind : OpKind) : Type 0 where
  pub queue : List ℕ
  pub next : List ℕ
  pub reached : accept_all start (take i kinds) ≡ Some queue
  pub accepted : accept queue kind ≡ Some next

accepted_first : (queue : List ℕ) (kind : OpKind) (kinds : List OpKind) (left : List ℕ)
    → accept_all queue (kind ∷ kinds) ≡ Some left
    → (next : List ℕ) × (accept queue kind ≡ Some next) × (accept_all next kinds ≡ Some left)
accepted_first queue kind kinds left run = grind (arith, option_and_then_some)

-- the queue before an operation of an accepted run
pub queue_before : (kinds : List OpKind) (start left : List ℕ) (i : ℕ) (kind : OpKind)
    → accept_all start kinds ≡ Some left
    → slice_get kinds i ≡ Some kind → IsQueueBefore start kinds i kind
queue_before [] start left i kind run at = cc
queue_before (k ∷ kinds) start left zero kind run at = grind (arith, accepted_first)
queue_before (k ∷ kinds) start left (suc i) kind run at =
    let first = accepted_first start k kinds left run in
    let more = queue_before kinds first.0 left i kind first.2 at in
    record { queue = more.queue; next = more.next; reached = rw first.1 more.reached; accepted = more.accepted }

-- ---- places of a value's enqueues and dequeues in a run

-- the value is in the list
abbrev pub Member : ℕ → List ℕ → Type 0
Member v [] = ⊥
Member v (x ∷ xs) = (x ≡ v) ⊎ Member v xs

-- a member of the second list is one of both lists joined
pub Member-right : (v : ℕ) (xs ys : List ℕ) → Member v ys → Member v (xs ++ ys)
Member-right v [] ys m = m
Member-right v (x ∷ xs) ys m = inr (Member-right v xs ys m)

-- an operation of this kind comes before place j
abbrev pub StandsBefore : List OpKind → ℕ → OpKind → Type 0
StandsBefore kinds j kind = (i : ℕ) × (i < j) × (slice_get kinds i ≡ Some kind)

one_later : (k : OpKind) (kinds : List OpKind) (j : ℕ) (kind : OpKind) → StandsBefore kinds j kind
    → StandsBefore (k ∷ kinds) (suc j) kind
one_later k kinds j kind s = (suc s.0, omega (arith, s.1), s.2)

module _ (gives : OpKind → Option ℕ) where
  more_given : (k : OpKind) (kinds : List OpKind) (j v : ℕ) (o : Option ℕ) → gives k ≡ o
      → Member v (cons_option o (filter_map gives (take j kinds)))
      → (Member v (filter_map gives (take j kinds)) → (l : OpKind) × (gives l ≡ Some v) × StandsBefore kinds j l)
      → (l : OpKind) × (gives l ≡ Some v) × StandsBefore (k ∷ kinds) (suc j) l
  more_given k kinds j v None is m later = let l = later m in (l.0, l.1, one_later k kinds j l.0 l.2)
  more_given k kinds j v (Some w) is (inl same) later = (k, is ∙ ap Some same, (zero, omega arith, refl))
  more_given k kinds j v (Some w) is (inr m) later = let l = later m in (l.0, l.1, one_later k kinds j l.0 l.2)

  -- a value given before place j was given by an operation there
  giver_of_member : (kinds : List OpKind) (j v : ℕ) → Member v (filter_map gives (take j kinds))
      → (k : OpKind) × (gives k ≡ Some v) × StandsBefore kinds j k
  giver_of_member kinds zero v m = elim m [ ]
  giver_of_member [] (suc j) v m = elim m [ ]
  giver_of_member (k ∷ kinds) (suc j) v m = more_given k kinds j v (gives k) refl m (giver_of_member kinds j v)

  further : (front : Option ℕ) (v : ℕ) (all some : List ℕ) → (rest : List ℕ) × (all ≡ some ++ v ∷ rest)
      → (rest : List ℕ) × (cons_option front all ≡ cons_option front some ++ v ∷ rest)
  further None v all some is = is
  further (Some w) v all some is = (is.0, ap (λ us. w ∷ us) is.1)

  -- the values given before place j, split at an operation before it
  split_at_giver : (kinds : List OpKind) (i j v : ℕ) (k : OpKind) → gives k ≡ Some v → i < j
      → slice_get kinds i ≡ Some k
      → (rest : List ℕ) × (filter_map gives (take j kinds) ≡ filter_map gives (take i kinds) ++ v ∷ rest)
  split_at_giver kinds i zero v k gave below at = absurd (omega arith)
  split_at_giver [] i (suc j) v k gave below at = cc
  split_at_giver (x ∷ kinds) zero (suc j) v k gave below at =
      let same : x ≡ k = cc in
      (filter_map gives (take j kinds), ap (λ o. cons_option o (filter_map gives (take j kinds))) (ap gives same ∙ gave))
  split_at_giver (x ∷ kinds) (suc i) (suc j) v k gave below at =
      further (gives x) v _ _ (split_at_giver kinds i j v k gave (omega arith) at)

-- only an enqueue puts a value in
pub put_in_by : (k : OpKind) (v : ℕ) → put_in k ≡ Some v → k ≡ Enqueue v
put_in_by k v e = grind arith

-- only a dequeue takes a value out
taken_out_by : (k : OpKind) (v : ℕ) → taken_out k ≡ Some v → k ≡ Dequeue v
taken_out_by k v e = grind arith

-- a value that was enqueued before place j has an enqueue there
pub enqueue_of_member : (kinds : List OpKind) (j v : ℕ) → Member v (enqueued (take j kinds))
    → StandsBefore kinds j (Enqueue v)
enqueue_of_member kinds j v m = grind (arith, giver_of_member, put_in_by)

-- a value that was dequeued before place j has a dequeue there
pub dequeue_of_member : (kinds : List OpKind) (j v : ℕ) → Member v (dequeued (take j kinds))
    → StandsBefore kinds j (Dequeue v)
dequeue_of_member kinds j v m = grind (arith, giver_of_member, taken_out_by)

-- the values enqueued before place j, split at an enqueue before it
pub split_at_enqueue : (kinds : List OpKind) (i j v : ℕ) → i < j → slice_get kinds i ≡ Some (Enqueue v)
    → (rest : List ℕ) × (enqueued (take j kinds) ≡ enqueued (take i kinds) ++ v ∷ rest)
split_at_enqueue kinds i j v below at = split_at_giver put_in kinds i j v (Enqueue v) refl below at

-- the values dequeued before place j, split at a dequeue before it
pub split_at_dequeue : (kinds : List OpKind) (i j v : ℕ) → i < j → slice_get kinds i ≡ Some (Dequeue v)
    → (rest : List ℕ) × (dequeued (take j kinds) ≡ dequeued (take i kinds) ++ v ∷ rest)
split_at_dequeue kinds i j v below at = split_at_giver taken_out kinds i j v (Dequeue v) refl below at

-- the number of times that a value is in a list
abbrev pub count : ℕ → List ℕ → ℕ
count v [] = 0
count v (x ∷ xs) = cond (nat_eq x v) 1 0 + count v xs

-- the count of a value in two lists joined
pub count-append : (v : ℕ) (xs ys : List ℕ) → count v (xs ++ ys) ≡ count v xs + count v ys
count-append v [] ys = omega arith
count-append v (x ∷ xs) ys = let more = count-append v xs ys in omega arith

-- the count of a value in a list that begins with it
pub count_here : (v : ℕ) (xs : List ℕ) → count v (v ∷ xs) ≡ 1 + count v xs
count_here v xs = rw (eq-eqb v v refl)

-- the number of calls to enqueue the value, successful or failed, of an operation of this kind
abbrev pub calls_of_kind : ℕ → OpKind → ℕ
calls_of_kind v (Enqueue w) = cond (nat_eq w v) 1 0
calls_of_kind v (EnqueueFailed w) = cond (nat_eq w v) 1 0
calls_of_kind v (Dequeue w) = 0
calls_of_kind v DequeueEmpty = 0

-- the number of calls to enqueue a value
abbrev pub calls : ℕ → List OpKind → ℕ
calls v [] = 0
calls v (k ∷ kinds) = calls_of_kind v k + calls v kinds

-- a value is enqueued no more often than called for
pub count-le-calls : (kinds : List OpKind) (j v : ℕ) → count v (enqueued (take j kinds)) ≤ calls v kinds
count-le-calls kinds zero v = omega arith
count-le-calls [] (suc j) v = omega arith
count-le-calls (k ∷ kinds) (suc j) v = grind (arith, count-le-calls kinds j v)

-- an operation that calls for a value is counted
pub one_call : (kinds : List OpKind) (i v : ℕ) (k : OpKind) → slice_get kinds i ≡ Some k → calls_of_kind v k ≡ 1
    → 1 ≤ calls v kinds
one_call [] i v k at is = cc
one_call (x ∷ kinds) zero v k at is = grind arith
one_call (x ∷ kinds) (suc i) v k at is = omega (arith, one_call kinds i v k at is)

-- the only call for a value has only one place
pub same_place : (kinds : List OpKind) (i j v : ℕ) (k l : OpKind) → slice_get kinds i ≡ Some k
    → slice_get kinds j ≡ Some l → calls_of_kind v k ≡ 1
    → calls_of_kind v l ≡ 1 → calls v kinds ≤ 1 → i ≡ j
same_place [] i j v k l at_i at_j is_k is_l once = cc
same_place (x ∷ kinds) zero zero v k l at_i at_j is_k is_l once = refl
same_place (x ∷ kinds) zero (suc j) v k l at_i at_j is_k is_l once = grind (arith, one_call kinds j v l at_j is_l)
same_place (x ∷ kinds) (suc i) zero v k l at_i at_j is_k is_l once = grind (arith, one_call kinds i v k at_i is_k)
same_place (x ∷ kinds) (suc i) (suc j) v k l at_i at_j is_k is_l once = ap suc (same_place kinds i j v k l at_i at_j is_k is_l (omega arith))

-- a value that is in a list once splits it in only one way
pub same_front : (us vs xs ys : List ℕ) (b : ℕ) → us ++ b ∷ vs ≡ xs ++ b ∷ ys → count b (us ++ b ∷ vs) ≤ 1 → us ≡ xs
same_front [] vs [] ys b same once = refl
same_front [] vs (x ∷ xs) ys b same once = grind (arith, count-append, count_here)
same_front (u ∷ us) vs [] ys b same once = grind (arith, count-append, count_here)
same_front (u ∷ us) vs (x ∷ xs) ys b same once = grind (arith, same_front us vs xs ys b (cc))

-- ---- properties of the operations of a complete history

-- the element that `find` gives has a place
pub place_of_find : {X : Type 0} (p : X → Bool) (xs : List X) (r : X) → find p xs ≡ Some r
    → (k : ℕ) × (k < length xs) × ((d : X) → get_or xs k d ≡ r)
place_of_find p xs r e =
    let at = sym (find_at p xs) ∙ e in
    (position_or_len p xs, slice_get_within xs _ r at, λ d. get_or_from_slice_get xs _ r d at)

-- the parts of an operation that come from its call and its return
pub record IsMadeOf (call answer : Event) (o : Operation) : Type 0 where
  pub called : o.call ≡ call.ticket
  pub returned : o.ret ≡ answer.ticket
  pub same_thread : o.thread ≡ call.thread
  pub kind : kind_of call.what answer.what ≡ Some o.kind

-- an operation is made of its call and its return
pub made_of : (call : Event) (found : Option Event) (o : Operation) → operation_of call found ≡ Some o
    → (answer : Event) × (found ≡ Some answer) × IsMadeOf call answer o
made_of call None o e = cc
made_of call (Some answer) o e = grind arith

-- each operation is called before it returns
pub calls_before_returns : (events : List Event) → TicketsRise events
    → All (λ o. o.call < o.ret) (operations_of events)
calls_before_returns [] rise = All-nil (λ o. o.call < o.ret)
calls_before_returns (e ∷ later) rise =
    join (calls_before_returns later (λ i j d below within. rise (suc i) (suc j) d (omega arith) (omega arith)))
    (operation_of e (find (λ r. nat_eq r.thread e.thread) later)) refl
  where
    join : All (λ o. o.call < o.ret) (operations_of later) → (o : Option Operation)
        → operation_of e (find (λ r. nat_eq r.thread e.thread) later) ≡ o
        → All (λ o. o.call < o.ret) (cons_option o (operations_of later))
    join rest None same = rest
    join rest (Some o) same =
        let made = made_of e (find (λ r. nat_eq r.thread e.thread) later) o same in
        let place = place_of_find (λ r. nat_eq r.thread e.thread) later made.0 made.1 in
        let above = rise zero (suc place.0) e (omega arith) (omega (arith, place.1)) in
        let here : e.ticket < made.0.ticket = rw (← place.2 e) above in
        let ordered : o.call < o.ret = omega (arith, made.2.called, made.2.returned) in
        All-cons (λ o. o.call < o.ret) o (operations_of later) ordered rest

-- a value is called for no more often than it is among the values of the calls
calls-operations_of : (v : ℕ) (events : List Event)
    → calls v (map (λ o. o.kind) (operations_of events)) ≤ count v (called_values events)
calls-operations_of v [] = omega arith
calls-operations_of v (e ∷ later) = grind (arith, calls-operations_of v later)

none_counted : (v : ℕ) (xs : List ℕ) → ((k d : ℕ) → k < length xs → get_or xs k d ≢ v) → count v xs ≡ 0
none_counted v [] none = refl
none_counted v (x ∷ xs) none =
    grind (arith, nat_tests, none_counted v xs (λ k d below. none (suc k) d (omega arith)), none zero 0 (omega arith))

-- in a list of distinct values each value has the count 1 at most
pub count_of_distinct : (v : ℕ) (xs : List ℕ) → AllPairs (λ x y. x ≢ y) xs → count v xs ≤ 1
count_of_distinct v [] distinct = omega arith
count_of_distinct v (x ∷ xs) distinct =
    let more = count_of_distinct v xs (λ i j d below within. distinct (suc i) (suc j) d (omega arith) (omega arith)) in
    elim (eqb_tells x v) [
      | inl h ↦ let none = none_counted v xs (λ k d below same. distinct zero (suc k) d (omega arith) (omega arith) (h.1 ∙ sym same)) in rw h.0 (omega arith)
      | inr h ↦ rw h.0 (omega arith)
    ]

-- each value is called for by at most one enqueue of a complete history
pub called_once : (events : List Event) (v : ℕ) → IsCompleteHistory events
    → calls v (map (λ o. o.kind) (operations_of events)) ≤ 1
called_once events v complete = grind (arith, count_of_distinct, calls-operations_of)

-- a call for a value is that of an enqueue, successful or failed
calls_or_not : (v : ℕ) (k : OpKind) → ((calls_of_kind v k ≡ 1) × (enqueued_value k ≡ Some v)) ⊎ (calls_of_kind v k ≡ 0)
calls_or_not v (Enqueue w) = elim (eqb_tells w v) [ inl h ↦ inl (rw h.0 refl, ap (λ x. Some x) h.1) | inr h ↦ inr (rw h.0 refl) ]
calls_or_not v (EnqueueFailed w) = elim (eqb_tells w v) [ inl h ↦ inl (rw h.0 refl, ap (λ x. Some x) h.1) | inr h ↦ inr (rw h.0 refl) ]
calls_or_not v (Dequeue w) = inr refl
calls_or_not v DequeueEmpty = inr refl

none_called : (v : ℕ) (xs : List Operation) → All (λ o. ¬ (enqueued_value o.kind ≡ Some v)) xs
    → calls v (map (λ o. o.kind) xs) ≡ 0
none_called v [] none = refl
none_called v (x ∷ xs) none =
    let rest = none_called v xs (All-tail (λ o. ¬ (enqueued_value o.kind ≡ Some v)) x xs none) in
    grind (arith, nat_tests, calls_or_not, All-head, none_called v xs)

-- at most one of some operations that are apart calls for a value
pub one_calls : (v : ℕ) (xs : List Operation) → AllPairs AreApart xs → calls v (map (λ o. o.kind) xs) ≤ 1
one_calls v [] apart = omega arith
one_calls v (x ∷ xs) apart =
    let more = one_calls v xs (λ i j d below within. apart (suc i) (suc j) d (omega arith) (omega arith)) in
    elim (calls_or_not v x.kind) [
      | inl h ↦
          let none = none_called v xs (λ k d below. (apart zero (suc k) d (omega arith) (omega arith)).values_apart v h.1) in omega arith
      | inr h ↦ omega arith
    ]

-- a permutation of the operations calls for each value as often
pub calls-IsPermutation : (v : ℕ) (xs ys : List Operation) → IsPermutation xs ys
    → calls v (map (λ o. o.kind) ys) ≡ calls v (map (λ o. o.kind) xs)
calls-IsPermutation v xs ys moved =
    let as_sum : (kinds : List OpKind) → calls v kinds ≡ sum_by (calls_of_kind v) kinds = is_sum_by (calls v) (calls_of_kind v) refl (λ x xs. refl) in
    grind (arith, nat_tests, sum_by-IsPermutation, IsPermutation-map)

-- there are no more operations than events
pub few_operations : (events : List Event) → length (operations_of events) ≤ length events
few_operations [] = omega arith
few_operations (e ∷ later) = grind (arith, few_operations later)

-- ---- Different operations of a complete history have different tickets, and enqueue different values

-- an element of a list is the first one or one of the rest
pub contains_cons : {X : Type 0} (x : X) (xs : List X) (y : X) → Contains (x ∷ xs) y → (x ≡ y) ⊎ Contains xs y
contains_cons x xs y (zero, below, same) = inl same
contains_cons x xs y (suc k, below, same) = inr (k, omega arith, same)

-- the empty list has no element
pub not_in_none : {X : Type 0} (x : X) → ¬ (Contains [] x)
not_in_none x among = let below = among.1 in omega arith

-- each element of a list has a place
pub place_of : {X : Type 0} (xs : List X) (x : X) → Contains xs x → (i : ℕ) × (slice_get xs i ≡ Some x)
place_of xs x among = (among.0, slice_get_read xs (length xs) among.0 x refl among.1 (sym among.2))

-- the element at a place is in the list
pub contains_at : {X : Type 0} (xs : List X) (i : ℕ) (x : X) → slice_get xs i ≡ Some x → Contains xs x
contains_at xs i x at = (i, slice_get_within xs i x at, get_or_from_slice_get xs i x x at)

-- a relation of all pairs holds of the elements at two places
pub pairs_at : {X : Type 0} (R : X → X → Type 0) (xs : List X) (i j : ℕ) (x y : X) → AllPairs R xs → i < j
    → slice_get xs i ≡ Some x
    → slice_get xs j ≡ Some y → R x y
pairs_at R xs i j x y pairs below at_i at_j = grind (arith, slice_get_within, get_or_from_slice_get)

-- a place has only one element
pub one_at : {X : Type 0} (xs : List X) (i : ℕ) (x y : X) → slice_get xs i ≡ Some x → slice_get xs i ≡ Some y → x ≡ y
one_at xs i x y at_x at_y = sym (get_or_from_slice_get xs i x x at_x) ∙ get_or_from_slice_get xs i y x at_y

-- if keys rise, elements with the same key are the same, at the same place
pub one_by_key : {X : Type 0} (key : X → ℕ) (xs : List X) (i j : ℕ) (x y : X) → AllPairs (λ a b. key a < key b) xs
    → slice_get xs i ≡ Some x
    → slice_get xs j ≡ Some y → key x ≡ key y → (i ≡ j) × (x ≡ y)
one_by_key key xs i j x y rise at_x at_y same = elim (cases_order i j) [
  | inl here ↦ (here, one_at xs j x y (subst (λ k. slice_get xs k ≡ Some x) here at_x) at_y)
  | inr (inl below) ↦ let less = pairs_at (λ a b. key a < key b) xs i j x y rise below at_x at_y in absurd (omega (arith, less, same))
  | inr (inr above) ↦ let less = pairs_at (λ a b. key a < key b) xs j i y x rise above at_y at_x in absurd (omega (arith, less, same))
]

-- the element that `find` gives is the first that passes
pub record IsFirstOf {X : Type 0} (p : X → Bool) (xs : List X) (r : X) : Type 0 where
  pub place : ℕ
  pub at : slice_get xs place ≡ Some r
  pub passes : p r ≡ true
  pub first : (k : ℕ) (x : X) → k < place → slice_get xs k ≡ Some x → p x ≡ false

-- the element found is the first that passes
pub found_first : {X : Type 0} (p : X → Bool) (xs : List X) (r : X) → find p xs ≡ Some r → IsFirstOf p xs r
found_first p xs r e =
    let at = sym (find_at p xs) ∙ e in
    let inside = lt-ltb _ _ (slice_get_within xs (position_or_len p xs) r at) in
    let is = position-Some p xs (position_or_len p xs) r (rw inside refl) in
    grind (arith, nat_tests, get_or_from_slice_get)

-- the two events of an operation, with no event of its thread between them
pub record IsTraced (events : List Event) (o : Operation) : Type 0 where
  pub called_at : ℕ
  pub returned_at : ℕ
  pub call : Event
  pub answer : Event
  pub at_call : slice_get events called_at ≡ Some call
  pub at_return : slice_get events returned_at ≡ Some answer
  pub in_order : called_at < returned_at
  pub made : IsMadeOf call answer o
  pub same_thread : answer.thread ≡ call.thread
  pub none_between : (k : ℕ) (e : Event) → called_at < k → k < returned_at → slice_get events k ≡ Some e
      → nat_eq e.thread call.thread ≡ false

-- an element of a list with an optional first element is that one or one of the list
pub contains_cons_option : {X : Type 0} (o : Option X) (xs : List X) (x : X) → Contains (cons_option o xs) x
    → (o ≡ Some x) ⊎ Contains xs x
contains_cons_option None xs x among = inr among
contains_cons_option (Some y) xs x among = elim (contains_cons y xs x among) [ inl same ↦ inl (ap (λ z. Some z) same) | inr there ↦ inr there ]

-- an operation is that of an event and the next one of its thread
of_event : (events : List Event) (o : Operation) → Contains (operations_of events) o
    → (i : ℕ) × (e : Event) × (slice_get events i ≡ Some e)
    × (operation_of e (find (λ r. nat_eq r.thread e.thread) (drop (suc i) events)) ≡ Some o)
of_event [] o among = absurd (not_in_none o among)
of_event (e ∷ later) o among = elim (contains_cons_option _ (operations_of later) o among) [
  | inl here ↦ (zero, e, refl, here)
  | inr there ↦ let more = of_event later o there in (suc more.0, more.1, more.2, more.3)
]

slice_get-drop : {X : Type 0} (xs : List X) (n i j : ℕ) → n + i ≡ j → slice_get (drop n xs) i ≡ slice_get xs j
slice_get-drop [] zero i j is = refl
slice_get-drop [] (suc n) i j is = refl
slice_get-drop (x ∷ xs) zero i j is = ap (slice_get (x ∷ xs)) (omega arith)
slice_get-drop (x ∷ xs) (suc n) i zero is = absurd (omega arith)
slice_get-drop (x ∷ xs) (suc n) i (suc j) is = slice_get-drop xs n i j (omega arith)

-- an operation comes from a call and a return
pub traced : (events : List Event) (o : Operation) → Contains (operations_of events) o → IsTraced events o
traced events o among =
    let of = of_event events o among in
    let made = made_of of.1 _ o of.3 in
    let next = found_first (λ r. nat_eq r.thread of.1.thread) (drop (suc of.0) events) made.0 made.1 in
    record {
      called_at = of.0;
      returned_at = suc of.0 + next.place;
      call = of.1;
      answer = made.0;
      at_call = of.2;
      at_return = sym (slice_get-drop events (suc of.0) next.place _ refl) ∙ next.at;
      in_order = omega arith;
      made = made.2;
      same_thread = eqb-true made.0.thread of.1.thread next.passes;
      none_between = λ k e above below at.
          next.first (k - suc of.0) e (omega (arith, above, below)) (slice_get-drop events (suc of.0) _ k (omega (arith, above)) ∙ at);
    }

-- events with the same ticket are the same, at the same place
pub same_event : (events : List Event) (i j : ℕ) (e r : Event) → TicketsRise events → slice_get events i ≡ Some e
    → slice_get events j ≡ Some r
    → e.ticket ≡ r.ticket → i ≡ j
same_event events i j e r rise at_i at_j same = (one_by_key (λ x. x.ticket) events i j e r rise at_i at_j same).0

call_and_return : (call answer : What) (k : OpKind) → kind_of call answer ≡ Some k
    → (is_call call ≡ true) × (is_call answer ≡ false)
call_and_return call answer k e = grind arith

module _ (events : List Event) (rise : TicketsRise events) where
  -- no operation returns with the ticket of a call
  return_is_no_call : (x y : Operation) → IsTraced events x → IsTraced events y → x.ret ≢ y.call
  return_is_no_call x y tx ty same =
      let one = (one_by_key (λ e. e.ticket) events tx.returned_at ty.called_at tx.answer ty.call rise tx.at_return ty.at_call
      (sym tx.made.returned ∙ same ∙ ty.made.called)).1 in
      let returns = (call_and_return tx.call.what tx.answer.what x.kind tx.made.kind).1 in
      let calls = (call_and_return ty.call.what ty.answer.what y.kind ty.made.kind).0 in
      false≢true (sym returns ∙ ap (λ e. is_call e.what) one ∙ calls)

  not_called_between : (x y : Operation) (tx : IsTraced events x) (ty : IsTraced events y) → x.ret ≡ y.ret
      → tx.called_at < ty.called_at → ⊥
  not_called_between x y tx ty same below =
      let one = one_by_key (λ e. e.ticket) events tx.returned_at ty.returned_at tx.answer ty.answer rise tx.at_return ty.at_return
      (sym tx.made.returned ∙ same ∙ ty.made.returned) in
      let apart = tx.none_between ty.called_at ty.call below (omega (arith, ty.in_order, one.0)) ty.at_call in
      let threads : ty.call.thread ≡ tx.call.thread = sym ty.same_thread ∙ sym (ap (λ e. e.thread) one.1) ∙ tx.same_thread in
      false≢true (sym apart ∙ eq-eqb ty.call.thread tx.call.thread threads)

  same_return_same_call : (x y : Operation) → IsTraced events x → IsTraced events y → x.ret ≡ y.ret → x.call ≡ y.call
  same_return_same_call x y tx ty same = elim (cases_order tx.called_at ty.called_at) [
    | inl here ↦
        let one = one_at events ty.called_at tx.call ty.call (subst (λ i. slice_get events i ≡ Some tx.call) here tx.at_call) ty.at_call in
        tx.made.called ∙ ap (λ e. e.ticket) one ∙ sym ty.made.called
    | inr (inl below) ↦ absurd (not_called_between x y tx ty same below)
    | inr (inr above) ↦ absurd (not_called_between y x ty tx (sym same) above)
  ]

-- the tickets of the events after the first rise too
pub rises_later : (e : Event) (later : List Event) → TicketsRise (e ∷ later) → TicketsRise later
rises_later e later rise i j d below within = rise (suc i) (suc j) d (omega arith) (omega arith)

-- each operation is called before the later ones
pub calls_rise : (events : List Event) → TicketsRise events → AllPairs (λ x y. x.call < y.call) (operations_of events)
calls_rise [] rise = λ i j d below within. absurd (omega arith)
calls_rise (e ∷ later) rise = join (operation_of e (find (λ r. nat_eq r.thread e.thread) later)) refl (calls_rise later (rises_later e later rise))
  where
    join : (made : Option Operation) → operation_of e (find (λ r. nat_eq r.thread e.thread) later) ≡ made
        → AllPairs (λ x y. x.call < y.call) (operations_of later)
        → AllPairs (λ x y. x.call < y.call) (cons_option made (operations_of later))
    join None same more = more
    join (Some o) same more = AllPairs-cons (λ x y. x.call < y.call) o (operations_of later) (λ k d below.
        let made = made_of e (find (λ r. nat_eq r.thread e.thread) later) o same in
        let t = traced later (get_or (operations_of later) k d) (Contains-get_or (operations_of later) k d below) in
        let above = pairs_at (λ x y. x.ticket < y.ticket) (e ∷ later) zero (suc t.called_at) e t.call rise (omega arith) refl t.at_call in
        omega (arith, made.2.called, t.made.called, above)) more

kind_at : (xs : List Operation) (i : ℕ) (o : Operation) → slice_get xs i ≡ Some o
    → slice_get (map (λ o. o.kind) xs) i ≡ Some o.kind
kind_at xs i o at = slice_get-map (λ o. o.kind) xs i ∙ ap (option_map (λ o. o.kind)) at

calls_for : (v : ℕ) (k : OpKind) → enqueued_value k ≡ Some v → calls_of_kind v k ≡ 1
calls_for v k is = grind (arith, eq-eqb)

-- each operation of a complete history returns after its call, and at a ticket in range
pub each_timed : (events : List Event) → IsCompleteHistory events
    → All (λ o. (o.call < o.ret) × (o.ret ≤ MAX_TICKET)) (operations_of events)
each_timed events complete k d below =
    let o = get_or (operations_of events) k d in
    let t = traced events o (Contains-get_or (operations_of events) k d below) in
    let less = pairs_at (λ x y. x.ticket < y.ticket) events t.called_at t.returned_at t.call t.answer complete.tickets_rise t.in_order t.at_call t.at_return in
    grind (arith, All-contains, contains_at)

-- an operation of a complete history returns after its call, and at a ticket in range
pub operation_within : (events : List Event) (o : Operation) → IsCompleteHistory events
    → Contains (operations_of events) o
    → (o.call < o.ret) × (o.ret ≤ MAX_TICKET)
operation_within events o complete among = grind (arith, All-contains, each_timed)

-- no operation of a complete history returns with the ticket of a call
pub returns_at_no_call : (events : List Event) (x y : Operation) → IsCompleteHistory events
    → Contains (operations_of events) x
    → Contains (operations_of events) y → x.ret ≢ y.call
returns_at_no_call events x y complete in_x in_y =
    return_is_no_call events complete.tickets_rise x y (traced events x in_x) (traced events y in_y)

-- the operations of a complete history are apart
pub all_apart : (events : List Event) → IsCompleteHistory events → AllPairs AreApart (operations_of events)
all_apart events complete i j d below within =
    let operations = operations_of events in
    let x = get_or operations i d in
    let y = get_or operations j d in
    let tx = traced events x (Contains-get_or operations i d (omega arith)) in
    let ty = traced events y (Contains-get_or operations j d within) in
    let first = calls_rise events complete.tickets_rise i j d below within in
    record {
      called_first = first;
      returns_apart = λ same. let one = same_return_same_call events complete.tickets_rise x y tx ty same in omega (arith, first, one);
      return_apart = return_is_no_call events complete.tickets_rise x y tx ty;
      values_apart = λ v is_x is_y.
          let here = same_place (map (λ o. o.kind) operations) i j v x.kind y.kind
          (kind_at operations i x (slice_get-get_or operations i d (omega arith))) (kind_at operations j y (slice_get-get_or operations j d within))
          (calls_for v x.kind is_x) (calls_for v y.kind is_y) (called_once events v complete) in
          omega (arith, here, below);
    }

-- the operations of a complete history are complete
pub operations_are_complete : (events : List Event) → IsCompleteHistory events → AreComplete (operations_of events)
operations_are_complete events complete = grind (arith, each_timed, all_apart)

-- ---- operations that are complete

module _ (operations : List Operation) (x y : Operation) (complete : AreComplete operations) (in_x : Contains operations x)
    (in_y : Contains operations y) where
  -- two operations are equal or apart
  one_or_apart : (x ≡ y) ⊎ (AreApart x y ⊎ AreApart y x)
  one_or_apart =
      let at_x = place_of operations x in_x in
      let at_y = place_of operations y in_y in
      elim (cases_order at_x.0 at_y.0) [
        | inl here ↦ inl (one_at operations at_y.0 x y (subst (λ i. slice_get operations i ≡ Some x) here at_x.1) at_y.1)
        | inr (inl below) ↦ inr (inl (pairs_at AreApart operations at_x.0 at_y.0 x y complete.apart below at_x.1 at_y.1))
        | inr (inr above) ↦ inr (inr (pairs_at AreApart operations at_y.0 at_x.0 y x complete.apart above at_y.1 at_x.1))
      ]

  -- operations that are called at the same time are equal
  pub same_call : x.call ≡ y.call → x ≡ y
  same_call same = grind (arith, one_or_apart)

  -- operations that return at the same time are equal
  pub same_return : x.ret ≡ y.ret → x ≡ y
  same_return same = grind (arith, one_or_apart)

  -- if one operation returns at the call of another, they are equal
  pub returns_at_call : x.ret ≡ y.call → x ≡ y
  returns_at_call same = grind (arith, one_or_apart, All-contains)

-- no operation is called after its return
pub call_by_return : (operations : List Operation) (o : Operation) → AreComplete operations → Contains operations o
    → o.call ≤ o.ret
call_by_return operations o complete among = (All-contains IsTimed operations o complete.timed among).returns_late

-- an operation that is no successful enqueue is called before it returns
pub call_before_return : (operations : List Operation) (o : Operation) → AreComplete operations → Contains operations o
    → ((v : ℕ) → o.kind ≢ Enqueue v) → o.call < o.ret
call_before_return operations o complete among = (All-contains IsTimed operations o complete.timed among).takes_time

-- an operation of another kind is no successful enqueue
pub no_enqueue : (o : Operation) (k : OpKind) → o.kind ≡ k → put_in k ≡ None → (v : ℕ) → o.kind ≢ Enqueue v
no_enqueue o k is none v same = let clash : None ≡ Some v = sym none ∙ ap put_in (sym is ∙ same) in cc

-- no operation returns at the call of one that is no successful enqueue
pub return_differs_from_call : (operations : List Operation) (x y : Operation) → AreComplete operations
    → Contains operations x
    → Contains operations y → ((v : ℕ) → y.kind ≢ Enqueue v) → x.ret ≢ y.call
return_differs_from_call operations x y complete in_x in_y other same =
    let one = returns_at_call operations x y complete in_x in_y same in
    grind (arith, call_before_return)

-- operations return within the scale of time
pub return_in_range : (operations : List Operation) (o : Operation) → AreComplete operations → Contains operations o
    → o.ret ≤ MAX_TIME
return_in_range operations o complete among = (All-contains IsTimed operations o complete.timed among).in_range

-- the operation calls to enqueue this value, successfully or not
abbrev pub CallsFor : Operation → ℕ → Type 0
CallsFor o v = (o.kind ≡ Enqueue v) ⊎ (o.kind ≡ EnqueueFailed v)

called_value_of : (o : Operation) (v : ℕ) → CallsFor o v → enqueued_value o.kind ≡ Some v
called_value_of o v (inl e) = ap enqueued_value e
called_value_of o v (inr e) = ap enqueued_value e

-- operations that call to enqueue the same value are equal
pub same_value_call : (operations : List Operation) (x y : Operation) (v : ℕ) → AreComplete operations
    → Contains operations x → Contains operations y
    → CallsFor x v → CallsFor y v → x ≡ y
same_value_call operations x y v complete in_x in_y for_x for_y = elim (one_or_apart operations x y complete in_x in_y) [
  | inl one ↦ one
  | inr (inl apart) ↦ absurd (apart.values_apart v (called_value_of x v for_x) (called_value_of y v for_y))
  | inr (inr apart) ↦ absurd (apart.values_apart v (called_value_of y v for_y) (called_value_of x v for_x))
]

-- enqueues of the same value are equal
pub same_enqueue : (operations : List Operation) (x y : Operation) (v : ℕ) → AreComplete operations
    → Did operations x (Enqueue v)
    → Did operations y (Enqueue v) → x ≡ y
same_enqueue operations x y v complete did_x did_y = same_value_call operations x y v complete did_x.0 did_y.0 (inl did_x.1) (inl did_y.1)

-- ---- values that no two calls share, and initial values

-- ---- initial values: distinct so far, or the first that equals an earlier one

-- values stay distinct with one that isn't among them yet
pub distinct_more : (values : List ℕ) (v : ℕ) → AreDistinct values → is_initial values v ≡ false
    → AreDistinct (values ++ v ∷ [])
distinct_more values v distinct new = all_pairs_push (λ x y. x ≢ y) values v distinct
    (λ k d below same. false≢true (sym new ∙ list_any_at (λ w. nat_eq w v) values k d below (eq-eqb _ _ same)))

-- a value that is among the earlier ones is the fault of the initial values
pub twice_at : (initial : List ℕ) (j v : ℕ) → slice_get initial j ≡ Some v → AreDistinct (take j initial)
    → is_initial (take j initial) v ≡ true
    → HasRefusedInitial initial (InitialTwice j)
twice_at initial j v here distinct there = grind (arith, Any-from_list_any, eqb-true, get_or_default)

-- if a value before place n equals an earlier one, the values before it aren't distinct
pub twice_before : (initial : List ℕ) (j n : ℕ) → j < n → AreDistinct (take n initial) → IsFirstTwice initial j → ⊥
twice_before initial j n below distinct (before, (v, here, earlier)) =
    let inside = slice_get_within initial j v here in
    let short = length-take j initial in
    let long = length-take n initial in
    let low : earlier.0 < j = omega (arith, earlier.1, short) in
    distinct earlier.0 j v low (omega (arith, long, inside, below))
    (get_or-take n initial earlier.0 v (omega arith) ∙ sym (get_or-take j initial earlier.0 v low) ∙ earlier.2
    ∙ sym (get_or_from_slice_get initial j v v here) ∙ sym (get_or-take n initial j v below))

-- distinct values have no value twice
pub twice_not_distinct : (initial : List ℕ) (j : ℕ) → AreDistinct initial → IsFirstTwice initial j → ⊥
twice_not_distinct initial j distinct twice =
    grind (arith, nat_tests, common_steps, gets, slice_get_within, twice_before, take_all)

-- the initial values of a complete history are distinct
pub initial_distinct : (initial : List ℕ) (events : List Event) → IsCompleteFrom initial events → AreDistinct initial
initial_distinct initial events complete i j d below inside same = grind (arith, length-append, get_or_append_left)

-- ---- values of calls

-- a list is cut at the element of a place
pub cut_at : {X : Type 0} (xs : List X) (i : ℕ) (x : X) → slice_get xs i ≡ Some x
    → xs ≡ take i xs ++ x ∷ drop (suc i) xs
cut_at xs i x at = split_at xs i x (slice_get_within xs i x at) ∙ ap (λ y. take i xs ++ y ∷ drop (suc i) xs) (get_or_from_slice_get xs i x x at)

-- a value was called if it is among the values of the calls
was_called_is : (events : List Event) (v : ℕ) → was_called events v ≡ list_any (λ w. nat_eq w v) (called_values events)
was_called_is [] v = refl
was_called_is (e ∷ events) v = grind (arith, was_called_is events v)

-- an element of a list is one of the list with an optional first element
pub behind_option : {X : Type 0} (o : Option X) (xs : List X) (x : X) → Contains xs x → Contains (cons_option o xs) x
behind_option None xs x among = among
behind_option (Some y) xs x among = (suc among.0, omega (arith, among.1), among.2)

-- the value that an event calls with is among the values of the calls
pub value_called : (events : List Event) (i : ℕ) (e : Event) (w : ℕ) → slice_get events i ≡ Some e
    → called_value e.what ≡ Some w
    → Contains (called_values events) w
value_called [] i e w at is = cc
value_called (x ∷ events) zero e w at is = grind (arith, same_Some)
value_called (x ∷ events) (suc i) e w at is = behind_option (called_value x.what) (called_values events) w (value_called events i e w at is)

-- whether a value was called for or is initial
pub known_is : (initial : List ℕ) (events : List Event) (v : ℕ)
    → (was_called events v || is_initial initial v) ≡ list_any (λ w. nat_eq w v) (initial ++ called_values events)
known_is initial events v = grind (arith, or_comm, was_called_is, list_any-append)

-- the initial values and those of the calls stay distinct with a call for a new value
pub distinct_push : (initial : List ℕ) (events : List Event) (e : Event)
    → AreDistinct (initial ++ called_values events)
    → (repeats_value events e || calls_initial initial e) ≡ false
    → AreDistinct (initial ++ called_values (events ++ e ∷ []))
distinct_push initial events e distinct new =
    rw (filter_map-append (λ x. called_value x.what) events (e ∷ []), sym (append_assoc initial (called_values events) (cons_option (called_value e.what) [])))
    (join (called_value e.what) new)
  where
    values : List ℕ
    values = initial ++ called_values events

    join : (called : Option ℕ)
        → (option_map_or (was_called events) called false || option_map_or (is_initial initial) called false) ≡ false
        → AreDistinct (values ++ cons_option called [])
    join None new' = rw append-nil distinct
    join (Some v) new' = distinct_more values v distinct (sym (known_is initial events v) ∙ new')

-- a call between others has a new value if all initial and called values are distinct
pub new_from_distinct : (initial : List ℕ) (before later : List Event) (e : Event)
    → AreDistinct (initial ++ called_values (before ++ e ∷ later))
    → (repeats_value before e || calls_initial initial e) ≡ false
new_from_distinct initial before later e distinct = join (called_value e.what) (rw (filter_map-append (λ x. called_value x.what) before (e ∷ later)) at distinct)
  where
    join : (called : Option ℕ)
        → AreDistinct (initial ++ (called_values before ++ cons_option called (called_values later)))
        → (option_map_or (was_called before) called false || option_map_or (is_initial initial) called false) ≡ false
    join None distinct' = refl
    join (Some v) distinct' = false_from_ne_true (was_called before v || is_initial initial v) repeated
      where
        values : List ℕ
        values = initial ++ called_values before

        repeated : (was_called before v || is_initial initial v) ≡ true → ⊥
        repeated again =
            let there = Any-from_list_any (λ w. nat_eq w v) values (sym (known_is initial before v) ∙ again) in
            let here = get_or_append_left values (v ∷ called_values later) there.1 there.0 there.2 in
            let own = get_or-append_seam values v (called_values later) there.1 in
            let within : length values < length (values ++ v ∷ called_values later) = simp length-append (omega arith) in
            subst AreDistinct (sym (append_assoc initial (called_values before) (v ∷ called_values later))) distinct'
            there.0 (length values) there.1 there.2 within (here ∙ there.3 ∙ eqb-true _ _ there.4 ∙ sym own)

-- a property of each place below i, and of i, holds of each place below i + 1
pub each_more : {X : Type 0} (P : ℕ → X → Type 0) (xs : List X) (i : ℕ) (x : X) → slice_get xs i ≡ Some x → P i x
    → ((k : ℕ) (y : X) → k < i → slice_get xs k ≡ Some y → P k y) → (k : ℕ) (y : X) → k < i + 1
    → slice_get xs k ≡ Some y → P k y
each_more P xs i x here holds before k y below at_k = grind (arith, cases_lt, one_at)
