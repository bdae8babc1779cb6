-- The answers to pending calls, the values that they give, and the operations that they complete.
use Rattle.std.proofs.Common.{◌≡◌, ◌≢◌, ℕ, zero, suc, ◌+◌, ◌-◌, ◌<◌, ◌⊎◌, ◌++◌, inl, inr, Bool, true, false, not, List}
use Rattle.std.proofs.Common.{[], ◌∷◌, length, map, Option}
use Rattle.std.proofs.Common.{Some, None, refl, ap, sym, subst, ◌∙◌, arith}
use Rattle.std.proofs.Common.{get_or, take, drop}
use Rattle.std.specs.Prelude.{AllPairs, Contains, filter, nat_eq, slice_get, option_and_then, cond}
use Rattle.std.specs.List.{cons_option, last_or}
use Rattle.std.proofs.lemmas.Bool.{cases_Bool, eq-eqb, eqb-true}
use Rattle.std.specs.Prelude.{option_map}
use Rattle.std.proofs.lemmas.List.{append_assoc, append-nil, map-append}
use Rattle.std.proofs.lemmas.List.Folds.{Any-from_list_any, list_any_at}
use Rattle.std.proofs.lemmas.List.Kept.{AllPairs-cons}
use Rattle.event_records.specs.declared.event.Event.{Event}
use Rattle.event_records.specs.declared.event.What.{What}
use Rattle.event_records.specs.declared.event.What.TheVariants.{CallEnq, CallDeq, RetEnq, RetNot, RetDeq, RetEmpty}
use Rattle.event_records.specs.declared.limits.TheConstants.{ORIGIN}
use Rattle.event_records.specs.Projection.{projection}
use Rattle.event_records.specs.Turns.{answers, is_call, TicketsRise}
use Rattle.history_merge.specs.declared.operation.Operation.{Operation}
use Rattle.history_merge.specs.declared.operation.OpKind.{OpKind}
use Rattle.history_merge.specs.declared.operation.OpKind.TheVariants.{Enqueue, Dequeue, DequeueEmpty, EnqueueFailed}
use Rattle.history_merge.specs.Complete.{called_value}
use Rattle.history_merge.specs.Faults.{pending_call}
use Rattle.history_merge.specs.Initial.{enqueues_from, initial_enqueues, later_by}
use Rattle.history_merge.specs.Operations.{kind_of, operation_of, operations_of}
use Rattle.history_merge.proofs.Distinct.{contains_at, contains_cons, cut_at, not_in_none, pairs_at, place_of}
use Rattle.history_merge.proofs.Distinct.{rises_later, made_of, traced}
use Rattle.history_merge.proofs.Turns.{answered_is_call, projection-at}
use Rattle.completions.specs.declared.answers.Answer.{Answer}
use Rattle.completions.specs.Pending.{IsHistoryFrom, TakesTurnsSoFar}
use Rattle.completions.specs.Completed.{enqueue_answer, given_value, given_values, is_given, left_values}
use Rattle.completions.specs.Completed.{paired, taken_value, taken_values}
use Rattle.completions.proofs.Followed.{last_is_pending, last_or-some, operations_keep, operations_made}
use Rattle.completions.proofs.Followed.{operations_push, pending_is_last}
use Rattle.completions.proofs.Whole.{pairs_none}
use Rattle.completions.proofs.Followed.{head_option}
use Rattle.history_merge.proofs.Distinct.{contains_cons_option, behind_option}
use Rattle.history_merge.proofs.Lists.{one_deeper, kept, keeps, all_members, AllPairs-tail, pairs_first}

-- ---- the call before a return

-- in a thread whose events take turns, a return comes right after a call of its kind
call_before : (before : List Event) (e : Event) (later : List Event) → TakesTurnsSoFar (before ++ e ∷ later)
    → is_call e.what ≡ false
    → (call : Event) × (last_or None before ≡ Some call) × (answers call.what e.what ≡ true)
call_before [] e [] turns ret = let clash : true ≡ false = sym turns ∙ ret in cc
call_before [] e (answer ∷ later) turns ret = let clash : true ≡ false = sym (answered_is_call e.what answer.what turns.0) ∙ ret in cc
call_before (call ∷ []) e later turns ret = (call, refl, turns.0)
call_before (call ∷ answer ∷ before) e later turns ret =
    let found = call_before before e later turns.1 ret in
    (found.0, last_or-some (Some answer) before found.0 found.1, found.2)

kind_of_answer : (call answer : What) → answers call answer ≡ true → (k : OpKind) × (kind_of call answer ≡ Some k)
kind_of_answer (CallEnq v) RetEnq is = (Enqueue v, refl)
kind_of_answer (CallEnq v) RetNot is = (EnqueueFailed v, refl)
kind_of_answer CallDeq (RetDeq v) is = (Dequeue v, refl)
kind_of_answer CallDeq RetEmpty is = (DequeueEmpty, refl)
kind_of_answer _ _ is = cc

kind_of_dequeue : (call : What) (v : ℕ) (k : OpKind) → kind_of call (RetDeq v) ≡ Some k → k ≡ Dequeue v
kind_of_dequeue CallDeq v k is = let e : Some (Dequeue v) ≡ Some k = is in cc
kind_of_dequeue (CallEnq u) v k is = cc
kind_of_dequeue RetEnq v k is = cc
kind_of_dequeue RetNot v k is = cc
kind_of_dequeue (RetDeq u) v k is = cc
kind_of_dequeue RetEmpty v k is = cc

answer_of_dequeue : (call answer : What) (v : ℕ) → kind_of call answer ≡ Some (Dequeue v) → answer ≡ RetDeq v
answer_of_dequeue CallDeq (RetDeq w) v is = let e : Some (Dequeue w) ≡ Some (Dequeue v) = is in cc
answer_of_dequeue CallDeq RetEmpty v is = cc
answer_of_dequeue CallDeq (CallEnq w) v is = cc
answer_of_dequeue CallDeq CallDeq v is = cc
answer_of_dequeue CallDeq RetEnq v is = cc
answer_of_dequeue CallDeq RetNot v is = cc
answer_of_dequeue (CallEnq u) RetEnq v is = cc
answer_of_dequeue (CallEnq u) RetNot v is = cc
answer_of_dequeue (CallEnq u) (RetDeq w) v is = cc
answer_of_dequeue (CallEnq u) RetEmpty v is = cc
answer_of_dequeue (CallEnq u) (CallEnq w) v is = cc
answer_of_dequeue (CallEnq u) CallDeq v is = cc
answer_of_dequeue RetEnq answer v is = cc
answer_of_dequeue RetNot answer v is = cc
answer_of_dequeue (RetDeq u) answer v is = cc
answer_of_dequeue RetEmpty answer v is = cc

answer_of_enqueue : (call answer : What) (v : ℕ) → kind_of call answer ≡ Some (Enqueue v)
    → (call ≡ CallEnq v) × (answer ≡ RetEnq)
answer_of_enqueue (CallEnq u) RetEnq v is = let e : Some (Enqueue u) ≡ Some (Enqueue v) = is in (let f : u ≡ v = cc in ap (λ w. CallEnq w) f, refl)
answer_of_enqueue (CallEnq u) RetNot v is = cc
answer_of_enqueue (CallEnq u) (RetDeq w) v is = cc
answer_of_enqueue (CallEnq u) RetEmpty v is = cc
answer_of_enqueue (CallEnq u) (CallEnq w) v is = cc
answer_of_enqueue (CallEnq u) CallDeq v is = cc
answer_of_enqueue CallDeq (RetDeq w) v is = cc
answer_of_enqueue CallDeq RetEmpty v is = cc
answer_of_enqueue CallDeq (CallEnq w) v is = cc
answer_of_enqueue CallDeq CallDeq v is = cc
answer_of_enqueue CallDeq RetEnq v is = cc
answer_of_enqueue CallDeq RetNot v is = cc
answer_of_enqueue RetEnq answer v is = cc
answer_of_enqueue RetNot answer v is = cc
answer_of_enqueue (RetDeq u) answer v is = cc
answer_of_enqueue RetEmpty answer v is = cc

module _ (initial : List ℕ) (events : List Event) (history : IsHistoryFrom initial events) where
  -- a return is that of an operation
  operation_of_return : (r : Event) → Contains events r → is_call r.what ≡ false
      → (call : Event) × (o : Operation) × (operation_of call (Some r) ≡ Some o) × Contains (operations_of events) o
  operation_of_return r among ret =
      let at = place_of events r among in
      let parts = cut_at events at.0 r at.1 in
      by_parts (take at.0 events) (drop (suc at.0) events) parts
    where
      by_parts : (before later : List Event) → events ≡ before ++ r ∷ later
          → (call : Event) × (o : Operation) × (operation_of call (Some r) ≡ Some o)
          × Contains (operations_of events) o
      by_parts before later is =
          let turns : TakesTurnsSoFar (projection r.thread before ++ r ∷ projection r.thread later) =
          subst TakesTurnsSoFar (ap (projection r.thread) is ∙ projection-at before later r) (history.threads_take_turns r.thread) in
          let found = call_before (projection r.thread before) r (projection r.thread later) turns ret in
          let kind = kind_of_answer found.0.what r.what found.2 in
          let o : Operation = record { call = found.0.ticket; ret = r.ticket; thread = found.0.thread; kind = kind.0 } in
          let made : operation_of found.0 (Some r) ≡ Some o = rw (kind.1, operation_of) refl in
          let there = operations_made before r found.0 o found.1 made in
          let whole : events ≡ (before ++ r ∷ []) ++ later = is ∙ sym (append_assoc before (r ∷ []) later) in
          (found.0, o, made, subst (λ (es : List Event). Contains (operations_of es) o) (sym whole) (operations_keep (before ++ r ∷ []) later o there))

  -- the given values are those that operations dequeued
  pub given_by : (v : ℕ) → is_given events v ≡ true
      → (o : Operation) × Contains (operations_of events) o × (o.kind ≡ Dequeue v)
  given_by v is =
      let any = Any-from_list_any (λ w. nat_eq w v) (given_values events) is in
      let r = kept (λ (e : Event). given_value e.what) events any.1 (any.0, any.2, any.3) in
      let same : any.1 ≡ v = eqb-true any.1 v any.4 in
      let what : r.0.what ≡ RetDeq v = gives r.0.what any.1 r.2 ∙ ap (λ w. RetDeq w) same in
      let found = operation_of_return r.0 r.1 (ap is_call what) in
      (found.1, found.3, dequeued found.0 r.0 found.1 v found.2 what)
    where
      gives : (what : What) (w : ℕ) → given_value what ≡ Some w → what ≡ RetDeq w
      gives (RetDeq u) w e = cc
      gives _ w e = cc

      dequeued : (call r : Event) (o : Operation) (v : ℕ) → operation_of call (Some r) ≡ Some o → r.what ≡ RetDeq v
          → o.kind ≡ Dequeue v
      dequeued call r o v made what =
          let of = made_of call (Some r) o made in
          let same : r ≡ of.0 = let e : Some r ≡ Some of.0 = of.1 in cc in
          let kind : kind_of call.what (RetDeq v) ≡ Some o.kind =
          subst (λ (w : What). kind_of call.what w ≡ Some o.kind) (ap (λ (e : Event). e.what) (sym same) ∙ what) of.2.kind in
          kind_of_dequeue call.what v o.kind kind

  pub given_value_is : (v : ℕ) (o : Operation) → Contains (operations_of events) o → o.kind ≡ Dequeue v
      → is_given events v ≡ true
  given_value_is v o among is =
      let t = traced events o among in
      let what = answer_of_dequeue t.call.what t.answer.what v (t.made.kind ∙ ap (λ k. Some k) is) in
      let in_given = keeps (λ (e : Event). given_value e.what) events t.answer v (contains_at events t.returned_at t.answer t.at_return) (ap given_value what) in
      list_any_at (λ w. nat_eq w v) (given_values events) in_given.0 v in_given.1 (eq-eqb (get_or (given_values events) in_given.0 v) v in_given.2)

-- ---- enqueues by their returns

-- the operation of a successful enqueue, at its return
abbrev pub taken_operation : List Event → Event → Option Operation
taken_operation before e = elim e.what [
  | RetEnq ↦ option_and_then (λ call. operation_of call (Some e)) (pending_call e.thread before)
  | _ ↦ None
]

abbrev pub taken_from : List Event → List Event → List Operation
taken_from before [] = []
taken_from before (e ∷ later) = cons_option (taken_operation before e) (taken_from (before ++ e ∷ []) later)

taken_made : (before : List Event) (e : Event) (o : Operation) → taken_operation before e ≡ Some o
    → (call : Event) × (pending_call e.thread before ≡ Some call) × (operation_of call (Some e) ≡ Some o)
    × (e.what ≡ RetEnq)
taken_made before e o is = by_what e.what refl is
  where
    by_pending : (p : Option Event) → option_and_then (λ call. operation_of call (Some e)) p ≡ Some o
        → (call : Event) × (p ≡ Some call) × (operation_of call (Some e) ≡ Some o)
    by_pending None made = cc
    by_pending (Some call) made = (call, refl, made)

    by_what : (w : What) → e.what ≡ w → (elim w [ RetEnq ↦ option_and_then (λ call. operation_of call (Some e)) (pending_call e.thread before) | _ ↦ None ]) ≡ Some o
        → (call : Event) × (pending_call e.thread before ≡ Some call) × (operation_of call (Some e) ≡ Some o)
        × (e.what ≡ RetEnq)
    by_what RetEnq what made = let found = by_pending (pending_call e.thread before) made in (found.0, found.1, found.2, what)
    by_what (CallEnq v) what made = cc
    by_what CallDeq what made = cc
    by_what RetNot what made = cc
    by_what (RetDeq v) what made = cc
    by_what RetEmpty what made = cc

-- these are operations of the history
pub taken_in : (before later : List Event) (o : Operation) → Contains (taken_from before later) o
    → Contains (operations_of (before ++ later)) o × ((v : ℕ) × (o.kind ≡ Enqueue v))
    × ((e : Event) × Contains later e × (o.ret ≡ e.ticket))
taken_in before [] o among = absurd (not_in_none o among)
taken_in before (e ∷ later) o among =
    let parts : (before ++ e ∷ []) ++ later ≡ before ++ e ∷ later = append_assoc before (e ∷ []) later in
    elim (contains_cons_option (taken_operation before e) (taken_from (before ++ e ∷ []) later) o among) [
      | inl made ↦
          let found = taken_made before e o made in
          let there = operations_made before e found.0 o (pending_is_last e.thread before found.0 found.1).0 found.2 in
          let of = made_of found.0 (Some e) o found.2 in
          let same : e ≡ of.0 = let s : Some e ≡ Some of.0 = of.1 in cc in (
            subst (λ (es : List Event). Contains (operations_of es) o) parts (operations_keep (before ++ e ∷ []) later o there),
            enqueued found.0.what of.0.what o.kind (ap (λ (x : Event). x.what) (sym same) ∙ found.3) of.2.kind,
            (e, (zero, omega arith, refl), of.2.returned ∙ ap (λ (x : Event). x.ticket) (sym same)),
          )
      | inr deeper ↦
          let found = taken_in (before ++ e ∷ []) later o deeper in
          (subst (λ (es : List Event). Contains (operations_of es) o) parts found.0, found.1, (found.2.0, one_deeper e later found.2.0 found.2.1, found.2.2))
    ]
  where
    enqueued : (call answer : What) (k : OpKind) → answer ≡ RetEnq → kind_of call answer ≡ Some k
        → (v : ℕ) × (k ≡ Enqueue v)
    enqueued (CallEnq v) answer k is made = let e : kind_of (CallEnq v) RetEnq ≡ Some k = subst (λ w. kind_of (CallEnq v) w ≡ Some k) is made in
        let f : Some (Enqueue v) ≡ Some k = e in (v, cc)
    enqueued CallDeq answer k is made = let e : kind_of CallDeq RetEnq ≡ Some k = subst (λ w. kind_of CallDeq w ≡ Some k) is made in let f : None ≡ Some k = e in cc
    enqueued RetEnq answer k is made = cc
    enqueued RetNot answer k is made = cc
    enqueued (RetDeq v) answer k is made = cc
    enqueued RetEmpty answer k is made = cc

-- each successful enqueue is one of these
pub taken_all : (before later : List Event) (o : Operation) (v : ℕ) → Contains (operations_of (before ++ later)) o
    → o.kind ≡ Enqueue v
    → Contains (operations_of before) o ⊎ Contains (taken_from before later) o
taken_all before [] o v among is = inl (subst (λ (es : List Event). Contains (operations_of es) o) (append-nil before) among)
taken_all before (e ∷ later) o v among is =
    let parts : before ++ e ∷ later ≡ (before ++ e ∷ []) ++ later = sym (append_assoc before (e ∷ []) later) in
    elim (taken_all (before ++ e ∷ []) later o v (subst (λ (es : List Event). Contains (operations_of es) o) parts among) is) [
      | inr deeper ↦ inr (behind_option (taken_operation before e) (taken_from (before ++ e ∷ []) later) o deeper)
      | inl old ↦ elim (operations_push before e o old) [
        | inl older ↦ inl older
        | inr (call, last, made) ↦
            let of = made_of call (Some e) o made in
            let same : e ≡ of.0 = let s : Some e ≡ Some of.0 = of.1 in cc in
            let whats = answer_of_enqueue call.what of.0.what v (of.2.kind ∙ ap (λ k. Some k) is) in
            let what : e.what ≡ RetEnq = ap (λ (x : Event). x.what) same ∙ whats.1 in
            let pending = last_is_pending e.thread before call last (ap is_call whats.0) in
            let here : option_and_then (λ c. operation_of c (Some e)) (pending_call e.thread before) ≡ Some o = rw pending made in
            let taken : taken_operation before e ≡ Some o =
            subst (λ (w : What). (elim w [ RetEnq ↦ option_and_then (λ c. operation_of c (Some e)) (pending_call e.thread before) | _ ↦ None ]) ≡ Some o)
            (sym what) here in
            inr (head_option (taken_operation before e) (taken_from (before ++ e ∷ []) later) o taken)
      ]
    ]

-- ---- values of enqueues

-- the value that an operation enqueued
abbrev pub value_in : OpKind → ℕ
value_in (Enqueue v) = v
value_in _ = 0

abbrev pub value_of : Operation → ℕ
value_of o = value_in o.kind

map_cons_option : {X Y : Type 0} (f : X → Y) (made : Option X) (xs : List X)
    → map f (cons_option made xs) ≡ cons_option (option_map f made) (map f xs)
map_cons_option f None xs = refl
map_cons_option f (Some x) xs = refl

value_of_kind : (call e : Event)
    → option_map value_of (operation_of call (Some e)) ≡ option_map value_in (kind_of call.what e.what)
value_of_kind call e = by_kind (kind_of call.what e.what)
  where
    by_kind : (k : Option OpKind) → option_map value_of (elim k [
      | None ↦ None
      | Some kind ↦ Some (record { call = call.ticket; ret = e.ticket; thread = call.thread; kind = kind })
    ]) ≡ option_map value_in k
    by_kind None = refl
    by_kind (Some k) = refl

called_by_enqueue : (call : What) → option_map value_in (kind_of call RetEnq) ≡ called_value call
called_by_enqueue (CallEnq v) = refl
called_by_enqueue CallDeq = refl
called_by_enqueue RetEnq = refl
called_by_enqueue RetNot = refl
called_by_enqueue (RetDeq v) = refl
called_by_enqueue RetEmpty = refl

taken_value_is : (before : List Event) (e : Event)
    → option_map value_of (taken_operation before e) ≡ taken_value before e
taken_value_is before e = by_what e.what refl
  where
    by_pending : (p : Option Event) → e.what ≡ RetEnq
        → option_map value_of (option_and_then (λ call. operation_of call (Some e)) p)
        ≡ option_and_then (λ call. called_value call.what) p
    by_pending None what = refl
    by_pending (Some call) what =
        value_of_kind call e ∙ ap (λ w. option_map value_in (kind_of call.what w)) what ∙ called_by_enqueue call.what

    by_what : (w : What) → e.what ≡ w
        → option_map value_of (elim w [ RetEnq ↦ option_and_then (λ call. operation_of call (Some e)) (pending_call e.thread before) | _ ↦ None ])
        ≡ (elim w [ RetEnq ↦ option_and_then (λ call. called_value call.what) (pending_call e.thread before) | _ ↦ None ])
    by_what RetEnq what = by_pending (pending_call e.thread before) what
    by_what (CallEnq v) what = refl
    by_what CallDeq what = refl
    by_what RetNot what = refl
    by_what (RetDeq v) what = refl
    by_what RetEmpty what = refl

taken_values_are : (before later : List Event) → map value_of (taken_from before later) ≡ taken_values before later
taken_values_are before [] = refl
taken_values_are before (e ∷ later) =
    map_cons_option value_of (taken_operation before e) (taken_from (before ++ e ∷ []) later)
    ∙ ap (λ (o : Option ℕ). cons_option o (map value_of (taken_from (before ++ e ∷ []) later))) (taken_value_is before e)
    ∙ ap (λ (vs : List ℕ). cons_option (taken_value before e) vs) (taken_values_are (before ++ e ∷ []) later)

filter_values : (p : ℕ → Bool) (xs : List Operation)
    → map value_of (filter (λ o. p (value_of o)) xs) ≡ filter p (map value_of xs)
filter_values p [] = refl
filter_values p (x ∷ xs) = elim (cases_Bool (p (value_of x))) [
  | inl passes ↦ rw passes (ap (λ (vs : List ℕ). value_of x ∷ vs) (filter_values p xs))
  | inr fails ↦ rw fails (filter_values p xs)
]

values_enqueued : (n : ℕ) (values : List ℕ) → map value_of (enqueues_from n values) ≡ values
values_enqueued n [] = refl
values_enqueued n (v ∷ values) = ap (λ (vs : List ℕ). v ∷ vs) (values_enqueued (n + 1) values)

values_later : (n : ℕ) (xs : List Operation) → map value_of (map (later_by n) xs) ≡ map value_of xs
values_later n [] = refl
values_later n (x ∷ xs) = ap (λ (vs : List ℕ). value_of x ∷ vs) (values_later n xs)

-- the enqueues of the values that are left, by their returns
abbrev pub left_enqueues : List ℕ → List Event → List Operation
left_enqueues initial events =
    filter (λ o. not (is_given events (value_of o))) (initial_enqueues initial ++ map (later_by ORIGIN) (taken_from [] events))

pub left_are : (initial : List ℕ) (events : List Event)
    → map value_of (left_enqueues initial events) ≡ left_values initial events
left_are initial events =
    filter_values (λ v. not (is_given events v)) (initial_enqueues initial ++ map (later_by ORIGIN) (taken_from [] events))
    ∙ ap (filter (λ v. not (is_given events v)))
    (map-append value_of (initial_enqueues initial) (map (later_by ORIGIN) (taken_from [] events))
    ∙ ap (λ (vs : List ℕ). vs ++ map value_of (map (later_by ORIGIN) (taken_from [] events))) (values_enqueued (ORIGIN - length initial) initial)
    ∙ ap (λ (vs : List ℕ). initial ++ vs) (values_later ORIGIN (taken_from [] events) ∙ taken_values_are [] events))

-- ---- the answers

pub paired_at : (calls : List Event) (values : List ℕ) (i : ℕ) (c : Event) (v : ℕ) → slice_get calls i ≡ Some c
    → slice_get values i ≡ Some v
    → Contains (paired calls values) (record { call = c; what = RetDeq v })
paired_at [] values i c v at_c at_v = let clash : None ≡ Some c = at_c in cc
paired_at (x ∷ calls) [] i c v at_c at_v = let clash : None ≡ Some v = at_v in cc
paired_at (x ∷ calls) (w ∷ values) zero c v at_c at_v =
    let a : Some x ≡ Some c = at_c in
    let b : Some w ≡ Some v = at_v in
    let one : x ≡ c = cc in
    let same : w ≡ v = cc in
    subst (λ (e : Event). Contains (paired (x ∷ calls) (w ∷ values)) (record { call = e; what = RetDeq v })) one
    (subst (λ (u : ℕ). Contains (paired (x ∷ calls) (w ∷ values)) (record { call = x; what = RetDeq u })) same (zero, omega arith, refl))
paired_at (x ∷ calls) (w ∷ values) (suc i) c v at_c at_v =
    one_deeper (record { call = x; what = RetDeq w }) (paired calls values) (record { call = c; what = RetDeq v }) (paired_at calls values i c v at_c at_v)

pub paired_from : (calls : List Event) (values : List ℕ) (a : Answer) → Contains (paired calls values) a
    → (i : ℕ) × (v : ℕ) × (slice_get calls i ≡ Some a.call) × (slice_get values i ≡ Some v) × (a.what ≡ RetDeq v)
paired_from [] values a among = absurd (not_in_none a among)
paired_from (x ∷ calls) [] a among = absurd (not_in_none a among)
paired_from (x ∷ calls) (w ∷ values) a among = elim (contains_cons (record { call = x; what = RetDeq w }) (paired calls values) a among) [
  | inl here ↦ (zero, w, ap (λ (b : Answer). Some b.call) here, refl, ap (λ (b : Answer). b.what) (sym here))
  | inr there ↦ let found = paired_from calls values a there in (suc found.0, found.1, found.2, found.3, found.4)
]

abbrev pub OtherThread : Event → Event → Type 0
OtherThread c d = c.thread ≢ d.thread

pub paired_apart : (calls : List Event) (values : List ℕ) → AllPairs OtherThread calls
    → AllPairs (λ a b. a.call.thread ≢ b.call.thread) (paired calls values)
paired_apart [] values apart = pairs_none (λ (a b : Answer). a.call.thread ≢ b.call.thread)
paired_apart (x ∷ calls) [] apart = pairs_none (λ (a b : Answer). a.call.thread ≢ b.call.thread)
paired_apart (x ∷ calls) (w ∷ values) apart = AllPairs-cons (λ (a b : Answer). a.call.thread ≢ b.call.thread) (record { call = x; what = RetDeq w }) (paired calls values)
    (all_members (λ (b : Answer). x.thread ≢ b.call.thread) (paired calls values) (λ b among.
    let found = paired_from calls values b among in pairs_first OtherThread x calls b.call apart (contains_at calls found.0 b.call found.2)))
    (paired_apart calls values (AllPairs-tail OtherThread x calls apart))

-- an answer to an enqueue
pub enqueue_answer_is : (events : List Event) (c : Event) (a : Answer) → enqueue_answer events c ≡ Some a
    → (v : ℕ) × (c.what ≡ CallEnq v) × (is_given events v ≡ true) × (a.call ≡ c) × (a.what ≡ RetEnq)
enqueue_answer_is events c a is = by_value (called_value c.what) refl is
  where
    called : (w : What) (v : ℕ) → called_value w ≡ Some v → w ≡ CallEnq v
    called (CallEnq u) v e = let f : Some u ≡ Some v = e in let g : u ≡ v = cc in ap (λ x. CallEnq x) g
    called CallDeq v e = cc
    called RetEnq v e = cc
    called RetNot v e = cc
    called (RetDeq u) v e = cc
    called RetEmpty v e = cc

    by_value : (found : Option ℕ) → called_value c.what ≡ found
        → option_and_then (λ v. cond (is_given events v) (Some (record { call = c; what = RetEnq })) None) found
        ≡ Some a
        → (v : ℕ) × (c.what ≡ CallEnq v) × (is_given events v ≡ true) × (a.call ≡ c) × (a.what ≡ RetEnq)
    by_value None found made = cc
    by_value (Some v) found made = elim (cases_Bool (is_given events v)) [
      | inl given ↦
          let same : ◌≡◌ {A = Option Answer} (Some (record { call = c; what = RetEnq })) (Some a) = rw given at made in
          let one : ◌≡◌ {A = Answer} (record { call = c; what = RetEnq }) a = cc in
          (v, called c.what v found, given, sym (ap (λ (b : Answer). b.call) one), sym (ap (λ (b : Answer). b.what) one))
      | inr other ↦ let clash : None ≡ Some a = rw other at made in cc
    ]

-- an enqueue whose value was given is answered
pub enqueue_answered : (events : List Event) (c : Event) (v : ℕ) → c.what ≡ CallEnq v → is_given events v ≡ true
    → enqueue_answer events c ≡ Some (record { call = c; what = RetEnq })
enqueue_answered events c v what given =
    ap (option_and_then (λ w. cond (is_given events w) (Some (record { call = c; what = RetEnq })) None)) (ap called_value what) ∙ rw given refl

-- the enqueues rise by their returns
pub taken_rises : (before later : List Event) → TicketsRise later
    → AllPairs (λ x y. x.ret < y.ret) (taken_from before later)
taken_rises before [] rise = pairs_none (λ (x y : Operation). x.ret < y.ret)
taken_rises before (e ∷ later) rise = by_made (taken_operation before e) refl (taken_rises (before ++ e ∷ []) later (rises_later e later rise))
  where
    by_made : (made : Option Operation) → taken_operation before e ≡ made
        → AllPairs (λ x y. x.ret < y.ret) (taken_from (before ++ e ∷ []) later)
        → AllPairs (λ x y. x.ret < y.ret) (cons_option made (taken_from (before ++ e ∷ []) later))
    by_made None is rest = rest
    by_made (Some o) is rest =
        let found = taken_made before e o is in
        let of = made_of found.0 (Some e) o found.2 in
        let same : e ≡ of.0 = let s : Some e ≡ Some of.0 = of.1 in cc in
        let ret : o.ret ≡ e.ticket = of.2.returned ∙ ap (λ (x : Event). x.ticket) (sym same) in
        AllPairs-cons (λ (x y : Operation). x.ret < y.ret) o (taken_from (before ++ e ∷ []) later)
        (all_members (λ y. o.ret < y.ret) (taken_from (before ++ e ∷ []) later) (λ y among.
        let there = (taken_in (before ++ e ∷ []) later y among).2 in
        let at = place_of later there.0 there.1 in
        let less = pairs_at (λ (a b : Event). a.ticket < b.ticket) (e ∷ later) zero (suc at.0) e there.0 rise (omega arith) refl at.1 in
        omega (arith, ret, there.2, less)))
        rest
