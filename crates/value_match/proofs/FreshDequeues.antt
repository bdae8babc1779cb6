-- Phantom dequeues, recognised by the places of the calls.
use Rattle.value_match.proofs.Common.{ap, AreChosenFresh, AreComplete, arith, Bool, CallsFor, cases_lt, cond, Contains}
use Rattle.value_match.proofs.Common.{contains_at, Dequeue, each_more, Enqueue, enqueued_value, false, false≢true}
use Rattle.value_match.proofs.Common.{FreshPlaces}
use Rattle.value_match.proofs.Common.{IfSome, inl, inr, is_failed, IsAt, IsCallPlace, IsEnqueuedTooLate, IsFreshFrom}
use Rattle.value_match.proofs.Common.{IsFreshViolation, IsMaybeAt, IsSourceOf, IsTrue, le-ltb, length, List, lt-ltb}
use Rattle.value_match.proofs.Common.{ltb-true, MatchOption, nat_lt, NoFreshViolation, None, NoneFresh, EnqueueFailed}
use Rattle.value_match.proofs.Common.{on}
use Rattle.value_match.proofs.Common.{one_at, Operation, OpKind, Option, place_of, refl, return_at, same_value_call}
use Rattle.value_match.proofs.Common.{slice_get_within, Some, subst, sym, true, ℕ, ◌+◌, ◌<◌, ◌||◌, ◌↔◌, ◌≡◌, ◌≤◌, ◌⊎◌}
use Rattle.value_match.proofs.HistoryPlaces.{fresh_dequeues}

-- an operation that called to enqueue a value succeeded or failed
pub calls_for : (kind : OpKind) (v : ℕ) → enqueued_value kind ≡ Some v → (kind ≡ Enqueue v) ⊎ (kind ≡ EnqueueFailed v)
calls_for (Enqueue w) v h = let same : w ≡ v = cc in inl (ap Enqueue same)
calls_for (EnqueueFailed w) v h = let same : w ≡ v = cc in inr (ap EnqueueFailed same)
calls_for _ v h = cc

-- a dequeue is a phantom dequeue if the call for its value failed or came after its return
pub fresh_by_call : (operations : List Operation) (i p : ℕ) (o call : Operation) (v : ℕ) → IsAt operations i o
    → o.kind ≡ Dequeue v
    → IsAt operations p call → enqueued_value call.kind ≡ Some v
    → IsTrue (is_failed call || nat_lt o.ret call.call) ↔ IsFreshFrom operations (Some p) o
fresh_by_call operations i p o call v here is there calls = (λ soon. (Some call, there, late soon), only)
  where
    late : (is_failed call || nat_lt o.ret call.call) ≡ true → IsEnqueuedTooLate (on operations) o call
    late soon = record {
      value = v;
      dequeues = (contains_at operations i o here, is);
      enqueues = elim (calls_for call.kind v calls) [
        | inl accepted ↦ inr ((contains_at operations p call there, accepted), ltb-true _ _ (rw accepted at soon))
        | inr failed ↦ inl (contains_at operations p call there, failed)
      ];
    }

    only : IsFreshFrom operations (Some p) o → (is_failed call || nat_lt o.ret call.call) ≡ true
    only (None, at, violates) = elim at [ ]
    only (Some e, at, violates) = let same = one_at operations p call e there at in elim violates.enqueues [
      | inl failed ↦ rw (same, failed.1) refl
      | inr accepted ↦ rw (same, accepted.0.1, lt-ltb o.ret e.call accepted.1) refl
    ]

-- a dequeue without a source is a phantom dequeue
pub fresh_at_none : (operations : List Operation) (i : ℕ) (o x : Operation) (v : ℕ) → IsAt operations i o
    → o.kind ≡ Dequeue v
    → IsCallPlace operations v None → IsAt operations i x → IsTrue true ↔ IsFreshFrom operations None x
fresh_at_none operations i o x v here is none there =
    let fresh : IsFreshViolation (on operations) o None = record {
      value = v;
      dequeues = (contains_at operations i o here, is);
      not_accepted = λ x did. none x did.0 (rw did.1 refl);
      not_failed = λ x among did. none x among (rw did refl);
    } in
    rw (one_at operations i x o there here) (λ _. (None, tt, fresh), λ _. refl)

-- a dequeue with a source is a phantom dequeue if and only if the call there failed or came after its return
pub fresh_at_some : (operations : List Operation) (i p : ℕ) (o x : Operation) (v : ℕ) (soon : Bool)
    → IsAt operations i o → o.kind ≡ Dequeue v
    → IsCallPlace operations v (Some p)
    → ((call : Operation) → IsAt operations p call → soon ≡ (is_failed call || nat_lt o.ret call.call))
    → IsAt operations i x → IsTrue soon ↔ IsFreshFrom operations (Some p) x
fresh_at_some operations i p o x v soon here is call tells there =
    rw (one_at operations i x o there here, tells call.0 call.1) (fresh_by_call operations i p o call.0 v here is call.1 call.2)

-- the call that a violation names is the source
pub named_by_source : (operations : List Operation) (o : Operation) (enq : Option Operation) (source : Option ℕ)
    → AreComplete operations
    → IsSourceOf operations o.kind source
    → IsFreshViolation (on operations) o enq → IsMaybeAt operations source enq
named_by_source operations o None source complete from violates = named source (subst (λ kind. IsSourceOf operations kind source) violates.dequeues.1 from)
  where
    named : (place : Option ℕ) → IsCallPlace operations violates.value place → IsMaybeAt operations place None
    named None none = tt
    named (Some p) (call, there, calls) = elim (calls_for call.kind violates.value calls) [
      | inl accepted ↦ absurd (violates.not_accepted call (contains_at operations p call there, accepted))
      | inr failed ↦ absurd (violates.not_failed call (contains_at operations p call there) failed)
    ]
named_by_source operations o (Some e) source complete from violates = named source (subst (λ kind. IsSourceOf operations kind source) violates.dequeues.1 from)
  where
    for_it : Contains operations e × CallsFor e violates.value
    for_it = elim violates.enqueues [ inl failed ↦ (failed.0, inr failed.1) | inr accepted ↦ (accepted.0.0, inl accepted.0.1) ]

    named : (place : Option ℕ) → IsCallPlace operations violates.value place → IsMaybeAt operations place (Some e)
    named None none = absurd (none e for_it.0 (elim for_it.1 [ inl accepted ↦ ap enqueued_value accepted | inr failed ↦ ap enqueued_value failed ]))
    named (Some p) (call, there, calls) =
        let same = same_value_call operations call e violates.value complete (contains_at operations p call there) for_it.0
        (calls_for call.kind violates.value calls) for_it.1 in
        subst (IsAt operations p) same there

-- an operation that is no dequeue is no phantom dequeue
pub no_dequeue : (operations : List Operation) (i : ℕ) (o : Operation) → IsAt operations i o
    → ((v : ℕ) → ¬ (o.kind ≡ Dequeue v)) → NoneFresh operations i
    → NoneFresh operations (i + 1)
no_dequeue operations i o here other none =
    each_more (λ k x. (enq : Option Operation) → ¬ (IsFreshViolation (on operations) x enq)) operations i o here
    (λ enq violates. let dequeue = fresh_dequeues operations o enq violates in other dequeue.0 dequeue.1) none

-- a dequeue after the call for its value is no phantom dequeue
pub in_time_more : (operations : List Operation) (i p : ℕ) (o : Operation) (v : ℕ) → AreComplete operations
    → IsAt operations i o
    → o.kind ≡ Dequeue v → IsCallPlace operations v (Some p)
    → ((call : Operation) → IsAt operations p call → false ≡ (is_failed call || nat_lt o.ret call.call))
    → NoneFresh operations i → NoneFresh operations (i + 1)
in_time_more operations i p o v complete here is call tells none =
    each_more (λ k x. (enq : Option Operation) → ¬ (IsFreshViolation (on operations) x enq)) operations i o here
    (λ enq violates.
    let source = subst (λ kind. IsSourceOf operations kind (Some p)) (sym is) call in
    let from : IsFreshFrom operations (Some p) o = (enq, named_by_source operations o enq (Some p) complete source violates, violates) in
    false≢true ((fresh_at_some operations i p o o v false here is call tells here).1 from)) none

-- a phantom dequeue is one of the operations
pub violates_among : (operations : List Operation) (o : Operation) (enq : Option Operation)
    → IsFreshViolation (on operations) o enq → Contains operations o
violates_among operations o None violates = violates.dequeues.0
violates_among operations o (Some e) violates = violates.dequeues.0

-- none of the first n operations is a phantom dequeue, or the one that was found is, and returns first
abbrev pub IsFirstFresh : List Operation → ℕ → Option FreshPlaces → Type 0
IsFirstFresh operations n None = NoneFresh operations n
IsFirstFresh operations n (Some found) =
    (deq : Operation) × IsAt operations found.deq deq × IsFreshFrom operations found.enq deq
    × ((k : ℕ) (o : Operation) → k < n → IsAt operations k o → (enq : Option Operation) → IsFreshViolation (on operations) o enq → deq.ret ≤ o.ret)

-- at the end there is no phantom dequeue, or the one found is the chosen one
pub first_of_all : (operations : List Operation) (n : ℕ) (first : Option FreshPlaces) → length operations ≤ n
    → IsFirstFresh operations n first
    → MatchOption first (NoFreshViolation (on operations)) (AreChosenFresh operations)
first_of_all operations n None all none = λ deq enq violates.
    let at = place_of operations deq (violates_among operations deq enq violates) in
    none at.0 deq (let within = slice_get_within operations at.0 deq at.1 in omega arith) at.1 enq violates
first_of_all operations n (Some found) all (deq, at, (enq, named, violates), before) = (
  deq,
  enq,
  at,
  named,
  record {
    violates = violates;
    first = λ deq' enq' violates'.
        let at' = place_of operations deq' (violates_among operations deq' enq' violates') in
        before at'.0 deq' (let within = slice_get_within operations at'.0 deq' at'.1 in omega arith) at'.1 enq' violates';
  },
)

-- the phantom dequeue found so far is one of the operations
pub first_in_range : (operations : List Operation) (n : ℕ) (first : Option FreshPlaces)
    → IsFirstFresh operations n first
    → IfSome first (λ f. f.deq < length operations)
first_in_range operations n None found = tt
first_in_range operations n (Some f) found = slice_get_within operations f.deq found.0 found.1

-- ---- the operation that the walk reads, with its source

module _ (operations : List Operation) (i : ℕ) (o : Operation) (source : Option ℕ) (here : IsAt operations i o) where
  -- an operation that is no phantom dequeue leaves the first
  pub first_skip : (first : Option FreshPlaces) → AreComplete operations → IsSourceOf operations o.kind source
      → ¬ (IsFreshFrom operations source o) → IsFirstFresh operations i first → IsFirstFresh operations (i + 1) first
  first_skip first complete from not_fresh found = skip first found
    where
      clear : (enq : Option Operation) → ¬ (IsFreshViolation (on operations) o enq)
      clear enq violates = not_fresh (enq, named_by_source operations o enq source complete from violates, violates)

      skip : (first : Option FreshPlaces) → IsFirstFresh operations i first → IsFirstFresh operations (i + 1) first
      skip None found = each_more (λ k x. (enq : Option Operation) → ¬ (IsFreshViolation (on operations) x enq)) operations i o here clear found
      skip (Some f) (deq, at, fresh, before) = (
        deq,
        at,
        fresh,
        each_more (λ k x. (enq : Option Operation) → IsFreshViolation (on operations) x enq → deq.ret ≤ x.ret) operations i o here
            (λ enq violates. absurd (clear enq violates)) before,
      )

  -- a phantom dequeue that returns sooner becomes the first
  pub first_more : (first : Option FreshPlaces) (other sooner : FreshPlaces) → other.deq ≡ i → other.enq ≡ source
      → IsFreshFrom operations source o → (first ≡ None → sooner ≡ other)
      → IfSome first (λ f. sooner
      ≡ cond (nat_lt (return_at operations f.deq) (return_at operations other.deq)) f other)
      → IsFirstFresh operations i first → IsFirstFresh operations (i + 1) (Some sooner)
  first_more first other sooner deq_is enq_is violates none some found = pick first none some found
    where
      here' : IsAt operations other.deq o
      here' = rw deq_is here

      violates' : IsFreshFrom operations other.enq o
      violates' = rw enq_is violates

      -- a phantom dequeue that returns no later than those so far
      soonest : (f : FreshPlaces) (deq : Operation) → IsAt operations f.deq deq → IsFreshFrom operations f.enq deq
          → ((k : ℕ) (x : Operation) → k < i → IsAt operations k x → (enq : Option Operation)
          → IsFreshViolation (on operations) x enq → deq.ret ≤ x.ret)
          → deq.ret ≤ o.ret → IsFirstFresh operations (i + 1) (Some f)
      soonest f deq at from before last = (
        deq,
        at,
        from,
        each_more (λ k x. (enq : Option Operation) → IsFreshViolation (on operations) x enq → deq.ret ≤ x.ret) operations i o here (λ _ _. last) before,
      )

      pick : (first : Option FreshPlaces) → (first ≡ None → sooner ≡ other)
          → IfSome first (λ f. sooner
          ≡ cond (nat_lt (return_at operations f.deq) (return_at operations other.deq)) f other)
          → IsFirstFresh operations i first → IsFirstFresh operations (i + 1) (Some sooner)
      pick None none some found = rw (none refl) (soonest other o here' violates' (λ k x below at enq is'. absurd (found k x below at enq is')) (omega arith))
      pick (Some f) none some (deq, at, from, before) =
          let ret : return_at operations f.deq ≡ deq.ret = rw at refl in
          let ret_o : return_at operations other.deq ≡ o.ret = rw here' refl in
          elim (cases_lt (return_at operations f.deq) (return_at operations other.deq)) [
            | inl less ↦ rw (some, lt-ltb _ _ less) (soonest f deq at from before (omega arith))
            | inr most ↦
                rw (some, le-ltb _ _ most)
                (soonest other o here' violates' (λ k x below at enq is'. let low = before k x below at enq is' in omega arith) (omega arith))
          ]
