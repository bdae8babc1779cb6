-- The tickets of the lives of a clear history.
use Rattle.linearizer.proofs.Common.{All-contains, AllPairs, ap, AreComplete, arith, call_before_return, timeline_of}
use Rattle.linearizer.proofs.Common.{call_by_return, call_or_never, Contains, Dequeue, dequeue_call, dequeue_of}
use Rattle.linearizer.proofs.Common.{clear_on}
use Rattle.linearizer.proofs.Common.{dequeue_return, Did, did_dequeue, Enqueue, enqueue_call, enqueue_of}
use Rattle.linearizer.proofs.Common.{enqueue_return}
use Rattle.linearizer.proofs.Common.{enqueues, entered_by, inl, inr, IsClear, IsLife, IsTimed, IsValueOrder, course_of}
use Rattle.linearizer.proofs.Common.{leaves_from, Life, life_from, List, lives_of, MatchOption, NEVER, no_enqueue}
use Rattle.linearizer.proofs.Common.{None, NoneDid, on, one_life_of_dequeue, one_life_of_enqueue, Operation, OpKind}
use Rattle.linearizer.proofs.Common.{Option, refl, return_in_range, return_or_never, returns_at_call, same_return}
use Rattle.linearizer.proofs.Common.{same_Some, slice_get, Some, subst, sym, ℕ, ◌<◌, ◌∙◌, ◌≡◌, ◌≢◌, ◌≤◌, ◌⊎◌, Contents}
use Rattle.linearizer.proofs.Common.{clear_life}
use Rattle.linearizer.proofs.Elements.{kept_rises, one_place}

-- facts about the tickets of one life
pub record HasLifeTimes (life : Life) : Type 0 where
  pub enqueue_returns : enqueue_call life ≤ enqueue_return life
  pub returns_above_zero : 0 < enqueue_return life
  pub enqueue_is_past : enqueue_return life < NEVER
  pub dequeue_takes_time : (dequeue_call life < dequeue_return life)
      ⊎ ((dequeue_call life ≡ NEVER) × (dequeue_return life ≡ NEVER))
  pub enters_after_call : enqueue_call life ≤ entered_by life
  pub leaves_before_return : (leaves_from life < dequeue_return life) ⊎ (dequeue_return life ≡ NEVER)
  pub returns_by_never : dequeue_return life ≤ NEVER
  pub leaves_by_never : leaves_from life ≤ NEVER

-- facts about the tickets of a dequeue and its enqueue
record HasDequeueTimes (enqueue : Operation) (dequeue : Option Operation) : Type 0 where
  takes_time : (call_or_never dequeue < return_or_never dequeue)
      ⊎ ((call_or_never dequeue ≡ NEVER) × (return_or_never dequeue ≡ NEVER))
  after_enqueue : enqueue.call < return_or_never dequeue
  in_range : return_or_never dequeue ≤ NEVER

-- the times of a life are in their order
pub times_of_life : (operations : List Operation) (life : Life) → IsClear (on operations) → IsLife (on operations) life
    → HasLifeTimes life
times_of_life operations life clear (v, did, dequeues) =
    let range = return_in_range operations (enqueue_of life) clear.complete did.0 in
    let timed = All-contains IsTimed operations (enqueue_of life) clear.complete.timed did.0 in
    let order : enqueue_call life ≤ enqueue_return life = timed.returns_late in
    let times = dequeue_times (enqueue_of life) (dequeue_of life) did dequeues in
    let after : enqueue_call life < dequeue_return life = times.after_enqueue in
    let called : dequeue_call life ≤ NEVER = elim times.takes_time [ inl less ↦ omega arith | inr never ↦ omega arith ] in
    record {
      enqueue_returns = order;
      returns_above_zero = timed.above_zero;
      enqueue_is_past = omega arith;
      dequeue_takes_time = times.takes_time;
      enters_after_call = omega arith;
      leaves_before_return = elim times.takes_time [ inl less ↦ inl (omega arith) | inr never ↦ inr never.1 ];
      returns_by_never = times.in_range;
      leaves_by_never = omega arith;
    }
  where
    dequeue_times : (enqueue : Operation) (dequeue : Option Operation) → Did operations enqueue (Enqueue v)
        → MatchOption dequeue (NoneDid operations (Dequeue v)) (λ d. Did operations d (Dequeue v))
        → HasDequeueTimes enqueue dequeue
    dequeue_times enqueue None did none =
        let range = return_in_range operations enqueue clear.complete did.0 in
        record { takes_time = inr (refl, refl); after_enqueue = omega (arith, call_by_return operations enqueue clear.complete did.0); in_range = omega arith }
    dequeue_times enqueue (Some d) did did_d =
        let range = return_in_range operations d clear.complete did_d.0 in
        let differ : d.ret ≢ enqueue.call = λ same.
        let one = returns_at_call operations d enqueue clear.complete did_d.0 did.0 same in
        let clash : Dequeue v ≡ Enqueue v = sym did_d.1 ∙ ap (λ o. o.kind) one ∙ did.1 in cc in
        let fresh : ¬ (d.ret < enqueue.call) = λ early. clear.no_fresh d (Some enqueue) (record { value = v; dequeues = did_d; enqueues = inr (did, early) }) in
        record {
          takes_time = inl (call_before_return operations d clear.complete did_d.0 (no_enqueue d (Dequeue v) did_d.1 refl));
          after_enqueue = omega arith;
          in_range = omega arith;
        }

-- the times of a life of a history are in their order
pub history_times : (history : Contents) → IsClear (course_of history) → (life : Life)
    → IsLife (course_of history) life → HasLifeTimes life
history_times history clear life is = times_of_life (timeline_of history) life (clear_on history.initial history.operations clear)
    (clear_life history.initial history.operations clear life is)

-- each dequeue returns before the time `NEVER`
pub returned_in_time : (operations : List Operation) (life : Life) (d : Operation) → IsClear (on operations)
    → IsLife (on operations) life
    → dequeue_of life ≡ Some d → dequeue_return life < NEVER
returned_in_time operations life d clear is dequeues =
    let range = return_in_range operations d clear.complete (did_dequeue operations life d is dequeues).0 in
    let returns : dequeue_return life ≡ d.ret = ap return_or_never dequeues in
    omega arith

-- ---- different lives have different tickets

-- the operation belongs to the life
abbrev pub IsOf : Life → Operation → Type 0
IsOf life o = (enqueue_of life ≡ o) ⊎ (dequeue_of life ≡ Some o)

-- an operation of the life has this ticket as its call or return
pub record HasTicket (of : Operation → ℕ) (operations : List Operation) (life : Life) (ticket : ℕ) : Type 0 where
  pub o : Operation
  pub among : Contains operations o
  pub is_of : IsOf life o
  pub is : of o ≡ ticket

-- the ticket of a life's dequeue, or `NEVER`
dequeue_has : (of : Operation → ℕ) (or_never : Option Operation → ℕ) (operations : List Operation) (life : Life)
    → or_never None ≡ NEVER
    → ((d : Operation) → of d ≡ or_never (Some d)) → IsLife (on operations) life
    → HasTicket of operations life (or_never (dequeue_of life)) ⊎ (or_never (dequeue_of life) ≡ NEVER)
dequeue_has of or_never operations life never some is = go (dequeue_of life) refl is.2
  where
    go : (dequeue : Option Operation) → dequeue_of life ≡ dequeue
        → MatchOption dequeue (NoneDid operations (Dequeue is.0)) (λ d. Did operations d (Dequeue is.0))
        → HasTicket of operations life (or_never dequeue) ⊎ (or_never dequeue ≡ NEVER)
    go None same none = inr never
    go (Some d) same did = inl (record { o = d; among = did.0; is_of = inr same; is = some d })

dequeue_returns : (operations : List Operation) (life : Life) → IsLife (on operations) life
    → HasTicket (λ o. o.ret) operations life (dequeue_return life) ⊎ (dequeue_return life ≡ NEVER)
dequeue_returns operations life is = dequeue_has (λ o. o.ret) return_or_never operations life refl (λ d. refl) is

-- the time by which a value has entered is a return of its own
pub entered_at_return : (operations : List Operation) (life : Life) → IsClear (on operations)
    → IsLife (on operations) life → HasTicket (λ o. o.ret) operations life (entered_by life)
entered_at_return operations life clear is =
    let times = times_of_life operations life clear is in
    let first : (entered_by life ≡ enqueue_return life) ⊎ ((entered_by life ≡ dequeue_return life) × (dequeue_return life < enqueue_return life)) =
    grind arith in
    elim first [
      | inl enqueued ↦ record { o = enqueue_of life; among = is.1.0; is_of = inl refl; is = sym enqueued }
      | inr dequeued ↦ elim (dequeue_returns operations life is) [
        | inl at ↦ record { o = at.o; among = at.among; is_of = at.is_of; is = at.is ∙ sym dequeued.0 }
        | inr never ↦ absurd (omega (arith, dequeued.1, times.enqueue_is_past))
      ]
    ]

-- the time from which a value can leave is a call of its own, or `NEVER`
pub leaves_at_call : (operations : List Operation) (life : Life) → IsClear (on operations)
    → IsLife (on operations) life
    → HasTicket (λ o. o.call) operations life (leaves_from life) ⊎ (leaves_from life ≡ NEVER)
leaves_at_call operations life clear is =
    let times = times_of_life operations life clear is in
    let last : (leaves_from life ≡ enqueue_call life) ⊎ ((leaves_from life ≡ dequeue_call life) × (enqueue_call life ≤ dequeue_call life)) = grind arith in
    elim last [
      | inl enqueued ↦ inl (record { o = enqueue_of life; among = is.1.0; is_of = inl refl; is = sym enqueued })
      | inr dequeued ↦ elim (dequeue_has (λ o. o.call) call_or_never operations life refl (λ d. refl) is) [
        | inl at ↦ inl (record { o = at.o; among = at.among; is_of = at.is_of; is = at.is ∙ sym dequeued.0 })
        | inr never ↦ inr (dequeued.0 ∙ never)
      ]
    ]

-- no operation is both an enqueue and a dequeue
pub not_both_kinds : (operations : List Operation) (x y : Life) (o : Operation) → IsLife (on operations) x
    → IsLife (on operations) y → enqueue_of x ≡ o
    → dequeue_of y ≡ Some o → ⊥
not_both_kinds operations x y o is_x is_y enqueues dequeues =
    let clash : Enqueue is_x.0 ≡ Dequeue is_y.0 = sym is_x.1.1 ∙ ap (λ o. o.kind) enqueues ∙ (did_dequeue operations y o is_y dequeues).1 in
    cc

-- lives that share an operation are equal
pub one_life_of_operation : (operations : List Operation) (x y : Life) (o : Operation) → IsClear (on operations)
    → IsLife (on operations) x
    → IsLife (on operations) y → IsOf x o → IsOf y o → x ≡ y
one_life_of_operation operations x y o clear is_x is_y (inl e) (inl f) = one_life_of_enqueue operations x y clear is_x is_y (e ∙ sym f)
one_life_of_operation operations x y o clear is_x is_y (inl e) (inr f) = absurd (not_both_kinds operations x y o is_x is_y e f)
one_life_of_operation operations x y o clear is_x is_y (inr e) (inl f) = absurd (not_both_kinds operations y x o is_y is_x f e)
one_life_of_operation operations x y o clear is_x is_y (inr e) (inr f) = one_life_of_dequeue operations x y o clear is_x is_y e f

-- lives with operations that return at one ticket are equal
one_life_of_return : (operations : List Operation) (x y : Life) (s t : ℕ) → IsClear (on operations)
    → IsLife (on operations) x → IsLife (on operations) y
    → HasTicket (λ o. o.ret) operations x s → HasTicket (λ o. o.ret) operations y t → s ≡ t → x ≡ y
one_life_of_return operations x y s t clear is_x is_y at_x at_y same =
    let one = same_return operations at_x.o at_y.o clear.complete at_x.among at_y.among (at_x.is ∙ same ∙ sym at_y.is) in
    one_life_of_operation operations x y at_y.o clear is_x is_y (subst (λ o. IsOf x o) one at_x.is_of) at_y.is_of

-- lives that enter at one time are equal
pub one_life_of_entering : (operations : List Operation) (x y : Life) → IsClear (on operations)
    → IsLife (on operations) x → IsLife (on operations) y
    → entered_by x ≡ entered_by y → x ≡ y
one_life_of_entering operations x y clear is_x is_y same =
    one_life_of_return operations x y (entered_by x) (entered_by y) clear is_x is_y (entered_at_return operations x clear is_x)
    (entered_at_return operations y clear is_y) same

-- lives whose dequeues return at one time are equal, unless the time is `NEVER`
pub one_life_of_dequeue_return : (operations : List Operation) (x y : Life) → IsClear (on operations)
    → IsLife (on operations) x → IsLife (on operations) y
    → dequeue_return x ≡ dequeue_return y → (x ≡ y) ⊎ (dequeue_return x ≡ NEVER)
one_life_of_dequeue_return operations x y clear is_x is_y same =
    elim (dequeue_returns operations x is_x) [
      | inr never ↦ inr never
      | inl at_x ↦ elim (dequeue_returns operations y is_y) [
        | inr never ↦ inr (same ∙ never)
        | inl at_y ↦ inl (one_life_of_return operations x y (dequeue_return x) (dequeue_return y) clear is_x is_y at_x at_y same)
      ]
    ]

-- no dequeue returns when another value can first leave, unless the time is `NEVER`
pub returns_at_no_leave : (operations : List Operation) (x y : Life) → IsClear (on operations)
    → IsLife (on operations) x → IsLife (on operations) y
    → dequeue_return x ≡ leaves_from y → leaves_from y ≡ NEVER
returns_at_no_leave operations x y clear is_x is_y same = elim (leaves_at_call operations y clear is_y) [
  | inr never ↦ never
  | inl at_y ↦ go at_y (dequeue_of x) refl
]
  where
    go : HasTicket (λ o. o.call) operations y (leaves_from y) → (dequeue : Option Operation) → dequeue_of x ≡ dequeue
        → leaves_from y ≡ NEVER
    go at_y None none = sym same ∙ ap return_or_never none
    go at_y (Some d) dequeues =
        let did = did_dequeue operations x d is_x dequeues in
        let returns : d.ret ≡ at_y.o.call = sym (ap return_or_never dequeues) ∙ same ∙ sym at_y.is in
        let one = returns_at_call operations d at_y.o clear.complete did.0 at_y.among returns in
        let less = call_before_return operations d clear.complete did.0 (no_enqueue d (Dequeue is_x.0) did.1 refl) in
        absurd (omega (arith, ap (λ (o : Operation). o.call) one, returns, less))

enqueues_itself : (operations : List Operation) (o : Operation) (k : OpKind) (life : Life)
    → life_from operations o k ≡ Some life → enqueue_call life ≡ o.call
enqueues_itself operations o (Enqueue v) life same = sym (ap (λ l. (enqueue_of l).call) (same_Some _ life same))
enqueues_itself operations o _ life same = cc

-- the lives are in the order of their enqueues' calls
pub lives_rise : (operations : List Operation) → AreComplete operations
    → AllPairs (λ x y. enqueue_call x < enqueue_call y) (lives_of operations)
lives_rise operations complete =
    let rise : AllPairs (λ x y. x.call < y.call) operations = λ i j d below within. (complete.apart i j d below within).called_first in
    kept_rises (λ o. life_from operations o o.kind) (λ o. o.call) enqueue_call operations (λ o life same. enqueues_itself operations o o.kind life same) rise

-- a life has one place in the order of values
pub one_place_of_life : (operations : List Operation) (lives : List Life) (i j : ℕ) (x y : Life)
    → IsClear (on operations) → IsValueOrder (on operations) lives
    → slice_get lives i ≡ Some x → slice_get lives j ≡ Some y → x ≡ y → i ≡ j
one_place_of_life operations lives i j x y clear order at_x at_y same =
    one_place enqueue_call (lives_of operations) lives i j x y (lives_rise operations clear.complete) order.holds_each_once at_x at_y (ap enqueue_call same)
