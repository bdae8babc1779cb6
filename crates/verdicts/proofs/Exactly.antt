-- A complete history has a linearization if and only if it has no violation: a violation rules out every order, and
-- without one a linearization is built.
use Rattle.verdicts.proofs.Common.{[], accept, accept_all, AllZip, ap, append-nil, AreComplete, AreLeastFreeGaps}
use Rattle.verdicts.proofs.Common.{arith, call_by_return, call_or_never, cases_order, chosen_cover}
use Rattle.verdicts.proofs.Common.{chosen_order_exists, Contains, Contains-permutation, contains_at, CoversFrom}
use Rattle.verdicts.proofs.Common.{Dequeue}
use Rattle.verdicts.proofs.Common.{dequeue_call, dequeue_of, dequeue_return, dequeued_if_called, Did, did_dequeue}
use Rattle.verdicts.proofs.Common.{DequeueEmpty, Enqueue, enqueue_of, eq-eqb, few_initial, filter, fresh}
use Rattle.verdicts.proofs.Common.{FullViolation, inl, inr}
use Rattle.verdicts.proofs.Common.{is_empty_answer, IsAccepted, IsClear, IsEnqueuedTooLate, IsLeastFreeGap}
use Rattle.verdicts.proofs.Common.{IsLegalOrder, IsLife, IsLinearizable, IsNeverEnqueued, IsOrderViolation}
use Rattle.verdicts.proofs.Common.{IsPermutation-sym, IsRepeatViolation, IsSome, IsViolationOf, Life}
use Rattle.verdicts.proofs.Common.{linearizable_from_exactly, List, map, mapped_option, MatchOption, no_enqueue, None}
use Rattle.verdicts.proofs.Common.{NoneDid, NoOrderViolation, EnqueueFailed, NoWitnessViolation, on, one_deeper}
use Rattle.verdicts.proofs.Common.{Operation}
use Rattle.verdicts.proofs.Common.{OpKind, Option, option_map, order, pairs_at, Precedes, refl, repeat}
use Rattle.verdicts.proofs.Common.{return_or_never, rules, slice_get, slice_get-map, Some, sym, take, timeline}
use Rattle.verdicts.proofs.Common.{witness, zero, ℕ, ◌++◌, ◌<◌, ◌∙◌, ◌∷◌, ◌≡◌, ◌≤◌, ◌⊎◌}
use Rattle.history_merge.proofs.Distinct.{calls-IsPermutation, calls_of_kind, count, count-append, count-le-calls}
use Rattle.history_merge.proofs.Distinct.{count_here, dequeue_of_member, dequeued, enqueue_of_member, enqueued}
use Rattle.history_merge.proofs.Distinct.{enqueued_is_dequeued, IsQueueBefore, Member, Member-right, one_calls}
use Rattle.history_merge.proofs.Distinct.{place_of as listed_place, queue_before, same_front, same_place}
use Rattle.history_merge.proofs.Distinct.{split_at_dequeue, split_at_enqueue, StandsBefore}
use Rattle.linearizer.proofs.Positions.{some_injective}
use Rattle.empty_witness.proofs.FreeGaps.{free_gap_or_covered}
use Rattle.empty_witness.proofs.Answers.{is_empty_did}
use Rattle.linearizer.proofs.OneOrder.{chosen_order_is_legal}

kind_at : (xs : List Operation) (i : ℕ) (o : Operation) (k : OpKind) → slice_get xs i ≡ Some o → o.kind ≡ k
    → slice_get (map (λ o. o.kind) xs) i ≡ Some k
kind_at xs i o k at is = slice_get-map (λ o. o.kind) xs i ∙ ap (option_map (λ o. o.kind)) at ∙ ap (λ k. Some k) is

operation_at : (xs : List Operation) (i : ℕ) (k : OpKind) → slice_get (map (λ o. o.kind) xs) i ≡ Some k
    → (o : Operation) × (slice_get xs i ≡ Some o) × (o.kind ≡ k)
operation_at xs i k at = mapped_option (λ o. o.kind) (slice_get xs i) k (sym (slice_get-map (λ o. o.kind) xs i) ∙ at)

left_queue : (start : List ℕ) (kinds : List OpKind) → IsAccepted start kinds
    → (left : List ℕ) × (accept_all start kinds ≡ Some left)
left_queue start kinds accepted = pick (accept_all start kinds) accepted
  where
    pick : (o : Option (List ℕ)) → IsSome o → (left : List ℕ) × (o ≡ Some left)
    pick None h = cc
    pick (Some left) h = (left, refl)

dequeued_front : (queue next : List ℕ) (v : ℕ) → accept queue (Dequeue v) ≡ Some next → queue ≡ v ∷ next
dequeued_front queue next v e = grind arith

empty_queue : (queue next : List ℕ) → accept queue DequeueEmpty ≡ Some next → queue ≡ []
empty_queue queue next e = grind arith

abbrev kinds_of : List Operation → List OpKind
kinds_of listed = map (λ o. o.kind) listed

module _ (operations listed : List Operation) (complete : AreComplete operations)
    (legal : IsLegalOrder [] operations listed) where
  -- each operation of the history has a place in the order, and the order has no other
  place_of : (o : Operation) → Contains operations o → (i : ℕ) × (slice_get listed i ≡ Some o)
  place_of o is = listed_place listed o (Contains-permutation operations listed o legal.holds_each_once is)

  is_operation : (i : ℕ) (o : Operation) → slice_get listed i ≡ Some o → Contains operations o
  is_operation i o at = Contains-permutation listed operations o (IsPermutation-sym operations listed legal.holds_each_once) (contains_at listed i o at)

  -- an operation does not come before one that precedes it
  not_later : (i j : ℕ) (x y : Operation) → slice_get listed i ≡ Some x → slice_get listed j ≡ Some y → i < j
      → ¬ (Precedes y x)
  not_later i j x y at_i at_j below before = pairs_at (λ earlier later. ¬ (Precedes later earlier)) listed i j x y legal.extends_precedence below at_i
      at_j before

  call_has_one_place : (i j v : ℕ) (x y : Operation) → slice_get listed i ≡ Some x → slice_get listed j ≡ Some y
      → calls_of_kind v x.kind ≡ 1 → calls_of_kind v y.kind ≡ 1 → i ≡ j
  call_has_one_place i j v x y at_i at_j is_x is_y =
      let once = one_calls v operations complete.apart in
      let moved = calls-IsPermutation v operations listed legal.holds_each_once in
      same_place (kinds_of listed) i j v x.kind y.kind (kind_at listed i x x.kind at_i refl) (kind_at listed j y y.kind at_j refl) is_x is_y (omega arith)

  -- the queue before the operation at a place, and the values that have gone through it
  before : (j : ℕ) (o : Operation) → slice_get listed j ≡ Some o → IsQueueBefore [] (kinds_of listed) j o.kind
  before j o at =
      let left = left_queue [] (kinds_of listed) legal.is_accepted in
      queue_before (kinds_of listed) [] left.0 j o.kind left.1 (kind_at listed j o o.kind at refl)

  gone_through : (j : ℕ) (o : Operation) (at : slice_get listed j ≡ Some o)
      → enqueued (take j (kinds_of listed)) ≡ dequeued (take j (kinds_of listed)) ++ (before j o at).queue
  gone_through j o at = enqueued_is_dequeued (take j (kinds_of listed)) [] (before j o at).queue (before j o at).reached

  -- at a dequeue, the values that were dequeued before it, and its own next
  gone_at_dequeue : (j v : ℕ) (o : Operation) → slice_get listed j ≡ Some o → o.kind ≡ Dequeue v
      → (rest : List ℕ) × (enqueued (take j (kinds_of listed)) ≡ dequeued (take j (kinds_of listed)) ++ v ∷ rest)
  gone_at_dequeue j v o at is =
      let accepted : accept (before j o at).queue (Dequeue v) ≡ Some (before j o at).next = rw (← is) (before j o at).accepted in
      let front = dequeued_front (before j o at).queue (before j o at).next v accepted in
      ((before j o at).next, gone_through j o at ∙ ap (λ q. dequeued (take j (kinds_of listed)) ++ q) front)

  -- an enqueue of the value comes before its dequeue
  enqueue_before : (j v : ℕ) (o : Operation) → slice_get listed j ≡ Some o → o.kind ≡ Dequeue v
      → (i : ℕ) × (x : Operation) × (i < j) × (slice_get listed i ≡ Some x) × (x.kind ≡ Enqueue v)
  enqueue_before j v o at is =
      let gone = gone_at_dequeue j v o at is in
      let member : Member v (enqueued (take j (kinds_of listed))) = rw gone.1 (Member-right v (dequeued (take j (kinds_of listed))) (v ∷ gone.0) (inl refl)) in
      let stands = enqueue_of_member (kinds_of listed) j v member in
      let found = operation_at listed stands.0 (Enqueue v) stands.2 in
      (stands.0, found.0, stands.1, found.1, found.2)

  calls_it : (v : ℕ) (k : OpKind) → (k ≡ Enqueue v) ⊎ (k ≡ EnqueueFailed v) → calls_of_kind v k ≡ 1
  calls_it v k is = grind (arith, eq-eqb v v refl)

  no_repeat : (i j v : ℕ) (x y : Operation) → slice_get listed i ≡ Some x → slice_get listed j ≡ Some y
      → x.kind ≡ Dequeue v → y.kind ≡ Dequeue v → i < j → ⊥
  no_repeat i j v x y at_i at_j is_x is_y below =
      let gone = gone_at_dequeue j v y at_j is_y in
      let taken = split_at_dequeue (kinds_of listed) i j v below (kind_at listed i x (Dequeue v) at_i is_x) in
      let once = one_calls v operations complete.apart in
      let moved = calls-IsPermutation v operations listed legal.holds_each_once in
      let few = count-le-calls (kinds_of listed) j v in
      let all = ap (count v) gone.1 in
      let parts = count-append v (dequeued (take j (kinds_of listed))) (v ∷ gone.0) in
      let here = count_here v gone.0 in
      let out = ap (count v) taken.1 in
      let out_parts = count-append v (dequeued (take i (kinds_of listed))) (v ∷ taken.0) in
      let out_here = count_here v taken.0 in
      omega arith

  dequeue_has_one_place : (i j v : ℕ) (x y : Operation) → slice_get listed i ≡ Some x → slice_get listed j ≡ Some y
      → x.kind ≡ Dequeue v → y.kind ≡ Dequeue v → i ≡ j
  dequeue_has_one_place i j v x y at_i at_j is_x is_y = elim (cases_order i j) [
    | inl same ↦ same
    | inr (inl below) ↦ absurd (no_repeat i j v x y at_i at_j is_x is_y below)
    | inr (inr above) ↦ absurd (no_repeat j i v y x at_j at_i is_y is_x above)
  ]

  -- any dequeue of a value is the one at the place of a dequeue of it
  stands_there : (i v : ℕ) (o d : Operation) → slice_get listed i ≡ Some o → o.kind ≡ Dequeue v
      → Did operations d (Dequeue v) → slice_get listed i ≡ Some d
  stands_there i v o d at is did =
      let there = place_of d did.0 in ap (slice_get listed) (dequeue_has_one_place i there.0 v o d at there.1 is did.1) ∙ there.1

  excludes_never : (deq : Operation) → IsNeverEnqueued (on operations) deq → ⊥
  excludes_never deq violation =
      let place = place_of deq violation.dequeues.0 in
      let enq = enqueue_before place.0 violation.value deq place.1 violation.dequeues.1 in
      violation.not_accepted enq.1 (is_operation enq.0 enq.1 enq.3, enq.4)

  excludes_late : (deq enq : Operation) → IsEnqueuedTooLate (on operations) deq enq → ⊥
  excludes_late deq enq violation =
      let v = violation.value in
      let place = place_of deq violation.dequeues.0 in
      let first = enqueue_before place.0 v deq place.1 violation.dequeues.1 in
      elim violation.enqueues [
        | inl failed ↦
            let there = place_of enq failed.0 in
            let same = call_has_one_place first.0 there.0 v first.1 enq first.3 there.1 (calls_it v first.1.kind (inl first.4))
            (calls_it v enq.kind (inr failed.1)) in
            let kinds_differ : first.1 ≡ enq = some_injective (sym first.3 ∙ ap (slice_get listed) same ∙ there.1) in
            let clash : Enqueue v ≡ EnqueueFailed v = sym first.4 ∙ ap (λ o. o.kind) kinds_differ ∙ failed.1 in
            cc
        | inr late ↦
            let there = place_of enq late.0.0 in
            let same = call_has_one_place first.0 there.0 v first.1 enq first.3 there.1 (calls_it v first.1.kind (inl first.4))
            (calls_it v enq.kind (inl late.0.1)) in
            not_later there.0 place.0 enq deq there.1 place.1 (omega (arith, first.2)) late.1
      ]

  excludes_repeat : (enq first second : Operation) → IsRepeatViolation (on operations) enq first second → ⊥
  excludes_repeat enq first second violation =
      let v = violation.value in
      let x = place_of first violation.dequeues.0 in
      let y = place_of second violation.dequeues_again.0 in
      let same = dequeue_has_one_place x.0 y.0 v first second x.1 y.1 violation.dequeues.1 violation.dequeues_again.1 in
      let one : first ≡ second = some_injective (sym x.1 ∙ ap (slice_get listed) same ∙ y.1) in
      let rets = ap (λ o. o.ret) one in
      let later = violation.in_order in
      omega arith

  -- if a is enqueued before b, the dequeue of a comes before that of b
  dequeued_before : (i j k a b : ℕ) (x y z : Operation) → slice_get listed i ≡ Some x → x.kind ≡ Enqueue a
      → slice_get listed j ≡ Some y → y.kind ≡ Enqueue b
      → slice_get listed k ≡ Some z → z.kind ≡ Dequeue b → i < j → j < k → StandsBefore (kinds_of listed) k (Dequeue a)
  dequeued_before i j k a b x y z at_x is_x at_y is_y at_z is_z first below =
      let gone = gone_at_dequeue k b z at_z is_z in
      let put_b = split_at_enqueue (kinds_of listed) j k b below (kind_at listed j y (Enqueue b) at_y is_y) in
      let put_a = split_at_enqueue (kinds_of listed) i j a first (kind_at listed i x (Enqueue a) at_x is_x) in
      let once = one_calls b operations complete.apart in
      let moved = calls-IsPermutation b operations listed legal.holds_each_once in
      let few = count-le-calls (kinds_of listed) k b in
      let all = ap (count b) put_b.1 in
      let fronts = same_front (enqueued (take j (kinds_of listed))) put_b.0 (dequeued (take k (kinds_of listed))) gone.0 b (sym put_b.1 ∙ gone.1)
      (omega arith) in
      let member : Member a (dequeued (take k (kinds_of listed))) =
      rw (← fronts, put_a.1) (Member-right a (enqueued (take i (kinds_of listed))) (a ∷ put_a.0) (inl refl)) in
      dequeue_of_member (kinds_of listed) k a member

  enqueues_differ : (i j : ℕ) (x y : Operation) → slice_get listed i ≡ Some x → slice_get listed j ≡ Some y
      → Precedes x y → i < j
  enqueues_differ i j x y at_x at_y precedes = elim (cases_order i j) [
    | inl same ↦
        let one : x ≡ y = some_injective (sym at_x ∙ ap (slice_get listed) same ∙ at_y) in
        let ordered = call_by_return operations x complete (is_operation i x at_x) in
        let calls_same = ap (λ o. o.call) one in
        absurd (omega arith)
    | inr (inl below) ↦ below
    | inr (inr above) ↦ absurd (not_later j i y x at_y at_x above precedes)
  ]

  -- a dequeue of a value that comes before an operation wasn't called after it; each dequeued value has one dequeue
  not_left_later : (v time : ℕ) (prior : Operation) (named : Option Operation)
      → MatchOption named (NoneDid operations (Dequeue v)) (λ d. Did operations d (Dequeue v))
      → prior.ret ≡ time → time < call_or_never named → (i k : ℕ) (o : Operation) → i < k → slice_get listed i ≡ Some o
      → o.kind ≡ Dequeue v
      → slice_get listed k ≡ Some prior → ⊥
  not_left_later v time prior None none same later i k o below at is at_k = none o (is_operation i o at) is
  not_left_later v time prior (Some d) did same later i k o below at is at_k =
      not_later i k d prior (stands_there i v o d at is did) at_k below (omega arith)

  excludes_order : (a b : Life) → IsOrderViolation (on operations) a b → ⊥
  excludes_order a b violation =
      let v = violation.is_a.0 in
      let w = violation.is_b.0 in
      let dequeue = dequeued_if_called b violation.is_dequeued in
      let did = did_dequeue operations b dequeue.0 violation.is_b dequeue.1 in
      let x = place_of (enqueue_of a) violation.is_a.1.0 in
      let y = place_of (enqueue_of b) violation.is_b.1.0 in
      let z = place_of dequeue.0 did.0 in
      let first = enqueues_differ x.0 y.0 (enqueue_of a) (enqueue_of b) x.1 y.1 violation.overtakes.0 in
      let put = enqueue_before z.0 w dequeue.0 z.1 did.1 in
      let same = call_has_one_place put.0 y.0 w put.1 (enqueue_of b) put.3 y.1 (calls_it w put.1.kind (inl put.4))
      (calls_it w (enqueue_of b).kind (inl violation.is_b.1.1)) in
      let stands = dequeued_before x.0 y.0 z.0 v w (enqueue_of a) (enqueue_of b) dequeue.0 x.1 violation.is_a.1.1 y.1 violation.is_b.1.1 z.1
      did.1 first (omega (arith, put.2)) in
      let found = operation_at listed stands.0 (Dequeue v) stands.2 in
      not_left_later v (dequeue_return b) dequeue.0 (dequeue_of a) violation.is_a.2 (sym (ap return_or_never dequeue.1)) violation.overtakes.1
      stands.0 z.0 found.0 stands.1 found.1 found.2 z.1

  -- no value enqueued before an empty dequeue is still in the queue, so its dequeue comes before the empty dequeue
  gone_at_empty : (j v : ℕ) (o : Operation) → slice_get listed j ≡ Some o → o.kind ≡ DequeueEmpty
      → (i : ℕ) (x : Operation) → slice_get listed i ≡ Some x
      → x.kind ≡ Enqueue v → i < j
      → StandsBefore (kinds_of listed) j (Dequeue v)
  gone_at_empty j v o at is i x at_x is_x below =
      let accepted : accept (before j o at).queue DequeueEmpty ≡ Some (before j o at).next = rw (← is) (before j o at).accepted in
      let none = empty_queue (before j o at).queue (before j o at).next accepted in
      let put = split_at_enqueue (kinds_of listed) i j v below (kind_at listed i x (Enqueue v) at_x is_x) in
      let gone = gone_through j o at ∙ ap (λ q. dequeued (take j (kinds_of listed)) ++ q) none ∙ append-nil (dequeued (take j (kinds_of listed))) in
      let member : Member v (dequeued (take j (kinds_of listed))) =
      rw (← gone, put.1) (Member-right v (enqueued (take i (kinds_of listed))) (v ∷ put.0) (inl refl)) in
      dequeue_of_member (kinds_of listed) j v member

  -- a value of a cover that is enqueued before an operation which doesn't come after the empty dequeue is dequeued
  -- before the empty dequeue
  dequeued_first : (j : ℕ) (empty : Operation) → slice_get listed j ≡ Some empty → empty.kind ≡ DequeueEmpty
      → (life : Life) (is : IsLife (on operations) life)
      (p : ℕ) (prior : Operation) → slice_get listed p ≡ Some prior → p ≤ j → Precedes (enqueue_of life) prior
      → (i : ℕ) × (x : Operation) × (i < j) × (slice_get listed i ≡ Some x) × (x.kind ≡ Dequeue is.0)
  dequeued_first j empty at answers life is p prior at_p near before =
      let enq = place_of (enqueue_of life) is.1.0 in
      let below = enqueues_differ enq.0 p (enqueue_of life) prior enq.1 at_p before in
      let stands = gone_at_empty j is.0 empty at answers enq.0 (enqueue_of life) enq.1 is.1.1 (omega arith) in
      let found = operation_at listed stands.0 (Dequeue is.0) stands.2 in
      (stands.0, found.0, stands.1, found.1, found.2)

  excludes_cover : (j : ℕ) (empty : Operation) → slice_get listed j ≡ Some empty → empty.kind ≡ DequeueEmpty
      → (cover : List Life) (p : ℕ) (prior : Operation)
      → slice_get listed p ≡ Some prior → p ≤ j → (frontier : ℕ) → prior.call ≡ frontier
      → CoversFrom (on operations) empty frontier cover → ⊥
  excludes_cover j empty at is [] p prior at_p near frontier same covers = covers
  excludes_cover j empty at is (life ∷ []) p prior at_p near frontier same covers =
      let gone = dequeued_first j empty at is life covers.0 p prior at_p near (omega (arith, covers.1)) in
      not_left_later covers.0.0 empty.ret empty (dequeue_of life) covers.0.2 refl covers.2 gone.0 j gone.1 gone.2 gone.3 gone.4 at
  excludes_cover j empty at is (life ∷ next ∷ rest) p prior at_p near frontier same covers =
      let gone = dequeued_first j empty at is life covers.0 p prior at_p near (omega (arith, covers.1)) in
      let dequeue = dequeued_if_called life covers.2 in
      let did = did_dequeue operations life dequeue.0 covers.0 dequeue.1 in
      excludes_cover j empty at is (next ∷ rest) gone.0 dequeue.0 (stands_there gone.0 covers.0.0 gone.1 dequeue.0 gone.3 gone.4 did) (omega (arith, gone.2))
      (dequeue_call life) (sym (ap call_or_never dequeue.1)) covers.3

  excludes_violation : (full : FullViolation) → IsViolationOf (on operations) full → ⊥
  excludes_violation (fresh deq None) violation = excludes_never deq violation
  excludes_violation (fresh deq (Some enq)) violation = excludes_late deq enq violation
  excludes_violation (repeat enq first second) violation = excludes_repeat enq first second violation
  excludes_violation (order a b) violation = excludes_order a b violation
  excludes_violation (witness empty cover) violation =
      let place = place_of empty violation.answers_empty.0 in
      excludes_cover place.0 empty place.1 violation.answers_empty.1 cover place.0 empty place.1 (omega arith) empty.call refl violation.covers

-- a violation rules out each linearization
pub violation_excludes_order : (initial : List ℕ) (operations : List Operation) (full : FullViolation)
    → AreComplete (timeline initial operations)
    → IsViolationOf (on (timeline initial operations)) full → ¬ (IsLinearizable initial operations)
violation_excludes_order initial operations full complete violation exists =
    let linear = (linearizable_from_exactly initial operations (few_initial initial operations complete)).0 exists in
    excludes_violation (timeline initial operations) linear.0 complete linear.1 full violation

gaps_of : (operations answers : List Operation) → IsClear (on operations) → NoWitnessViolation (on operations)
    → ((o : Operation) → Contains answers o → Did operations o DequeueEmpty)
    → (gaps : List ℕ) × AllZip (λ o c. IsLeastFreeGap (on operations) o c) answers gaps
gaps_of operations [] clear none each = ([], search rules)
gaps_of operations (o ∷ answers) clear none each =
    let did = each o (zero, omega arith, refl) in
    let rest = gaps_of operations answers clear none (λ x among. each x (one_deeper o answers x among)) in
    elim (free_gap_or_covered operations o clear did.0 (no_enqueue o DequeueEmpty did.1 refl)) [
      | inl free ↦ (free.0 ∷ rest.0, (free.1, rest.1))
      | inr covered ↦ let cover = chosen_cover operations o clear did covered in absurd (none o cover.0 cover.2)
    ]

-- without a witness violation each empty dequeue has a free gap
pub free_gaps_exist : (operations : List Operation) → IsClear (on operations) → NoWitnessViolation (on operations)
    → (gaps : List ℕ) × AreLeastFreeGaps (on operations) gaps
free_gaps_exist operations clear none =
    gaps_of operations (filter is_empty_answer operations) clear none
    (λ o among. is_empty_did operations o among)

-- without a violation there is a linearization
pub linearizable_without_violations : (operations : List Operation) → IsClear (on operations)
    → NoOrderViolation (on operations) → NoWitnessViolation (on operations)
    → IsLinearizable [] operations
linearizable_without_violations operations clear no_order no_witness =
    let gaps = free_gaps_exist operations clear no_witness in
    let chosen = chosen_order_exists operations gaps.0 clear no_order gaps.1 in
    (chosen.0, chosen_order_is_legal operations chosen.0 clear no_order chosen.1)

-- a history without violations is linearizable from its initial values
pub linearizable_without : (initial : List ℕ) (operations : List Operation) → AreComplete (timeline initial operations)
    → ((full : FullViolation) → ¬ (IsViolationOf (on (timeline initial operations)) full))
    → IsLinearizable initial operations
linearizable_without initial operations complete none =
    (linearizable_from_exactly initial operations (few_initial initial operations complete)).1
    (linearizable_without_violations (timeline initial operations)
    (record {
      complete = complete;
      no_fresh = λ deq enq. none (fresh deq enq);
      no_repeat = λ enq first second. none (repeat enq first second);
    })
    (λ a b. none (order a b))
    (λ empty cover. none (witness empty cover)))
