-- The chosen violation is a violation, and only one is chosen.
use Rattle.verdicts.proofs.Common.{[], ap, AreComplete, arith, Bool, call_or_never, CallsFor, cases_lt}
use Rattle.verdicts.proofs.Common.{chosen_cover_violates, Contains, Dequeue, dequeue_call, dequeue_of, dequeue_return}
use Rattle.verdicts.proofs.Common.{dequeued_if_called, Did, did_dequeue, Enqueue, enqueue_of, enqueue_return, false}
use Rattle.verdicts.proofs.Common.{fresh}
use Rattle.verdicts.proofs.Common.{FullViolation, inl, inr, IsChosenCoverFrom, IsChosenFresh, IsChosenFullViolation}
use Rattle.verdicts.proofs.Common.{IsChosenOrderViolation, IsChosenRepeat, IsChosenWitness, IsClear, IsEnqueuedTooLate}
use Rattle.verdicts.proofs.Common.{IsFreshViolation, IsLife, IsNeverEnqueued, IsNextOfCover, IsOrderViolation}
use Rattle.verdicts.proofs.Common.{IsRepeatViolation, IsViolationOf, Life, List, MatchBool, MatchOption, nat_lt, NEVER}
use Rattle.verdicts.proofs.Common.{NoFreshViolation, None, NoneDid, NoRepeatViolation, EnqueueFailed, on, Operation}
use Rattle.verdicts.proofs.Common.{Option}
use Rattle.verdicts.proofs.Common.{order, refl, repeat, return_or_never, same_call, same_enqueue, same_return}
use Rattle.verdicts.proofs.Common.{same_value_call, Some, StaysAtLeast, subst, sym, true, witness, ℕ, ◌<◌, ◌∙◌, ◌∷◌}
use Rattle.verdicts.proofs.Common.{◌≡◌, ◌≤◌}

are_clear : (operations : List Operation) → AreComplete operations → NoFreshViolation (on operations)
    → NoRepeatViolation (on operations) → IsClear (on operations)
are_clear operations complete no_fresh no_repeat = record { complete = complete; no_fresh = no_fresh; no_repeat = no_repeat }

-- the chosen violation is a violation
pub chosen_is_violation : (operations : List Operation) (full : FullViolation) → AreComplete operations
    → IsChosenFullViolation (on operations) full
    → IsViolationOf (on operations) full
chosen_is_violation operations (fresh deq enq) complete chosen = chosen.violates
chosen_is_violation operations (repeat enq first second) complete chosen = chosen.1.violates
chosen_is_violation operations (order a b) complete chosen = chosen.2.violates
chosen_is_violation operations (witness empty cover) complete chosen =
    chosen_cover_violates operations empty cover (are_clear operations complete chosen.0 chosen.1) chosen.3.answers_empty chosen.3.cover_is_chosen

dequeued_value : (operations : List Operation) (deq : Operation) (enq : Option Operation)
    → IsFreshViolation (on operations) deq enq
    → (v : ℕ) × Did operations deq (Dequeue v)
dequeued_value operations deq None violation = (violation.value, violation.dequeues)
dequeued_value operations deq (Some e) violation = (violation.value, violation.dequeues)

one_kind : (o : Operation) (v w : ℕ) → o.kind ≡ Dequeue v → o.kind ≡ Dequeue w → v ≡ w
one_kind o v w is_v is_w = let kinds : Dequeue v ≡ Dequeue w = sym is_v ∙ is_w in cc

late_call : (operations : List Operation) (deq enq : Operation) (late : IsEnqueuedTooLate (on operations) deq enq)
    → Contains operations enq × CallsFor enq late.value
late_call operations deq enq late = elim late.enqueues [ inl failed ↦ (failed.0, inr failed.1) | inr accepted ↦ (accepted.0.0, inl accepted.0.1) ]

not_never : (operations : List Operation) (deq enq : Operation) → IsNeverEnqueued (on operations) deq
    → IsEnqueuedTooLate (on operations) deq enq → ⊥
not_never operations deq enq never late =
    let values : late.value ≡ never.value = one_kind deq late.value never.value late.dequeues.1 never.dequeues.1 in
    elim late.enqueues [
      | inl failed ↦ never.not_failed enq failed.0 (failed.1 ∙ ap (λ v. EnqueueFailed v) values)
      | inr accepted ↦ never.not_accepted enq (accepted.0.0, accepted.0.1 ∙ ap (λ v. Enqueue v) values)
    ]

one_enqueue : (operations : List Operation) (deq : Operation) (enq enq' : Option Operation) → AreComplete operations
    → IsFreshViolation (on operations) deq enq → IsFreshViolation (on operations) deq enq' → enq ≡ enq'
one_enqueue operations deq None None complete x y = refl
one_enqueue operations deq None (Some e) complete x y = absurd (not_never operations deq e x y)
one_enqueue operations deq (Some e) None complete x y = absurd (not_never operations deq e y x)
one_enqueue operations deq (Some e) (Some e') complete x y =
    let values : y.value ≡ x.value = one_kind deq y.value x.value y.dequeues.1 x.dequeues.1 in
    let call = late_call operations deq e x in
    let call' = late_call operations deq e' y in
    ap (λ o. Some o) (same_value_call operations e e' x.value complete call.0 call'.0 call.1 (subst (CallsFor e') values call'.1))

one_fresh : (operations : List Operation) (deq deq' : Operation) (enq enq' : Option Operation) → AreComplete operations
    → IsChosenFresh (on operations) deq enq → IsChosenFresh (on operations) deq' enq' → fresh deq enq ≡ fresh deq' enq'
one_fresh operations deq deq' enq enq' complete x y =
    let le = x.first deq' enq' y.violates in
    let ge = y.first deq enq x.violates in
    let one = same_return operations deq deq' complete (dequeued_value operations deq enq x.violates).1.0
    (dequeued_value operations deq' enq' y.violates).1.0 (omega arith) in
    let enqs = one_enqueue operations deq enq enq' complete x.violates (subst (λ d. IsFreshViolation (on operations) d enq') (sym one) y.violates) in
    cc

-- no other dequeue of the value returned before the first of the chosen two
no_sooner : (operations : List Operation) (enq first second other : Operation) (v : ℕ)
    → IsChosenRepeat (on operations) enq first second
    → Did operations enq (Enqueue v) → Did operations first (Dequeue v) → Did operations other (Dequeue v)
    → first.ret ≤ other.ret
no_sooner operations enq first second other v chosen enqueues dequeues dequeues' = elim (cases_lt other.ret first.ret) [
  | inl less ↦
      let repeats : IsRepeatViolation (on operations) enq other first =
      record { value = v; enqueues = enqueues; dequeues = dequeues'; dequeues_again = dequeues; in_order = less } in
      let soonest = chosen.soonest enq other first repeats in
      let in_order = chosen.violates.in_order in
      absurd (omega arith)
  | inr more ↦ more
]

one_repeat : (operations : List Operation) (enq enq' first first' second second' : Operation) → AreComplete operations
    → IsChosenRepeat (on operations) enq first second → IsChosenRepeat (on operations) enq' first' second'
    → repeat enq first second ≡ repeat enq' first' second'
one_repeat operations enq enq' first first' second second' complete x y =
    let le = x.soonest enq' first' second' y.violates in
    let ge = y.soonest enq first second x.violates in
    let seconds = same_return operations second second' complete x.violates.dequeues_again.0 y.violates.dequeues_again.0 (omega arith) in
    let v = x.violates.value in
    let values : y.violates.value ≡ v = one_kind second' y.violates.value v y.violates.dequeues_again.1
    (subst (λ o. o.kind ≡ Dequeue v) seconds x.violates.dequeues_again.1) in
    let enqueues' : Did operations enq' (Enqueue v) = subst (λ w. Did operations enq' (Enqueue w)) values y.violates.enqueues in
    let dequeues' : Did operations first' (Dequeue v) = subst (λ w. Did operations first' (Dequeue w)) values y.violates.dequeues in
    let enqs = same_enqueue operations enq enq' v complete x.violates.enqueues enqueues' in
    let sooner = no_sooner operations enq' first' second' first v y (subst (λ e. Did operations e (Enqueue v)) enqs x.violates.enqueues)
    dequeues' x.violates.dequeues in
    let sooner' = no_sooner operations enq first second first' v x x.violates.enqueues x.violates.dequeues dequeues' in
    let firsts = same_return operations first first' complete x.violates.dequeues.0 dequeues'.0 (omega arith) in
    cc

-- values that stay at least as long as each other leave and enter at the same tickets
both_stay : (x y : Life) → StaysAtLeast x y → StaysAtLeast y x
    → (dequeue_call x ≡ dequeue_call y) × (enqueue_return x ≡ enqueue_return y)
both_stay x y first second = (omega arith, omega arith)

one_dequeue : (operations : List Operation) (v w : ℕ) (d d' : Option Operation) → AreComplete operations → v ≡ w
    → MatchOption d (NoneDid operations (Dequeue v)) (λ d. Did operations d (Dequeue v))
    → MatchOption d' (NoneDid operations (Dequeue w)) (λ d. Did operations d (Dequeue w))
    → call_or_never d ≡ call_or_never d' → d ≡ d'
one_dequeue operations v w None None complete values x y calls = refl
one_dequeue operations v w None (Some d) complete values x y calls = absurd (x d y.0 (y.1 ∙ ap (λ v. Dequeue v) (sym values)))
one_dequeue operations v w (Some d) None complete values x y calls = absurd (y d x.0 (x.1 ∙ ap (λ v. Dequeue v) values))
one_dequeue operations v w (Some d) (Some d') complete values x y calls = ap (λ o. Some o) (same_call operations d d' complete x.0 y.0 calls)

-- lives that begin and end at the same times are equal
one_life : (operations : List Operation) (x y : Life) → AreComplete operations → IsLife (on operations) x
    → IsLife (on operations) y
    → enqueue_return x ≡ enqueue_return y → dequeue_call x ≡ dequeue_call y → x ≡ y
one_life operations x y complete is_x is_y returns calls =
    let enqueues = same_return operations (enqueue_of x) (enqueue_of y) complete is_x.1.0 is_y.1.0 returns in
    let kinds : Enqueue is_x.0 ≡ Enqueue is_y.0 = sym is_x.1.1 ∙ ap (λ o. o.kind) enqueues ∙ is_y.1.1 in
    let dequeues = one_dequeue operations is_x.0 is_y.0 (dequeue_of x) (dequeue_of y) complete (cc) is_x.2 is_y.2 calls in
    λ i. record { enqueue = enqueues i; dequeue = dequeues i }

-- lives with the same dequeue return are equal
one_left : (operations : List Operation) (x y : Life) → AreComplete operations → IsLife (on operations) x
    → IsLife (on operations) y
    → dequeue_call x < NEVER → dequeue_call y < NEVER → dequeue_return x ≡ dequeue_return y → x ≡ y
one_left operations x y complete is_x is_y called_x called_y returns =
    let (d, at_x) = dequeued_if_called x called_x in
    let (e, at_y) = dequeued_if_called y called_y in
    let did_x = did_dequeue operations x d is_x at_x in
    let did_y = did_dequeue operations y e is_y at_y in
    let one = same_return operations d e complete did_x.0 did_y.0 (sym (ap return_or_never at_x) ∙ returns ∙ ap return_or_never at_y) in
    let values : is_y.0 ≡ is_x.0 = one_kind e is_y.0 is_x.0 did_y.1 (subst (λ o. o.kind ≡ Dequeue is_x.0) one did_x.1) in
    let enqueues = same_enqueue operations (enqueue_of x) (enqueue_of y) is_x.0 complete is_x.1 (subst (λ v. Did operations (enqueue_of y) (Enqueue v)) values is_y.1) in
    one_life operations x y complete is_x is_y (ap (λ (o : Operation). o.ret) enqueues)
    (ap call_or_never at_x ∙ ap (λ (o : Operation). o.call) one ∙ sym (ap call_or_never at_y))

-- only one order violation is chosen
pub one_order : (operations : List Operation) (a b a' b' : Life) → AreComplete operations
    → IsChosenOrderViolation (on operations) a b → IsChosenOrderViolation (on operations) a' b'
    → order a b ≡ order a' b'
one_order operations a b a' b' complete x y =
    let le = x.first a' b' y.violates in
    let ge = y.first a b x.violates in
    let bs = one_left operations b b' complete x.violates.is_b y.violates.is_b x.violates.is_dequeued y.violates.is_dequeued (omega arith) in
    let both = both_stay a a' (x.longest a' (subst (IsOrderViolation (on operations) a') (sym bs) y.violates))
    (y.longest a (subst (IsOrderViolation (on operations) a) bs x.violates)) in
    let firsts = one_life operations a a' complete x.violates.is_a y.violates.is_a both.1 both.0 in
    cc

one_next : (operations : List Operation) (frontier : ℕ) (x y : Life) → IsClear (on operations)
    → IsNextOfCover (on operations) frontier x
    → IsNextOfCover (on operations) frontier y → x ≡ y
one_next operations frontier x y clear next_x next_y =
    let both = both_stay x y (next_x.longest y next_y.is_life next_y.before_frontier) (next_y.longest x next_x.is_life next_x.before_frontier) in
    one_life operations x y clear.complete next_x.is_life next_y.is_life both.1 both.0

-- only one cover is chosen
pub one_cover : (operations : List Operation) (empty : Operation) (frontier : ℕ) (xs ys : List Life)
    → IsClear (on operations)
    → IsChosenCoverFrom (on operations) empty frontier xs → IsChosenCoverFrom (on operations) empty frontier ys
    → xs ≡ ys
one_cover operations empty frontier [] ys clear chosen chosen' = absurd chosen
one_cover operations empty frontier (x ∷ xs) [] clear chosen chosen' = absurd chosen'
one_cover operations empty frontier (x ∷ xs) (y ∷ ys) clear chosen chosen' =
    let heads = one_next operations frontier x y clear chosen.0 chosen'.0 in
    let tail' = subst (λ l. MatchBool (nat_lt empty.ret (dequeue_call l)) (ys ≡ []) (IsChosenCoverFrom (on operations) empty (dequeue_call l) ys))
    (sym heads) chosen'.1 in
    let tails = go (nat_lt empty.ret (dequeue_call x)) chosen.1 tail' (λ more more'. one_cover operations empty (dequeue_call x) xs ys clear more more') in
    cc
  where
    go : (b : Bool) → MatchBool b (xs ≡ []) (IsChosenCoverFrom (on operations) empty (dequeue_call x) xs)
        → MatchBool b (ys ≡ []) (IsChosenCoverFrom (on operations) empty (dequeue_call x) ys)
        → (IsChosenCoverFrom (on operations) empty (dequeue_call x) xs
        → IsChosenCoverFrom (on operations) empty (dequeue_call x) ys → xs ≡ ys) → xs ≡ ys
    go true ends ends' more = ends ∙ sym ends'
    go false further further' more = more further further'

-- only one witness violation is chosen
pub one_witness : (operations : List Operation) (empty empty' : Operation) (cover cover' : List Life)
    → IsClear (on operations)
    → IsChosenWitness (on operations) empty cover → IsChosenWitness (on operations) empty' cover'
    → witness empty cover ≡ witness empty' cover'
one_witness operations empty empty' cover cover' clear x y =
    let le = x.first empty' y.answers_empty y.is_covered in
    let ge = y.first empty x.answers_empty x.is_covered in
    let one = same_return operations empty empty' clear.complete x.answers_empty.0 y.answers_empty.0 (omega arith) in
    let covers = one_cover operations empty empty.call cover cover' clear x.cover_is_chosen
    (subst (λ o. IsChosenCoverFrom (on operations) o o.call cover') (sym one) y.cover_is_chosen) in
    cc

-- a history has one chosen violation
pub one_chosen_violation : (operations : List Operation) (x y : FullViolation) → AreComplete operations
    → IsChosenFullViolation (on operations) x
    → IsChosenFullViolation (on operations) y → x ≡ y
one_chosen_violation operations (fresh deq enq) (fresh deq' enq') complete x y = one_fresh operations deq deq' enq enq' complete x y
one_chosen_violation operations (fresh deq enq) _ complete x y = absurd (y.0 deq enq x.violates)
one_chosen_violation operations _ (fresh deq enq) complete x y = absurd (x.0 deq enq y.violates)
one_chosen_violation operations (repeat e f s) (repeat e' f' s') complete x y = one_repeat operations e e' f f' s s' complete x.1 y.1
one_chosen_violation operations (repeat e f s) _ complete x y = absurd (y.1 e f s x.1.violates)
one_chosen_violation operations _ (repeat e f s) complete x y = absurd (x.1 e f s y.1.violates)
one_chosen_violation operations (order a b) (order a' b') complete x y = one_order operations a b a' b' complete x.2 y.2
one_chosen_violation operations (order a b) (witness o lives) complete x y = absurd (y.2 a b x.2.violates)
one_chosen_violation operations (witness o lives) (order a b) complete x y = absurd (x.2 a b y.2.violates)
one_chosen_violation operations (witness o lives) (witness o' lives') complete x y =
    one_witness operations o o' lives lives' (are_clear operations complete x.0 x.1) x.3 y.3
