-- A value that overtakes another is an order violation, and each order violation is such a value.
use Rattle.order_violation.proofs.Common.{[], All, All-append, All-contains, All-nil, All-push, arith, call_or_never}
use Rattle.order_violation.proofs.Common.{Contains, Contains-append_left, Contains-append_right, Contains-push}
use Rattle.order_violation.proofs.Common.{dequeue_call, dequeue_of, dequeue_return, enqueue_call, EntersBefore, false}
use Rattle.order_violation.proofs.Common.{FindsFirst, FindsLongest, get_or, is_some, IsFirstFound}
use Rattle.order_violation.proofs.Common.{IsFirstOvertaking, IsLife, IsLongestOf, IsMaybeAt, IsMaybeOperation, IsNamed}
use Rattle.order_violation.proofs.Common.{IsOrderAnswer, length, Life, List, MatchedValue, MatchOption}
use Rattle.order_violation.proofs.Common.{None, NonePasses, Option, Overtakes, refl, return_or_never, Some}
use Rattle.order_violation.proofs.Common.{StaysAtLeast, subst, sym, take, true, ℕ, ◌++◌, ◌+◌, ◌<◌, ◌∷◌, ◌≡◌, ◌≤◌}
use Rattle.order_violation.specs.Pairs.{IsChosenPair, IsFirstOvertaker, pair_of}
use Rattle.history_merge.specs.declared.operation.Operation.{Operation}
use Rattle.history_merge.specs.declared.operation.OpKind.TheVariants.{Dequeue}
use Rattle.history_merge.specs.Operations.{Did, NoneDid}
use Rattle.history_merge.specs.Complete.{AreApart, AreComplete}
use Rattle.history_merge.specs.Initial.{Contents}
use Rattle.history_merge.specs.Inner.Timeline.{timeline}
use Rattle.history_merge.proofs.Distinct.{call_by_return, contains_at, pairs_at, return_in_range}
use Rattle.value_match.specs.declared.life.TheConstants.{NEVER}
use Rattle.value_match.specs.Inner.HistoryPlaces.{behind}
use Rattle.value_match.specs.Outcome.{HoldsValues}
use Rattle.value_match.specs.Inner.Courses.{on}
use Rattle.value_match.specs.Lives.{course_of, timed}
use Rattle.value_match.specs.Violations.{IsClear, IsOrderViolation, NoOrderViolation}
use Rattle.std.proofs.lemmas.Option.{MatchOption-at_some}
use Rattle.value_match.proofs.Lives.{dequeued_if_called}
use Rattle.value_match.proofs.HistoryPlaces.{clear_life, clear_on, life_value, maybe_on, value_lives}
use Rattle.value_match.proofs.Lists.{one_more}

-- the dequeue of a life is a dequeue of its value
pub did_dequeue : (operations : List Operation) (life : Life) (d : Operation) (is : IsLife (on operations) life)
    → dequeue_of life ≡ Some d
    → Did operations d (Dequeue is.0)
did_dequeue operations life d is dequeues = MatchOption-at_some (NoneDid operations (Dequeue is.0)) (λ d. Did operations d (Dequeue is.0)) d dequeues is.2

-- no dequeue is called after `NEVER`, and one that returns before it is called before it
called_by : (operations : List Operation) (v : ℕ) (dequeue : Option Operation) → AreComplete operations
    → MatchOption dequeue (NoneDid operations (Dequeue v)) (λ d. Did operations d (Dequeue v))
    → (call_or_never dequeue ≤ NEVER) × (return_or_never dequeue < NEVER → call_or_never dequeue < NEVER)
called_by operations v None complete none = (omega arith, λ before. before)
called_by operations v (Some d) complete did =
    let range = return_in_range operations d complete did.0 in
    let order = call_by_return operations d complete did.0 in
    (omega arith, λ before. omega arith)

-- if a dequeue has a lower place than another, it is called before the other returns
pub called_first : (operations : List Operation) (p q : ℕ) (a b : Option Operation) → AreComplete operations → p < q
    → IsMaybeAt operations (Some p) a → IsMaybeAt operations (Some q) b → call_or_never a < return_or_never b
called_first operations p q (Some x) (Some y) complete below at_x at_y =
    let before = pairs_at AreApart operations p q x y complete.apart below at_x at_y in
    let order = call_by_return operations y complete (contains_at operations q y at_y) in
    omega (arith, before.called_first)
called_first operations p q None b complete below at_x at_y = elim at_x [ ]
called_first operations p q (Some x) None complete below at_x at_y = elim at_y [ ]

-- without an order violation, no value overtakes another
pub none_overtakes : (operations : List Operation) (a b : Life) → IsClear (on operations)
    → NoOrderViolation (on operations) → IsLife (on operations) a
    → IsLife (on operations) b → ¬ (Overtakes b a)
none_overtakes operations a b clear none is_a is_b overtakes =
    let last = (called_by operations is_a.0 (dequeue_of a) clear.complete is_a.2).0 in
    let called = (called_by operations is_b.0 (dequeue_of b) clear.complete is_b.2).1 (omega (arith, overtakes.1)) in
    none a b (record { is_a = is_a; is_b = is_b; is_dequeued = called; overtakes = overtakes })

place_there : (operations : List Operation) (place : Option ℕ) (o : Option Operation) (d : Operation)
    → IsMaybeAt operations place o → o ≡ Some d
    → (p : ℕ) × (place ≡ Some p)
place_there operations (Some p) o d at is = (p, refl)
place_there operations None None d at is = cc
place_there operations None (Some e) d at is = absurd at

-- ---- the values of a history

module _ (history : Contents) (clear : IsClear (course_of history)) where
  abbrev k : ℕ
  k = length history.initial

  abbrev all : List Operation
  all = timeline history.initial history.operations

  -- the call of a life's dequeue
  called : (life : Life) → IsLife (course_of history) life
      → (dequeue_call life ≤ NEVER) × (dequeue_return life < NEVER → dequeue_call life < NEVER)
  called life is =
      let there = clear_life history.initial history.operations clear life is in
      called_by all there.0 (dequeue_of life) (clear_on history.initial history.operations clear).complete there.2

  -- if a dequeue has a lower place than another, it is called before the other returns
  pub called_in_order : (p q : ℕ) (a b : Option Operation) → p < q → IsMaybeOperation history.operations (Some p) a
      → IsMaybeOperation history.operations (Some q) b → call_or_never a < return_or_never b
  called_in_order p q a b below at_p at_q =
      called_first all (behind k p) (behind k q) a b (clear_on history.initial history.operations clear).complete (omega arith)
      (maybe_on history.initial history.operations (Some p) a at_p) (maybe_on history.initial history.operations (Some q) b at_q)

  module _ (values : List MatchedValue) (holds : HoldsValues history values) where
    -- each value is a life, and each life is that of a value
    is_value : (value : MatchedValue) → Contains values value → IsLife (course_of history) value.life
    is_value = value_lives history.initial history.operations clear values holds

    pub a_value : (life : Life) → IsLife (course_of history) life
        → (value : MatchedValue) × Contains values value × (value.life ≡ life)
    a_value = life_value history.initial history.operations clear values holds

    -- if no value overtakes another, there is no order violation
    no_overtaking : All (λ b. NonePasses (Overtakes b.life) values) values → NoOrderViolation (course_of history)
    no_overtaking none x y violation =
        let (a, among_a, is_a) = a_value x violation.is_a in
        let (b, among_b, is_b) = a_value y violation.is_b in
        All-contains (λ a. ¬ (Overtakes b.life a.life)) values a (All-contains (λ b. NonePasses (Overtakes b.life) values) values b none among_b) among_a
        (rw (is_a, is_b) violation.overtakes)

    -- the first value that overtakes another is the first life that does
    first_of_lives : (b : MatchedValue) → IsFirstOvertaking values values b → IsFirstOvertaker history b
    first_of_lives b is = record {
      is_life = is_value b is.among;
      named = All-contains (λ m. IsNamed history.initial history.operations m.source m.dequeue m.life) values b holds.named is.among;
      overtaken = is.overtaken.life;
      overtaken_is_life = is_value is.overtaken is.overtaken_among;
      overtakes = is.overtakes;
      first = λ x a is_x is_a overtakes.
          let (y, among_y, same_y) = a_value x is_x in
          let (z, among_z, same_z) = a_value a is_a in
          subst (λ l. dequeue_return b.life ≤ dequeue_return l) same_y
          (All-contains (λ other. (a : MatchedValue) → Contains values a → Overtakes other.life a.life
          → dequeue_return b.life ≤ dequeue_return other.life) values y is.first among_y z among_z (rw (same_y, same_z) overtakes));
    }

    -- a search among the values finds the first of all lives
    pub first_found : (found : Option MatchedValue) → FindsFirst values values found → IsFirstFound history found
    first_found None none = no_overtaking none
    first_found (Some b) is = first_of_lives b is

    module _ (a b : MatchedValue) (first : IsFirstOvertaker history b)
        (longest : IsLongestOf (Overtakes b.life) values a) where
      stays_longest : (other : Life) → IsOrderViolation (course_of history) other b.life → StaysAtLeast a.life other
      stays_longest other violation =
          let (x, among, same) = a_value other violation.is_a in
          subst (StaysAtLeast a.life) same (All-contains (λ y. Overtakes b.life y.life → StaysAtLeast a.life y.life) values x longest.longest among
          (subst (Overtakes b.life) (sym same) violation.overtakes))

      is_violation : IsOrderViolation (course_of history) a.life b.life
      is_violation =
          let is_a = is_value a longest.among in
          let last = (called a.life is_a).0 in record {
            is_a = is_a;
            is_b = first.is_life;
            is_dequeued = (called b.life first.is_life).1 (omega (arith, longest.passes.1));
            overtakes = longest.passes;
          }

      -- the first value that overtakes another, with the longest-staying value that it overtakes, is the chosen pair
      is_chosen_pair : (p : ℕ) → b.dequeue ≡ Some p
          → IsChosenPair history.initial history.operations
          (record { enq_a = a.source; enq_b = b.source; deq_b = p; deq_a = a.dequeue })
      is_chosen_pair p named = record {
        a = a.life;
        b = b.life;
        names = (
          All-contains (λ m. IsNamed history.initial history.operations m.source m.dequeue m.life) values a holds.named longest.among,
          (first.named.0, subst (λ q. IsMaybeOperation history.operations q (dequeue_of b.life)) named first.named.1),
        );
        is_chosen = record {
          violates = is_violation;
          first = λ x y violation. first.first y x violation.is_b violation.is_a violation.overtakes;
          longest = stays_longest;
        };
      }

      -- so this pair is the answer
      pub is_answer : IsOrderAnswer history.initial history.operations (pair_of a b)
      is_answer =
          let dequeue = dequeued_if_called b.life is_violation.is_dequeued in
          let place = place_there (timed history.operations) b.dequeue (dequeue_of b.life) dequeue.0 first.named.1 dequeue.1 in
          rw place.1 (is_chosen_pair place.0 place.1)

-- ---- the first value that overtakes another, among two lists of candidates, and with one more candidate

-- each value that overtakes another is dequeued no sooner than b
abbrev ComesNoLater : List MatchedValue → MatchedValue → MatchedValue → Type 0
ComesNoLater values b other = (a : MatchedValue) → Contains values a → Overtakes other.life a.life → dequeue_return b.life ≤ dequeue_return other.life

overtake_nobody : (values candidates : List MatchedValue) (b : MatchedValue)
    → All (λ other. NonePasses (Overtakes other.life) values) candidates
    → All (ComesNoLater values b) candidates
overtake_nobody values candidates b none k d within a among overtakes =
    absurd (All-contains (λ a. ¬ (Overtakes (get_or candidates k d).life a.life)) values a (none k d within) among overtakes)

-- the first of some candidates is the first of others, if none of these is sooner
first_of : (values side candidates : List MatchedValue) (x : MatchedValue) → IsFirstOvertaking values side x
    → Contains candidates x
    → All (ComesNoLater values x) candidates → IsFirstOvertaking values candidates x
first_of values side candidates x is among first = record {
  among = among;
  overtaken = is.overtaken;
  overtaken_among = is.overtaken_among;
  overtakes = is.overtakes;
  first = first;
}

-- a candidate dequeued no later than the first ones of two lists is the first of all
pub sooner_is_first : (values low high side : List MatchedValue) (a b r : MatchedValue)
    → IsFirstOvertaking values low a → IsFirstOvertaking values high b
    → IsFirstOvertaking values side r → Contains (low ++ high) r → dequeue_return r.life ≤ dequeue_return a.life
    → dequeue_return r.life ≤ dequeue_return b.life → IsFirstOvertaking values (low ++ high) r
sooner_is_first values low high side a b r is_a is_b is among before_a before_b =
    first_of values side (low ++ high) r is among (All-append (ComesNoLater values r) low high
    (λ k d within x among over. omega (arith, before_a, is_a.first k d within x among over))
    (λ k d within x among over. omega (arith, before_b, is_b.first k d within x among over)))

-- if none of the second part overtakes a value, the first of the first part is the first of all
pub low_is_first : (values low high : List MatchedValue) (a : MatchedValue) → IsFirstOvertaking values low a
    → All (λ b. NonePasses (Overtakes b.life) values) high → IsFirstOvertaking values (low ++ high) a
low_is_first values low high a is none = first_of values low (low ++ high) a is (Contains-append_left low high a is.among)
    (All-append (ComesNoLater values a) low high is.first (overtake_nobody values high a none))

-- if none of the first part overtakes a value, the first of the second part is the first of all
pub high_is_first : (values low high : List MatchedValue) (found : Option MatchedValue)
    → All (λ b. NonePasses (Overtakes b.life) values) low
    → FindsFirst values high found → FindsFirst values (low ++ high) found
high_is_first values low high None none not = All-append (λ b. NonePasses (Overtakes b.life) values) low high none not
high_is_first values low high (Some b) none is = first_of values high (low ++ high) b is (Contains-append_right low high b is.among)
    (All-append (ComesNoLater values b) low high (overtake_nobody values low b none) is.first)

-- a single candidate is the first
first_of_one : (values : List MatchedValue) (x a : MatchedValue) → Contains values a → Overtakes x.life a.life
    → IsFirstOvertaking values (x ∷ []) x
first_of_one values x a among overtakes = record {
  among = Contains-push [] x;
  overtaken = a;
  overtaken_among = among;
  overtakes = overtakes;
  first = All-push (ComesNoLater values x) [] x (All-nil (ComesNoLater values x)) (λ _ _ _. omega arith);
}

-- the next candidate overtakes none
pub first_stays : (values candidates : List MatchedValue) (i : ℕ) (x : MatchedValue) (first : Option MatchedValue)
    → i < length candidates
    → x ≡ get_or candidates i x → FindsFirst values (take i candidates) first
    → NonePasses (Overtakes x.life) values → FindsFirst values (take (i + 1) candidates) first
first_stays values candidates i x first within is so_far not =
    subst (λ seen. FindsFirst values seen first) (sym (one_more candidates i x within is)) (go first so_far)
  where
    nobody : All (λ b. NonePasses (Overtakes b.life) values) (x ∷ [])
    nobody = All-push (λ b. NonePasses (Overtakes b.life) values) [] x (All-nil (λ b. NonePasses (Overtakes b.life) values)) not

    go : (first : Option MatchedValue) → FindsFirst values (take i candidates) first
        → FindsFirst values (take i candidates ++ x ∷ []) first
    go None none = All-append (λ b. NonePasses (Overtakes b.life) values) (take i candidates) (x ∷ []) none nobody
    go (Some a) is_a = low_is_first values (take i candidates) (x ∷ []) a is_a nobody

-- the next candidate overtakes a value
pub first_changes : (values candidates : List MatchedValue) (i : ℕ) (x a : MatchedValue)
    (first found : Option MatchedValue) → i < length candidates
    → x ≡ get_or candidates i x → FindsFirst values (take i candidates) first → Contains values a → Overtakes x.life a.life
    → ((values xs ys : List MatchedValue) → FindsFirst values xs first → FindsFirst values ys (Some x) → FindsFirst values (xs ++ ys) found)
    → FindsFirst values (take (i + 1) candidates) found
first_changes values candidates i x a first found within is so_far among overtakes of_both =
    subst (λ seen. FindsFirst values seen found) (sym (one_more candidates i x within is))
    (of_both values (take i candidates) (x ∷ []) so_far (first_of_one values x a among overtakes))

-- the values that b overtakes are among those that entered before it, so the longest of these is the longest that b
-- overtakes, unless b overtakes none
pub none_overtaken : (values : List MatchedValue) (b : Life) → NonePasses (EntersBefore (enqueue_call b)) values
    → NonePasses (Overtakes b) values
none_overtaken values b none k d within overtakes = none k d within overtakes.0

-- b overtakes the longest of those before it, if b is dequeued before it
pub longest_is_overtaken : (values : List MatchedValue) (b : Life) (a : MatchedValue)
    → IsLongestOf (EntersBefore (enqueue_call b)) values a
    → dequeue_return b < dequeue_call a.life → IsLongestOf (Overtakes b) values a
longest_is_overtaken values b a is later = record {
  among = is.among;
  passes = (is.passes, later);
  longest = λ k d within overtakes. is.longest k d within overtakes.0;
}

-- if b doesn't overtake the longest of those before it, it overtakes none
pub longest_is_not_overtaken : (values : List MatchedValue) (b : Life) (a : MatchedValue)
    → IsLongestOf (EntersBefore (enqueue_call b)) values a
    → dequeue_call a.life ≤ dequeue_return b → NonePasses (Overtakes b) values
longest_is_not_overtaken values b a is sooner k d within overtakes = omega (arith, (is.longest k d within overtakes.0).0, overtakes.1)

-- if a longest overtaken value was found, a value is overtaken
pub overtaken_one : (values : List MatchedValue) (b : Life) (longest : Option MatchedValue)
    → FindsLongest (Overtakes b) values longest
    → is_some longest ≡ true → (a : MatchedValue) × Contains values a × Overtakes b a.life
overtaken_one values b None none some = cc
overtaken_one values b (Some a) is some = (a, is.among, is.passes)

-- if none is found, none is overtaken
pub overtaken_none : (values : List MatchedValue) (b : Life) (longest : Option MatchedValue)
    → FindsLongest (Overtakes b) values longest
    → is_some longest ≡ false → NonePasses (Overtakes b) values
overtaken_none values b None none not = none
overtaken_none values b (Some a) is not = cc

-- the next value doesn't pass
pub longest_stays : (Passes : Life → Type 0) (values : List MatchedValue) (i : ℕ) (x : MatchedValue)
    (found : Option MatchedValue) → i < length values
    → x ≡ get_or values i x → FindsLongest Passes (take i values) found → ¬ (Passes x.life) → FindsLongest Passes (take (i + 1) values) found
longest_stays Passes values i x found within is so_far not =
    subst (λ seen. FindsLongest Passes seen found) (sym (one_more values i x within is)) (go found so_far)
  where
    go : (found : Option MatchedValue) → FindsLongest Passes (take i values) found
        → FindsLongest Passes (take i values ++ x ∷ []) found
    go None none = All-push (λ value. ¬ (Passes value.life)) (take i values) x none not
    go (Some a) is_a = record {
      among = Contains-append_left (take i values) (x ∷ []) a is_a.among;
      passes = is_a.passes;
      longest = All-push (λ other. Passes other.life → StaysAtLeast a.life other.life) (take i values) x is_a.longest (λ passes. absurd (not passes));
    }
