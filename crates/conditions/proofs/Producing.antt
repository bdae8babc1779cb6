-- The producer of a value, as it is found, and the operations of a producer's selection.
use Rattle.std.proofs.Common.{◌≡◌, ◌≢◌, ℕ, zero, ◌+◌, ◌<◌, ◌≤◌, ◌⊎◌, inl, inr, Bool, true, false, cond, List, [], ◌∷◌}
use Rattle.std.proofs.Common.{length, get_or, map}
use Rattle.std.proofs.Common.{Option, Some, None, Result, Ok, Err, refl, ap, sym, subst, ◌∙◌, arith}
use Rattle.std.specs.Prelude.{Contains, filter, filter_map, find, IsPermutation, MatchResult, nat_eq, nat_lt}
use Rattle.std.specs.Prelude.{option_map, slice_get}
use Rattle.std.specs.List.Sorted.{IsBinarySearchResult, IsNonDecreasingBy, IsSearchInRange}
use Rattle.std.specs.Option.{option_map_or}
use Rattle.std.specs.Ordering.{nat_cmp, ordering_index}
use Rattle.std.proofs.lemmas.Bool.{cases_Bool, cases_lt, eq-eqb, eqb-true, lt-ltb}
use Rattle.std.proofs.lemmas.Bool.Decides.{nat_tests}
use Rattle.std.proofs.lemmas.Cmp.{ranked}
use Rattle.std.proofs.lemmas.List.Elements.{Contains-append_cases, Contains-append_left, Contains-append_right}
use Rattle.std.proofs.lemmas.List.Elements.{Contains-get_or, filter_agree}
use Rattle.std.proofs.lemmas.List.Folds.{Any-from_list_any, list_any_at}
use Rattle.std.proofs.lemmas.List.Sorted.{Contains-permutation, IsPermutation-sym}
use Rattle.std.proofs.lemmas.Option.{slice_get_within}
use Rattle.event_records.specs.declared.limits.TheConstants.{MAX_INITIAL, ORIGIN}
use Rattle.history_merge.specs.declared.operation.Operation.{Operation}
use Rattle.history_merge.specs.declared.operation.OpKind.TheVariants.{Enqueue, EnqueueFailed}
use Rattle.history_merge.specs.Complete.{AreComplete}
use Rattle.history_merge.specs.Faults.{is_initial}
use Rattle.history_merge.specs.Initial.{Contents, initial_enqueues, later_by}
use Rattle.history_merge.specs.Inner.Timeline.{timeline}
use Rattle.history_merge.specs.Operations.{enqueued_value}
use Rattle.history_merge.proofs.Distinct.{contains_cons, found_first, not_in_none, place_of, contains_at}
use Rattle.history_merge.proofs.Distinct.{same_value_call}
use Rattle.value_match.specs.Times.{initial_enqueue}
use Rattle.value_match.proofs.Lists.{keeps, kept, mapped_from, mapped_to, one_deeper}
use Rattle.value_match.proofs.HistoryPlaces.{enqueue_place, enqueue_stands, few_initial, mapped_option}
use Rattle.verdicts.specs.Selection.{selects, value_of}
use Rattle.conditions.specs.declared.producer.Emptiness.{Emptiness}
use Rattle.conditions.specs.declared.producer.Emptiness.TheVariants.{Strict, Weak}
use Rattle.conditions.specs.declared.producer.Producer.{Producer}
use Rattle.conditions.specs.declared.producer.Producer.TheVariants.{Initial, Thread}
use Rattle.conditions.specs.declared.producers.Produced.{Produced}
use Rattle.conditions.specs.declared.sharing.Share.TheVariants.{Everybody, Nobody, Only}
use Rattle.conditions.specs.Conditions.{counts_for, enqueues, is_producer, judges_empties, producer_of}
use Rattle.conditions.specs.Inner.Parts.{initial_of}
use Rattle.conditions.specs.Inner.Producers.{AreProducers, goes_to, produced_by, producer_at, share_of, share_of_value}
use Rattle.value_match.proofs.FreshDequeues.{calls_for}

-- ---- a search by value

comparisons_rise : (xs : List Produced) (v : ℕ) → IsNonDecreasingBy (λ x. x.value) xs
    → IsNonDecreasingBy (λ x. ordering_index (nat_cmp x.value v)) xs
comparisons_rise xs v rise i j d le within = let values = rise i j d le within in grind (arith, nat_tests)

-- a search finds the place of a value, or there is none
pub searched_by_value : (xs : List Produced) (v : ℕ) (r : Result ℕ ℕ) → IsNonDecreasingBy (λ x. x.value) xs
    → IsSearchInRange r (length xs)
    → IsBinarySearchResult (λ x. nat_cmp x.value v) xs r
    → MatchResult r (λ i. (i < length xs) × ((d : Produced) → (get_or xs i d).value ≡ v))
    (λ _. (k : ℕ) (d : Produced) → k < length xs → (get_or xs k d).value ≢ v)
searched_by_value xs v (Ok i) rise in_range equal = (in_range, λ d. ranked _ v _ (sym (equal d)))
searched_by_value xs v (Err i) rise in_range parted =
    let parts = parted (comparisons_rise xs v rise) in
    λ k d within same. elim (cases_lt k i) [
      | inl less ↦ let before : (get_or xs k d).value < v = ranked _ v _ (sym (parts.0 k d (omega arith) less)) in omega arith
      | inr more ↦ let after : v < (get_or xs k d).value = ranked _ v _ (sym (parts.1 k d more within)) in omega arith
    ]

-- the producer of a value is that at its place in the list
pub found_producer : (whole : Contents) (xs : List Produced) (v i : ℕ) (d : Produced) → AreProducers whole xs
    → i < length xs
    → (get_or xs i d).value ≡ v → Some (get_or xs i d).producer ≡ producer_of whole v
found_producer whole xs v i d are below is = sym (are.right (get_or xs i d) (Contains-get_or xs i d below)) ∙ ap (producer_of whole) is

pub no_producer : (whole : Contents) (xs : List Produced) (v : ℕ) → AreProducers whole xs
    → ((k : ℕ) (d : Produced) → k < length xs → (get_or xs k d).value ≢ v) → None ≡ producer_of whole v
no_producer whole xs v are none = by_case (producer_of whole v) refl
  where
    by_case : (o : Option Producer) → producer_of whole v ≡ o → None ≡ producer_of whole v
    by_case None is = sym is
    by_case (Some p) is =
        let found = are.all v p is in
        absurd (none found.1.0 found.0 found.1.1 (ap (λ (x : Produced). x.value) found.1.2 ∙ found.2))

-- ---- the producers of the enqueued values

pub value_told : (o : Option ℕ) (v : ℕ) → option_map_or (λ w. nat_eq w v) o false ≡ true → o ≡ Some v
value_told None v is = cc
value_told (Some w) v is = ap (λ x. Some x) (eqb-true w v is)

value_tells : (o : Option ℕ) (v : ℕ) → o ≡ Some v → option_map_or (λ w. nat_eq w v) o false ≡ true
value_tells o v is = rw is (eq-eqb v v refl)

-- if an element passes, some element is found
pub found_some : {X : Type 0} (p : X → Bool) (xs : List X) (x : X) → Contains xs x → p x ≡ true
    → (y : X) × (find p xs ≡ Some y) × Contains xs y × (p y ≡ true)
found_some p [] x among is = absurd (not_in_none x among)
found_some {X} p (z ∷ xs) x among is = by_test (p z) refl (contains_cons z xs x among) (found_some p xs x)
  where
    by_test : (b : Bool) → p z ≡ b → (z ≡ x) ⊎ Contains xs x
        → (Contains xs x → p x ≡ true → (y : X) × (find p xs ≡ Some y) × Contains xs y × (p y ≡ true))
        → (y : X) × (find p (z ∷ xs) ≡ Some y) × Contains (z ∷ xs) y × (p y ≡ true)
    by_test true test at more = (z, rw test refl, (zero, omega arith, refl), test)
    by_test false test (inl here) more = let clash : true ≡ false = sym is ∙ ap p (sym here) ∙ test in cc
    by_test false test (inr there) more = let found = more there is in (found.0, rw test found.1, one_deeper z xs found.0 found.2, found.3)

module _ (whole : Contents) (complete : AreComplete (timeline whole.initial whole.operations)) where
  abbrev all : List Operation
  all = timeline whole.initial whole.operations

  few : length whole.initial ≤ MAX_INITIAL
  few = few_initial whole.initial whole.operations complete

  initial_in : (o : Operation) → Contains (initial_enqueues whole.initial) o → Contains all o
  initial_in o among = Contains-append_left (initial_enqueues whole.initial) (map (later_by ORIGIN) whole.operations) o among

  later_in : (x : Operation) → Contains whole.operations x → Contains all (later_by ORIGIN x)
  later_in x among =
      Contains-append_right (initial_enqueues whole.initial) (map (later_by ORIGIN) whole.operations) (later_by ORIGIN x)
      (mapped_to (later_by ORIGIN) whole.operations x among)

  -- an initial value has a place
  initial_place : (v : ℕ) → is_initial whole.initial v ≡ true → (j : ℕ) × (slice_get whole.initial j ≡ Some v)
  initial_place v is =
      let any = Any-from_list_any (λ w. nat_eq w v) whole.initial is in
      place_of whole.initial v (subst (Contains whole.initial) (eqb-true any.1 v any.4) (any.0, any.2, any.3))

  is_early : (j v : ℕ) → slice_get whole.initial j ≡ Some v
      → (initial_enqueue (length whole.initial) j v).call < ORIGIN
  is_early j v at = let within = slice_get_within whole.initial j v at in omega (arith, few)

  at_initial : (o : Operation) (v : ℕ) → Contains (initial_enqueues whole.initial) o → enqueued_value o.kind ≡ Some v
      → producer_of whole v ≡ Some (producer_at o)
  at_initial o v here is =
      let found = enqueue_place whole.initial o here in
      let same : Some found.1 ≡ Some v = ap (λ (x : Operation). enqueued_value x.kind) found.3 ∙ is in
      let one : found.1 ≡ v = cc in
      let below = slice_get_within whole.initial found.0 found.1 found.2 in
      let among = contains_at whole.initial found.0 found.1 found.2 in
      let initial : is_initial whole.initial v ≡ true =
      list_any_at (λ w. nat_eq w v) whole.initial among.0 found.1 among.1 (eq-eqb (get_or whole.initial among.0 found.1) v (among.2 ∙ one)) in
      let calls = ap (λ (x : Operation). x.call) found.3 in
      let early : nat_lt o.call ORIGIN ≡ true = lt-ltb o.call ORIGIN (subst (λ n. n < ORIGIN) calls (is_early found.0 found.1 found.2)) in
      rw (initial, early) refl

  at_later : (o : Operation) (v : ℕ) → Contains (map (later_by ORIGIN) whole.operations) o
      → enqueued_value o.kind ≡ Some v
      → producer_of whole v ≡ Some (producer_at o)
  at_later o v there is =
      let from = mapped_from (later_by ORIGIN) whole.operations o there in
      let x = from.0 in
      let in_o : Contains all o = subst (Contains all) from.2 (later_in x from.1) in
      let calls : x.call + ORIGIN ≡ o.call = ap (λ (y : Operation). y.call) from.2 in
      let late : nat_lt o.call ORIGIN ≡ false = grind (arith, nat_tests) in
      let x_is : enqueued_value x.kind ≡ Some v = ap (λ (y : Operation). enqueued_value y.kind) from.2 ∙ is in
      let found = found_some (enqueues v) whole.operations x from.1 (value_tells (enqueued_value x.kind) v x_is) in
      let y = found.0 in
      let y_is = value_told (enqueued_value y.kind) v found.3 in
      let one = same_value_call all (later_by ORIGIN y) o v complete (later_in y found.2) in_o (calls_for y.kind v y_is) (calls_for o.kind v is) in
      let threads : y.thread ≡ o.thread = ap (λ (z : Operation). z.thread) one in
      let other : is_initial whole.initial v ≡ false = not_initial o v x.call in_o calls is in
      rw (other, late, found.1) (ap (λ t. Some (Thread t)) threads)
    where
      not_initial : (o : Operation) (v n : ℕ) → Contains all o → n + ORIGIN ≡ o.call → enqueued_value o.kind ≡ Some v
          → is_initial whole.initial v ≡ false
      not_initial o v n in_o calls is = elim (cases_Bool (is_initial whole.initial v)) [
        | inr other ↦ other
        | inl initial ↦
            let at = initial_place v initial in
            let z = initial_enqueue (length whole.initial) at.0 v in
            let one = same_value_call all z o v complete (initial_in z (enqueue_stands whole.initial at.0 v at.1)) in_o (inl refl) (calls_for o.kind v is) in
            let early = is_early at.0 v at.1 in
            let same = ap (λ (y : Operation). y.call) one in
            absurd (omega arith)
      ]

  -- the producer of an operation's value is that of the operation
  at_source : (o : Operation) (v : ℕ) → Contains all o → enqueued_value o.kind ≡ Some v
      → producer_of whole v ≡ Some (producer_at o)
  at_source o v among is = elim (Contains-append_cases (initial_enqueues whole.initial) (map (later_by ORIGIN) whole.operations) o among) [
    | inl here ↦ at_initial o v here is
    | inr there ↦ at_later o v there is
  ]

  -- the producer of an enqueued value is its thread
  own_thread : (x : Operation) (v : ℕ) → Contains whole.operations x → enqueued_value x.kind ≡ Some v
      → producer_of whole v ≡ Some (Thread x.thread)
  own_thread x v among is =
      let late : nat_lt (x.call + ORIGIN) ORIGIN ≡ false = grind (arith, nat_tests) in
      at_later (later_by ORIGIN x) v (mapped_to (later_by ORIGIN) whole.operations x among) is ∙ rw late refl

  -- the producer of an operation's value, as it is found at the operation
  pub near_producer : (o : Operation) (v : ℕ) (x : Produced) → Contains all o → enqueued_value o.kind ≡ Some v
      → Some x ≡ produced_by o → producer_of whole v ≡ Some x.producer
  near_producer o v x among is found =
      let made : Some x ≡ Some (record { value = v; producer = producer_at o }) =
      found ∙ ap (option_map (λ v. record { value = v; producer = producer_at o })) is in
      at_source o v among is ∙ ap (option_map (λ (y : Produced). y.producer)) (sym made)

  -- a call to enqueue belongs to the selection of its thread alone
  pub own_share : (emptiness : Emptiness) (o : Operation) → Contains whole.operations o
      → ((v : ℕ) × (o.kind ≡ Enqueue v)) ⊎ ((v : ℕ) × (o.kind ≡ EnqueueFailed v))
      → Only (Thread o.thread) ≡ share_of whole emptiness o.kind
  own_share emptiness o among (inl (v, is)) =
      rw is (ap share_of_value (sym (own_thread o v among (ap enqueued_value is))))
  own_share emptiness o among (inr (v, is)) =
      rw is (ap share_of_value (sym (own_thread o v among (ap enqueued_value is))))

  -- a value with a producer has an operation
  source_of : (v : ℕ) (p : Producer) → producer_of whole v ≡ Some p
      → (o : Operation) × Contains all o × (enqueued_value o.kind ≡ Some v)
  source_of v p is = elim (cases_Bool (is_initial whole.initial v)) [
    | inl initial ↦
        let at = initial_place v initial in
        let z = initial_enqueue (length whole.initial) at.0 v in
        (z, initial_in z (enqueue_stands whole.initial at.0 v at.1), refl)
    | inr other ↦
        let mapped : option_map (λ (o : Operation). Thread o.thread) (find (enqueues v) whole.operations) ≡ Some p = rw other at is in
        let some = mapped_option (λ (o : Operation). Thread o.thread) (find (enqueues v) whole.operations) p mapped in
        let first = found_first (enqueues v) whole.operations some.0 some.1 in (
          later_by ORIGIN some.0,
          later_in some.0 (contains_at whole.operations first.place some.0 first.at),
          value_told (enqueued_value some.0.kind) v first.passes,
        )
  ]

  -- the enqueued values, sorted by value, are those with a producer
  pub are_producers : (listed sorted : List Produced) → listed ≡ filter_map produced_by all
      → IsPermutation listed sorted
      → IsNonDecreasingBy (λ x. x.value) sorted → AreProducers whole sorted
  are_producers listed sorted is moved rises = record {
    rise = rises;
    right = λ x among.
        let there = subst (λ xs. Contains xs x) is (Contains-permutation sorted listed x (IsPermutation-sym listed sorted moved) among) in
        let from = kept produced_by all x there in
        let made = mapped_option (λ v. record { value = v; producer = producer_at from.0 }) (enqueued_value from.0.kind) x from.2 in
        subst (λ (y : Produced). producer_of whole y.value ≡ Some y.producer) made.2 (at_source from.0 made.0 from.1 made.1);
    all = λ v p known.
        let source = source_of v p known in
        let x : Produced = record { value = v; producer = producer_at source.0 } in
        let there = keeps produced_by all source.0 x source.1 (ap (option_map (λ v. record { value = v; producer = producer_at source.0 })) source.2) in
        (x, Contains-permutation listed sorted x moved (subst (λ xs. Contains xs x) (sym is) there), refl);
  }

-- ---- the operations of a producer's selection

module _ (whole : Contents) (p : Producer) where
  goes_by_producer : (q : Option Producer) → goes_to p (share_of_value q) ≡ option_map_or (is_producer p) q true
  goes_by_producer None = refl
  goes_by_producer (Some q) = refl

  goes_without_value : (emptiness : Emptiness)
      → goes_to p (cond (judges_empties emptiness) Everybody Nobody) ≡ judges_empties emptiness
  goes_without_value Strict = refl
  goes_without_value Weak = refl

  goes_by_value : (emptiness : Emptiness) (w : Option ℕ)
      → goes_to p (option_map_or (λ v. share_of_value (producer_of whole v)) w
      (cond (judges_empties emptiness) Everybody Nobody))
      ≡ option_map_or (counts_for whole p) w (judges_empties emptiness)
  goes_by_value emptiness None = goes_without_value emptiness
  goes_by_value emptiness (Some v) = goes_by_producer (producer_of whole v)

  pub goes_if_selected : (emptiness : Emptiness) (o : Operation)
      → goes_to p (share_of whole emptiness o.kind) ≡ selects (counts_for whole p) (λ call. judges_empties emptiness) o
  goes_if_selected emptiness o = goes_by_value emptiness (value_of o.kind)

  pub selected_by_share : (emptiness : Emptiness) (operations : List Operation)
      → filter (λ o. goes_to p (share_of whole emptiness o.kind)) operations
      ≡ filter (selects (counts_for whole p) (λ call. judges_empties emptiness)) operations
  selected_by_share emptiness operations = filter_agree _ _ (goes_if_selected emptiness) operations

-- an initial value counts for the initial values' producer alone
counts_initial : (whole : Contents) (v : ℕ) (p : Producer) → Contains whole.initial v
    → counts_for whole p v ≡ is_producer p Initial
counts_initial whole v p among =
    let initial : is_initial whole.initial v ≡ true =
    list_any_at (λ w. nat_eq w v) whole.initial among.0 v among.1 (eq-eqb (get_or whole.initial among.0 v) v among.2) in
    rw initial refl

-- a test that each element passes keeps all
pub kept_each : {X : Type 0} (q : X → Bool) (xs : List X) → ((x : X) → Contains xs x → q x ≡ true) → filter q xs ≡ xs
kept_each q [] each = refl
kept_each q (x ∷ xs) each = rw (each x (zero, omega arith, refl)) (ap (λ ys. x ∷ ys) (kept_each q xs (λ y among. each y (one_deeper x xs y among))))

kept_none : {X : Type 0} (q : X → Bool) (xs : List X) → ((x : X) → Contains xs x → q x ≡ false) → filter q xs ≡ []
kept_none q [] each = refl
kept_none q (x ∷ xs) each = rw (each x (zero, omega arith, refl)) (kept_none q xs (λ y among. each y (one_deeper x xs y among)))

-- the initial values of a producer's selection
pub initial_selected : (whole : Contents) (p : Producer)
    → filter (counts_for whole p) whole.initial ≡ initial_of p whole.initial
initial_selected whole Initial = kept_each (counts_for whole Initial) whole.initial (λ v among. counts_initial whole v Initial among)
initial_selected whole (Thread t) = kept_none (counts_for whole (Thread t)) whole.initial (λ v among. counts_initial whole v (Thread t) among)
