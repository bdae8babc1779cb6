-- The selections of producers are judged, one after another, and then all are.
use Rattle.std.proofs.Common.{◌≡◌, ◌≢◌, ℕ, zero, suc, ◌+◌, ◌<◌, ◌≤◌, ◌++◌, inl, inr, Bool, true, false, cond, List}
use Rattle.std.proofs.Common.{[], ◌∷◌, length, get_or, map, take, Option, Some, None, refl, ap, ap₂, sym, subst, ◌∙◌}
use Rattle.std.proofs.Common.{arith}
use Rattle.std.specs.Prelude.{All, filter, find, is_some, nat_eq, option_map, slice_get, ◌&&◌}
use Rattle.std.specs.List.{range_with_len}
use Rattle.std.specs.Option.{option_map_or}
use Rattle.std.proofs.lemmas.Bool.{cases_Bool, cases_lt, eq-eqb, eqb-true}
use Rattle.std.proofs.lemmas.List.{append-nil, get_or_default, map-append, take_all, take_more}
use Rattle.std.proofs.lemmas.List.Elements.{All-append, All-contains, All-cons, All-nil, filter-append}
use Rattle.std.proofs.lemmas.List.Folds.{Any-from_list_any, list_any_at}
use Rattle.std.proofs.lemmas.Option.{get_or_from_slice_get, slice_get_within}
use Rattle.event_records.specs.declared.limits.TheConstants.{MAX_INITIAL, MAX_THREAD, MAX_THREADS}
use Rattle.history_merge.specs.declared.operation.Operation.{Operation}
use Rattle.history_merge.specs.Faults.{is_initial}
use Rattle.history_merge.specs.Initial.{Contents, HistoryView, IsCompleteFrom}
use Rattle.history_merge.specs.Legal.{ArePlacesOf}
use Rattle.history_merge.specs.Operations.{enqueued_value, operations_of}
use Rattle.history_merge.proofs.Distinct.{contains_at, found_first, traced}
use Rattle.value_match.proofs.HistoryPlaces.{mapped_option}
use Rattle.value_match.specs.declared.violation.Violation.{Violation}
use Rattle.verdicts.specs.Selection.{AreLinearizable, contents_of, select, selects, value_of}
use Rattle.claims.specs.declared.verdict.Verdict.TheVariants.{No, Yes}
use Rattle.history_merge.proofs.Lists.{no_longer}
use Rattle.verdicts.proofs.Selections.{events_kept, kept_is_complete_from, operations_kept}
use Rattle.conditions.specs.declared.local.LocalOrder.{LocalOrder}
use Rattle.conditions.specs.declared.producer.Emptiness.{Emptiness}
use Rattle.conditions.specs.declared.producer.Emptiness.TheVariants.{Strict, Weak}
use Rattle.conditions.specs.declared.producer.Producer.{Producer}
use Rattle.conditions.specs.declared.producer.Producer.TheVariants.{Initial, Thread}
use Rattle.conditions.specs.declared.ranks.TheConstants.{PRODUCERS}
use Rattle.conditions.specs.Conditions.{all_producers, ComesBefore, counts_for, enqueues, has_values, is_producer}
use Rattle.conditions.specs.Conditions.{judges_empties, producer_of, selection_of}
use Rattle.conditions.specs.Decided.{AreLocalOrders, IsDecidedOf, IsFirstRefuted}
use Rattle.conditions.specs.Inner.Judging.{AreJudged}
use Rattle.conditions.specs.Inner.Sharing.{AreMarked, AreSharedOut, enqueues_in, ranked}
use Rattle.conditions.proofs.Producing.{initial_selected, value_told}
use Rattle.conditions.proofs.Twice.{filtered_twice}
use Rattle.conditions.proofs.Weaker.{selections_stay_linearizable}

-- ---- a thread that enqueues nothing

and_left : (a b : Bool) → a && b ≡ true → a ≡ true
and_left true b is = refl
and_left false b is = is

-- nobody enqueues the value
abbrev pub is_nobodys : Contents → ℕ → Bool
is_nobodys whole v = option_map_or (λ (q : Producer). false) (producer_of whole v) true

module _ (whole : Contents) (t : ℕ) (none : has_values whole (Thread t) ≡ false) where
  -- no value has this thread as its producer
  not_its : (v : ℕ) → producer_of whole v ≢ Some (Thread t)
  not_its v is = elim (cases_Bool (is_initial whole.initial v)) [
    | inl initial ↦ let clash : Some Initial ≡ Some (Thread t) = rw initial at is in cc
    | inr other ↦
        let mapped : option_map (λ (o : Operation). Thread o.thread) (find (enqueues v) whole.operations) ≡ Some (Thread t) = rw other at is in
        let some = mapped_option (λ (o : Operation). Thread o.thread) (find (enqueues v) whole.operations) (Thread t) mapped in
        let o = some.0 in
        let first = found_first (enqueues v) whole.operations o some.1 in
        let thread : o.thread ≡ t = cc in
        let value : enqueued_value o.kind ≡ Some v = value_told (enqueued_value o.kind) v first.passes in
        let here = get_or_from_slice_get whole.operations first.place o o first.at in
        let passes : enqueues_in t o ≡ true = rw (value, eq-eqb o.thread t thread) refl in
        let any : has_values whole (Thread t) ≡ true =
        list_any_at (enqueues_in t) whole.operations first.place o (slice_get_within whole.operations first.place o first.at)
        (ap (enqueues_in t) here ∙ passes) in
        let clash : false ≡ true = sym none ∙ any in cc
  ]

  counts_by : (v : ℕ) (q : Option Producer) → producer_of whole v ≡ q → option_map_or (is_producer (Thread t)) q true
      ≡ cond (option_map_or (is_producer Initial) q true) (option_map_or (λ (q : Producer). false) q true) false
  counts_by v None is = refl
  counts_by v (Some Initial) is = refl
  counts_by v (Some (Thread s)) is = elim (cases_Bool (nat_eq t s)) [
    | inl same ↦ absurd (not_its v (is ∙ ap (λ (n : ℕ). Some (Thread n)) (sym (eqb-true t s same))))
    | inr other ↦ other
  ]

  -- the values that count for this thread count for the initial values' producer, and have no producer
  counts_as_nobodys : (v : ℕ)
      → counts_for whole (Thread t) v ≡ cond (counts_for whole Initial v) (is_nobodys whole v) false
  counts_as_nobodys v = counts_by v (producer_of whole v) refl

  selects_by : (emptiness : Emptiness) (w : Option ℕ)
      → option_map_or (counts_for whole (Thread t)) w (judges_empties emptiness)
      ≡ cond (option_map_or (counts_for whole Initial) w (judges_empties emptiness)) (option_map_or (is_nobodys whole) w (judges_empties emptiness)) false
  selects_by Strict None = refl
  selects_by Weak None = refl
  selects_by emptiness (Some v) = counts_as_nobodys v

  -- so its selection is a selection of that one
  pub selection_within : (emptiness : Emptiness)
      → select (is_nobodys whole) (λ call. judges_empties emptiness) (selection_of emptiness Initial whole)
      ≡ selection_of emptiness (Thread t) whole
  selection_within emptiness =
      let values = filtered_twice (is_nobodys whole) (counts_for whole Initial) (counts_for whole (Thread t)) whole.initial counts_as_nobodys in
      let operations = filtered_twice (selects (is_nobodys whole) (λ call. judges_empties emptiness))
      (selects (counts_for whole Initial) (λ call. judges_empties emptiness)) (selects (counts_for whole (Thread t)) (λ call. judges_empties emptiness))
      whole.operations (λ o. selects_by emptiness (value_of o.kind)) in
      λ i. record { initial = values i; operations = operations i }

-- ---- producers by rank

pub rank_stands : (k : ℕ) → k < PRODUCERS → get_or all_producers k Initial ≡ ranked k
rank_stands zero below = refl
rank_stands (suc t) below = thread_stands 0 64 t (omega arith) ∙ ap Thread (omega arith)
  where
    thread_stands : (a n t : ℕ) → t < n → get_or (map Thread (range_with_len a n)) t Initial ≡ Thread (a + t)
    thread_stands a zero t below = absurd (omega arith)
    thread_stands a (suc n) zero below = ap Thread (omega arith)
    thread_stands a (suc n) (suc t) below = thread_stands (a + 1) n t (omega arith) ∙ ap Thread (omega arith)

-- the marks of producers in use
pub used_is : (whole : Contents) (used : List Bool) (k : ℕ) → AreMarked whole.operations used → k < PRODUCERS
    → get_or used k false ≡ has_values whole (ranked k)
used_is whole used zero marked below = marked.initial
used_is whole used (suc t) marked below = marked.threads t (omega arith)

-- ---- a history

module _ (history : HistoryView) (complete : IsCompleteFrom history.initial history.events) (few : length history.initial ≤ MAX_INITIAL)
    (emptiness : Emptiness) where
  abbrev whole : Contents
  whole = contents_of history

  abbrev first_selection : HistoryView
  first_selection = record {
    initial = filter (counts_for whole Initial) history.initial;
    events = events_kept history.initial history.events complete (counts_for whole Initial) (selects (counts_for whole Initial) (λ call. judges_empties emptiness));
  }

  first_operations : operations_of first_selection.events
      ≡ filter (selects (counts_for whole Initial) (λ call. judges_empties emptiness)) (operations_of history.events)
  first_operations = operations_kept history.initial history.events complete (counts_for whole Initial) (selects (counts_for whole Initial) (λ call. judges_empties emptiness))

  first_contents : contents_of first_selection ≡ selection_of emptiness Initial whole
  first_contents = λ i. record { initial = first_selection.initial; operations = first_operations i }

  -- its selection is linearizable if that of the initial values is
  pub idle_is_linearizable : (t : ℕ) → has_values whole (Thread t) ≡ false
      → AreLinearizable (selection_of emptiness Initial whole)
      → AreLinearizable (selection_of emptiness (Thread t) whole)
  idle_is_linearizable t none linearizable =
      let shorter = no_longer (counts_for whole Initial) history.initial in
      let stays = selections_stay_linearizable (is_nobodys whole) (λ call. judges_empties emptiness) first_selection
      (kept_is_complete_from history.initial history.events complete (counts_for whole Initial) (selects (counts_for whole Initial) (λ call. judges_empties emptiness)))
      (omega arith) (subst AreLinearizable (sym first_contents) linearizable) in
      subst AreLinearizable (ap (select (is_nobodys whole) (λ call. judges_empties emptiness)) first_contents ∙ selection_within whole t none emptiness) stays

  -- a thread beyond the greatest enqueues nothing
  pub none_beyond : (t : ℕ) → MAX_THREADS ≤ t → has_values whole (Thread t) ≡ false
  none_beyond t beyond = elim (cases_Bool (has_values whole (Thread t))) [
    | inr none ↦ none
    | inl some ↦
        let any = Any-from_list_any (enqueues_in t) whole.operations some in
        let thread = eqb-true any.1.thread t (and_left (nat_eq any.1.thread t) (is_some (enqueued_value any.1.kind)) any.4) in
        let trace = traced history.events any.1 (any.0, any.2, any.3) in
        let within = All-contains (λ e. e.thread ≤ MAX_THREAD) history.events trace.call complete.complete.threads_in_range
        (contains_at history.events trace.called_at trace.call trace.at_call) in
        absurd (omega (arith, thread, trace.made.same_thread, within, beyond))
  ]

  -- ---- one producer after another

  long_enough : length all_producers ≡ PRODUCERS
  long_enough = refl

  abbrev HasOne : LocalOrder → Type 0
  HasOne x = IsDecidedOf whole (selection_of emptiness x.producer whole) (Yes x.order)

  producers_further : (k : ℕ) (b : Bool) → k < PRODUCERS → has_values whole (ranked k) ≡ b
      → filter (has_values whole) (take (k + 1) all_producers) ≡ filter (has_values whole) (take k all_producers)
      ++ cond b (ranked k ∷ []) []
  producers_further k b below is =
      ap (filter (has_values whole)) (take_more all_producers k Initial (omega (arith, below, long_enough)))
      ∙ filter-append (has_values whole) (take k all_producers) (get_or all_producers k Initial ∷ [])
      ∙ ap (λ (p : Producer). filter (has_values whole) (take k all_producers) ++ filter (has_values whole) (p ∷ [])) (rank_stands k below)
      ∙ ap (λ (b : Bool). filter (has_values whole) (take k all_producers) ++ cond b (ranked k ∷ []) []) is

  further : (rank : ℕ) (P : ℕ → Type 0) → ((k : ℕ) → k < rank → P k) → P rank → (k : ℕ) → k < rank + 1 → P k
  further rank P before here k below = elim (cases_lt k rank) [
    | inl less ↦ before k less
    | inr more ↦ subst P (let e : rank ≡ k = omega arith in e) here
  ]

  pub judged_more : (used : List Bool) (rank : ℕ) (p : Producer) (order : List ℕ) (orders now : List LocalOrder)
      → AreMarked whole.operations used
      → rank < PRODUCERS → get_or used rank false ≡ true → p ≡ ranked rank
      → IsDecidedOf whole (selection_of emptiness p whole) (Yes order)
      → now ≡ orders ++ record { producer = p; order = order } ∷ [] → AreJudged emptiness whole rank orders
      → AreJudged emptiness whole (rank + 1) now
  judged_more used rank p order orders now marked below in_use is_ranked decided is_now judged =
      let x : LocalOrder = record { producer = p; order = order } in record {
        linearizable = further rank (λ k. AreLinearizable (selection_of emptiness (ranked k) whole)) judged.linearizable
            (subst (λ q. AreLinearizable (selection_of emptiness q whole)) is_ranked decided.exact);
        producers =
            ap (map (λ (y : LocalOrder). y.producer)) is_now ∙ map-append (λ (y : LocalOrder). y.producer) orders (x ∷ [])
            ∙ ap₂ (λ (ps : List Producer) (q : Producer). ps ++ q ∷ []) judged.producers is_ranked
            ∙ sym (producers_further rank true below (sym (used_is whole used rank marked below) ∙ in_use));
        decided = subst (All HasOne) (sym is_now) (All-append HasOne orders (x ∷ []) judged.decided (All-cons HasOne x [] decided (All-nil HasOne)));
      }

  pub judged_same : (used : List Bool) (rank : ℕ) (orders now : List LocalOrder) → AreMarked whole.operations used
      → rank < PRODUCERS
      → get_or used rank false ≡ false → now ≡ orders → AreJudged emptiness whole rank orders
      → AreJudged emptiness whole (rank + 1) now
  judged_same used zero orders now marked below idle is_now judged = let clash : true ≡ false = sym marked.initial ∙ idle in cc
  judged_same used (suc t) orders now marked below idle is_now judged =
      let none : has_values whole (Thread t) ≡ false = sym (used_is whole used (suc t) marked below) ∙ idle in record {
        linearizable = further (suc t) (λ k. AreLinearizable (selection_of emptiness (ranked k) whole)) judged.linearizable
            (idle_is_linearizable t none (judged.linearizable 0 (omega arith)));
        producers =
            ap (map (λ (y : LocalOrder). y.producer)) is_now ∙ judged.producers
            ∙ sym (producers_further (suc t) false below none ∙ append-nil (filter (has_values whole) (take (suc t) all_producers)));
        decided = subst (All HasOne) (sym is_now) judged.decided;
      }

  -- the first selection that isn't linearizable
  pub first_refuted : (rank : ℕ) (p : Producer) (violation : Violation) (orders : List LocalOrder) → p ≡ ranked rank
      → IsDecidedOf whole (selection_of emptiness p whole) (No violation) → AreJudged emptiness whole rank orders
      → IsFirstRefuted emptiness whole p violation
  first_refuted rank p violation orders is_ranked decided judged = record {
    decided = decided;
    first = λ q before. earlier rank q judged.linearizable (subst (ComesBefore q) is_ranked before);
  }
    where
      earlier : (rank : ℕ) (q : Producer)
          → ((k : ℕ) → k < rank → AreLinearizable (selection_of emptiness (ranked k) whole))
          → ComesBefore q (ranked rank)
          → AreLinearizable (selection_of emptiness q whole)
      earlier zero Initial known before = absurd before
      earlier zero (Thread s) known before = absurd before
      earlier (suc t) Initial known before = known 0 (omega arith)
      earlier (suc t) (Thread s) known before = known (suc s) (omega (arith, before))

  -- all selections are linearizable
  pub all_judged : (rank : ℕ) (orders : List LocalOrder) → PRODUCERS ≤ rank → AreJudged emptiness whole rank orders
      → AreLocalOrders emptiness whole orders
  all_judged rank orders past judged = record {
    linearizable = each;
    producers = judged.producers ∙ ap (filter (has_values whole)) (take_all rank all_producers (omega (arith, past, long_enough)));
    decided = judged.decided;
  }
    where
      each : (p : Producer) → AreLinearizable (selection_of emptiness p whole)
      each Initial = judged.linearizable 0 (omega arith)
      each (Thread t) = elim (cases_lt t MAX_THREADS) [
        | inl below ↦ judged.linearizable (suc t) (omega arith)
        | inr beyond ↦ idle_is_linearizable t (none_beyond t beyond) (judged.linearizable 0 (omega arith))
      ]

  pub judged_first : AreJudged emptiness whole 0 []
  judged_first = record { linearizable = λ k below. absurd (omega arith); producers = refl; decided = All-nil HasOne }

-- ---- places of selections

-- the places of a producer's selection
pub places_of_rank : (emptiness : Emptiness) (whole : Contents) (used : List Bool) (buckets : List (List ℕ)) (rank : ℕ)
    (p : Producer) (item listed : List ℕ)
    → AreSharedOut emptiness whole used buckets → rank < PRODUCERS → get_or used rank false ≡ true → p ≡ ranked rank → item ≡ get_or buckets rank item
    → listed ≡ item → ArePlacesOf whole.operations listed (selection_of emptiness p whole).operations
places_of_rank emptiness whole used buckets rank p item listed shared below in_use is_ranked at is_listed =
    subst (λ q. ArePlacesOf whole.operations listed (selection_of emptiness q whole).operations) (sym is_ranked)
    (subst (λ ps. ArePlacesOf whole.operations ps (selection_of emptiness (ranked rank) whole).operations)
    (sym (is_listed ∙ at ∙ get_or_default buckets rank item [] (omega (arith, shared.one_each)))) (shared.places rank below in_use))

-- the initial values of a producer's selection have the places that they have in the whole
pub initial_places : (whole : Contents) (p : Producer) (i : ℕ) → i < length (filter (counts_for whole p) whole.initial)
    → slice_get whole.initial i ≡ slice_get (filter (counts_for whole p) whole.initial) i
initial_places whole Initial i below = ap (λ vs. slice_get vs i) (sym (initial_selected whole Initial))
initial_places whole (Thread t) i below = absurd (omega (arith, below, ap (λ (vs : List ℕ). length vs) (initial_selected whole (Thread t))))
