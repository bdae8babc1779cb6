-- Selections of selections: which conditions are weaker than others, and minimal histories for them.
use Rattle.std.proofs.Common.{◌≡◌, ◌≢◌, ℕ, ◌≤◌, Bool, true, false, cond, List, [], ◌∷◌, length}
use Rattle.std.proofs.Common.{Option, Some, None, refl, ap, sym, subst, ◌∙◌, arith}
use Rattle.std.specs.Prelude.{filter, find, nat_eq, option_map, if◌then◌else◌}
use Rattle.std.specs.List.{list_any}
use Rattle.std.specs.Option.{option_map_or}
use Rattle.std.proofs.lemmas.Bool.{eqb-true}
use Rattle.event_records.specs.declared.limits.TheConstants.{MAX_INITIAL}
use Rattle.history_merge.specs.declared.operation.Operation.{Operation}
use Rattle.history_merge.specs.declared.operation.OpKind.{OpKind}
use Rattle.history_merge.specs.declared.operation.OpKind.TheVariants.{Dequeue, DequeueEmpty, Enqueue, EnqueueFailed}
use Rattle.history_merge.specs.Faults.{is_initial}
use Rattle.history_merge.specs.Initial.{Contents, HistoryView, IsCompleteFrom}
use Rattle.history_merge.specs.Operations.{enqueued_value, operations_of}
use Rattle.value_match.proofs.Lists.{passed_filter}
use Rattle.verdicts.specs.Selection.{AreLinearizable, contents_of, IsMinimal, IsValueClosed, select, selects, value_of}
use Rattle.verdicts.proofs.NamedLines.{selects_as_call, selects_as_value}
use Rattle.history_merge.proofs.Lists.{no_longer}
use Rattle.verdicts.proofs.Selections.{events_kept, kept_is_complete_from, operations_kept}
use Rattle.conditions.specs.declared.producer.Emptiness.{Emptiness}
use Rattle.conditions.specs.declared.producer.Emptiness.TheVariants.{Strict, Weak}
use Rattle.conditions.specs.declared.producer.Producer.{Producer}
use Rattle.conditions.specs.declared.producer.Producer.TheVariants.{Initial, Thread}
use Rattle.conditions.specs.Conditions.{counts_for, enqueues, is_producer}
use Rattle.conditions.specs.Conditions.{judges_empties, producer_of, selection_of, without_empties}
use Rattle.conditions.specs.Laws.{BothAreWeakest, StaysLocallyMinimal, StaysWeaklyMinimal}
use Rattle.conditions.proofs.Producing.{kept_each, value_told}
use Rattle.conditions.proofs.Twice.{filtered_twice}
use Rattle.conditions.proofs.Weaker.{selections_stay_linearizable}

-- ---- a selection of a linearizable selection

module _ (history : HistoryView) (complete : IsCompleteFrom history.initial history.events) (few : length history.initial ≤ MAX_INITIAL)
    (values empties : ℕ → Bool) where
  abbrev pub selected : HistoryView
  selected = record {
    initial = filter values history.initial;
    events = events_kept history.initial history.events complete values (selects values empties);
  }

  selected_operations : operations_of selected.events ≡ filter (selects values empties) (operations_of history.events)
  selected_operations = operations_kept history.initial history.events complete values (selects values empties)

  pub selected_contents : contents_of selected ≡ select values empties (contents_of history)
  selected_contents = λ i. record { initial = selected.initial; operations = selected_operations i }

  -- a selection of a linearizable selection is linearizable
  pub stays_linearizable : (more others : ℕ → Bool) → AreLinearizable (select values empties (contents_of history))
      → AreLinearizable (select more others (select values empties (contents_of history)))
  stays_linearizable more others linearizable =
      let shorter = no_longer values history.initial in
      subst AreLinearizable (ap (select more others) selected_contents)
      (selections_stay_linearizable more others selected (kept_is_complete_from history.initial history.events complete values (selects values empties)) (omega arith)
      (subst AreLinearizable (sym selected_contents) linearizable))

-- ---- with weak emptiness

-- a strict selection without empty dequeues is a weak one
weak_by_value : (whole : Contents) (p : Producer) (w : Option ℕ) → option_map_or (counts_for whole p) w false
    ≡ cond (option_map_or (counts_for whole p) w true) (option_map_or (λ v. true) w false) false
weak_by_value whole p None = refl
weak_by_value whole p (Some v) = by_test (counts_for whole p v)
  where
    by_test : (b : Bool) → b ≡ cond b true false
    by_test true = refl
    by_test false = refl

weak_of_strict : (whole : Contents) (p : Producer)
    → without_empties (selection_of Strict p whole) ≡ selection_of Weak p whole
weak_of_strict whole p =
    let values = filtered_twice (λ v. true) (counts_for whole p) (counts_for whole p) whole.initial (λ v. weak_by_value whole p (Some v)) in
    let operations = filtered_twice (selects (λ v. true) (λ call. false)) (selects (counts_for whole p) (λ call. true))
    (selects (counts_for whole p) (λ call. false)) whole.operations (λ o. weak_by_value whole p (value_of o.kind)) in
    λ i. record { initial = values i; operations = operations i }

both_by_value : (whole : Contents) (p : Producer) (w : Option ℕ) → option_map_or (counts_for whole p) w false
    ≡ cond (option_map_or (λ v. true) w false) (option_map_or (counts_for whole p) w false) false
both_by_value whole p None = refl
both_by_value whole p (Some v) = refl

weak_of_weak : (whole : Contents) (p : Producer)
    → select (counts_for whole p) (λ call. false) (without_empties whole) ≡ selection_of Weak p whole
weak_of_weak whole p =
    let values = filtered_twice (counts_for whole p) (λ v. true) (counts_for whole p) whole.initial (λ v. refl) in
    let operations = filtered_twice (selects (counts_for whole p) (λ call. false)) (selects (λ v. true) (λ call. false))
    (selects (counts_for whole p) (λ call. false)) whole.operations (λ o. both_by_value whole p (value_of o.kind)) in
    λ i. record { initial = values i; operations = operations i }

pub both_are_weakest : BothAreWeakest
both_are_weakest history complete few =
    let whole = contents_of history in (
      λ strict p. subst AreLinearizable (weak_of_strict whole p)
          (stays_linearizable history complete few (counts_for whole p) (λ call. true) (λ v. true) (λ call. false) (strict p)),
      λ weak p. subst AreLinearizable (weak_of_weak whole p)
          (stays_linearizable history complete few (λ v. true) (λ call. false) (counts_for whole p) (λ call. false) weak),
    )

-- ---- minimal histories

-- an element that passes one test is found among those that pass a weaker one as among all
found_alike : {X : Type 0} (p q : X → Bool) (xs : List X) → ((x : X) → p x ≡ true → q x ≡ true)
    → find p (filter q xs) ≡ find p xs
found_alike p q [] keeps = refl
found_alike {X} p q (x ∷ xs) keeps = pick (p x) (q x) refl refl (keeps x) (found_alike p q xs keeps)
  where
    pick : (b c : Bool) → p x ≡ b → q x ≡ c → (p x ≡ true → q x ≡ true) → find p (filter q xs) ≡ find p xs
        → find p (cond c (x ∷ filter q xs) (filter q xs)) ≡ find p (x ∷ xs)
    pick true true is_p is_q kept more = rw is_p refl
    pick true false is_p is_q kept more = let clash : true ≡ false = sym (kept is_p) ∙ is_q in cc
    pick false true is_p is_q kept more = rw is_p more
    pick false false is_p is_q kept more = rw is_p more

any_alike : {X : Type 0} (p q : X → Bool) (xs : List X) → ((x : X) → p x ≡ true → q x ≡ true)
    → list_any p (filter q xs) ≡ list_any p xs
any_alike p q [] keeps = refl
any_alike {X} p q (x ∷ xs) keeps = pick (p x) (q x) refl refl (keeps x) (any_alike p q xs keeps)
  where
    pick : (b c : Bool) → p x ≡ b → q x ≡ c → (p x ≡ true → q x ≡ true) → list_any p (filter q xs) ≡ list_any p xs
        → list_any p (cond c (x ∷ filter q xs) (filter q xs)) ≡ list_any p (x ∷ xs)
    pick true true is_p is_q kept more = rw is_p refl
    pick true false is_p is_q kept more = let clash : true ≡ false = sym (kept is_p) ∙ is_q in cc
    pick false true is_p is_q kept more = rw is_p more
    pick false false is_p is_q kept more = rw is_p more

enqueues_own : (k : OpKind) (v : ℕ) → enqueued_value k ≡ Some v → value_of k ≡ Some v
enqueues_own (Enqueue w) v is = is
enqueues_own (EnqueueFailed w) v is = is
enqueues_own (Dequeue w) v is = cc
enqueues_own DequeueEmpty v is = cc

-- a selected value has the producer that it has in the whole
producer_kept : (values empties : ℕ → Bool) (whole : Contents) (v : ℕ) → values v ≡ true
    → producer_of (select values empties whole) v ≡ producer_of whole v
producer_kept values empties whole v selected =
    let initial : is_initial (filter values whole.initial) v ≡ is_initial whole.initial v =
    any_alike (λ w. nat_eq w v) values whole.initial (λ w same. ap values (eqb-true w v same) ∙ selected) in
    let enqueue : find (enqueues v) (filter (selects values empties) whole.operations) ≡ find (enqueues v) whole.operations =
    found_alike (enqueues v) (selects values empties) whole.operations
    (λ o is. selects_as_value values empties o v (enqueues_own o.kind v (value_told (enqueued_value o.kind) v is)) ∙ selected) in
    ap (λ (b : Bool). (if b then Some Initial else option_map (λ (o : Operation). Thread o.thread) (find (enqueues v)
    (filter (selects values empties) whole.operations)))) initial
    ∙ ap (λ (o : Option Operation). (if is_initial whole.initial v then Some Initial else option_map (λ (o : Operation). Thread o.thread) o)) enqueue

-- a value of a producer's selection counts for the producer in a selection of that
counts_still : (emptiness : Emptiness) (p : Producer) (whole : Contents) (values empties : ℕ → Bool) (v : ℕ)
    → counts_for whole p v ≡ true
    → values v ≡ true → counts_for (select values empties (selection_of emptiness p whole)) p v ≡ true
counts_still emptiness p whole values empties v counts selected =
    ap (λ q. option_map_or (is_producer p) q true)
    (producer_kept values empties (selection_of emptiness p whole) v selected
    ∙ producer_kept (counts_for whole p) (λ call. judges_empties emptiness) whole v counts)
    ∙ counts

-- so its selection from there is all of it
own_selection : (emptiness : Emptiness) (p : Producer) (whole : Contents) (values empties : ℕ → Bool)
    → selection_of emptiness p (select values empties (selection_of emptiness p whole))
    ≡ select values empties (selection_of emptiness p whole)
own_selection emptiness p whole values empties = λ i. record { initial = initial i; operations = operations i }
  where
    part : Contents
    part = selection_of emptiness p whole

    small : Contents
    small = select values empties (selection_of emptiness p whole)

    initial : filter (counts_for (select values empties (selection_of emptiness p whole)) p)
        (filter values (filter (counts_for whole p) whole.initial))
        ≡ filter values (filter (counts_for whole p) whole.initial)
    initial = kept_each (counts_for (select values empties (selection_of emptiness p whole)) p) (filter values (filter (counts_for whole p) whole.initial)) (λ v among.
        let passed = passed_filter values (filter (counts_for whole p) whole.initial) v among in
        counts_still emptiness p whole values empties v (passed_filter (counts_for whole p) whole.initial v passed.0).1 passed.1)

    by_value : (o : Operation) (w : Option ℕ) → value_of o.kind ≡ w → selects values empties o ≡ true
        → selects (counts_for whole p) (λ call. judges_empties emptiness) o ≡ true
        → selects (counts_for (select values empties (selection_of emptiness p whole)) p)
        (λ call. judges_empties emptiness) o ≡ true
    by_value o None is second first =
        selects_as_call (counts_for (select values empties (selection_of emptiness p whole)) p) (λ call. judges_empties emptiness) o is
        ∙ sym (selects_as_call (counts_for whole p) (λ call. judges_empties emptiness) o is) ∙ first
    by_value o (Some v) is second first =
        selects_as_value (counts_for (select values empties (selection_of emptiness p whole)) p) (λ call. judges_empties emptiness) o v is
        ∙ counts_still emptiness p whole values empties v
        (sym (selects_as_value (counts_for whole p) (λ call. judges_empties emptiness) o v is) ∙ first)
        (sym (selects_as_value values empties o v is) ∙ second)

    operations : filter (selects (counts_for (select values empties (selection_of emptiness p whole)) p)
        (λ call. judges_empties emptiness))
        (filter (selects values empties) (filter (selects (counts_for whole p) (λ call. judges_empties emptiness)) whole.operations))
        ≡ filter (selects values empties) (filter (selects (counts_for whole p) (λ call. judges_empties emptiness)) whole.operations)
    operations = kept_each _ (filter (selects values empties) (filter (selects (counts_for whole p) (λ call. judges_empties emptiness)) whole.operations)) (λ o among.
        let passed = passed_filter (selects values empties) (filter (selects (counts_for whole p) (λ call. judges_empties emptiness)) whole.operations) o among in
        by_value o (value_of o.kind) refl passed.1
        (passed_filter (selects (counts_for whole p) (λ call. judges_empties emptiness)) whole.operations o passed.0).1)

-- ---- the laws

-- linearizable selections of a history's selections stay linearizable
others_stay : (small : HistoryView) → IsCompleteFrom small.initial small.events → length small.initial ≤ MAX_INITIAL
    → IsMinimal (contents_of small)
    → (selected : Contents) → IsValueClosed (contents_of small) selected → selected ≢ contents_of small
    → (more others : ℕ → Bool)
    → AreLinearizable (select more others selected)
others_stay small complete few minimal selected closed other more others =
    let linearizable = minimal.1 selected closed other in
    subst (λ c. AreLinearizable (select more others c)) (sym closed.2)
    (stays_linearizable small complete few closed.0 closed.1 more others (subst AreLinearizable closed.2 linearizable))

pub stays_locally_minimal : StaysLocallyMinimal
stays_locally_minimal emptiness p whole small complete few closed minimal = (
  λ local.
      let own : selection_of emptiness p (contents_of small) ≡ contents_of small =
      ap (selection_of emptiness p) closed.2 ∙ own_selection emptiness p whole closed.0 closed.1 ∙ sym closed.2 in
      minimal.0 (subst AreLinearizable own (local p)),
  λ selected part other q. others_stay small complete few minimal selected part other (counts_for selected q) (λ call. judges_empties emptiness),
)

-- a history without empty dequeues loses nothing by leaving them out
none_left : (whole : Contents) (values empties : ℕ → Bool)
    → without_empties (select values empties (without_empties whole)) ≡ select values empties (without_empties whole)
none_left whole values empties =
    let initial = kept_each (λ v. true) (filter values (filter (λ v. true) whole.initial)) (λ v among. refl) in
    let operations = kept_each (selects (λ v. true) (λ call. false)) (filter (selects values empties) (filter (selects (λ v. true) (λ call. false)) whole.operations))
    (λ o among.
    let passed = passed_filter (selects values empties) (filter (selects (λ v. true) (λ call. false)) whole.operations) o among in
    (passed_filter (selects (λ v. true) (λ call. false)) whole.operations o passed.0).1) in
    λ i. record { initial = initial i; operations = operations i }

pub stays_weakly_minimal : StaysWeaklyMinimal
stays_weakly_minimal whole small complete few closed minimal = (
  λ weak.
      let own : without_empties (contents_of small) ≡ contents_of small =
      ap without_empties closed.2 ∙ none_left whole closed.0 closed.1 ∙ sym closed.2 in
      minimal.0 (subst AreLinearizable own weak),
  λ selected part other. others_stay small complete few minimal selected part other (λ v. true) (λ call. false),
)
