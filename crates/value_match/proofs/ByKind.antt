-- The operations sorted by kind, in a walk over them.
use Rattle.value_match.proofs.Common.{[], All, All-get_or, All-push, ap, append-nil, Bool, cases_Bool, cond}
use Rattle.value_match.proofs.Common.{cons_option, contains_at, dequeue_of, Enqueue, enqueue_of, filter, filter-append}
use Rattle.value_match.proofs.Common.{filter_map, filter_map-append, find, get_or, get_or-map, get_or_from_slice_get}
use Rattle.value_match.proofs.Common.{HasPlaces, IfSome, inl, inr, is_dequeue_of, is_empty_answer, is_failed, IsAt}
use Rattle.value_match.proofs.Common.{IsClear, IsDequeuePlace, IsMaybeAt, length, length-map, Life, life_from, List}
use Rattle.value_match.proofs.Common.{map, map-append, maybe_operation_at, None, on, one_at, Operation, operation_at}
use Rattle.value_match.proofs.Common.{Option, Pair, PlacedLife, refl, slice_get, slice_get_within, Some, subst, sym}
use Rattle.value_match.proofs.Common.{take, value_at, ℕ, ◌++◌, ◌+◌, ◌<◌, ◌∙◌, ◌∷◌, ◌≡◌}
use Rattle.value_match.proofs.RepeatedDequeues.{found_at_place}
use Rattle.value_match.proofs.Lists.{one_more}

-- the first n operations by kind
pub record IsByKind (operations : List Operation) (n : ℕ) (values : List PlacedLife)
    (empties failed : List ℕ) : Type 0 where
  pub lives : map (λ m. m.life) values ≡ filter_map (λ o. life_from operations o o.kind) (take n operations)
  pub places : All (HasPlaces operations) values
  pub empty_answers : map (slice_get operations) empties ≡ map Some (filter is_empty_answer (take n operations))
  pub failed_enqueues : map (slice_get operations) failed ≡ map Some (filter is_failed (take n operations))

-- ---- one more operation

taken_more : (operations : List Operation) (i : ℕ) (o : Operation) → IsAt operations i o
    → take (i + 1) operations ≡ take i operations ++ o ∷ []
taken_more operations i o here = one_more operations i o (slice_get_within operations i o here) (sym (get_or_from_slice_get operations i o o here))

lives_more : (operations : List Operation) (i : ℕ) (o : Operation) (life : Option Life) (lives : List Life)
    → IsAt operations i o
    → life_from operations o o.kind ≡ life
    → lives ≡ filter_map (λ o. life_from operations o o.kind) (take i operations)
    → lives ++ cons_option life [] ≡ filter_map (λ o. life_from operations o o.kind) (take (i + 1) operations)
lives_more operations i o life lives here is known =
    rw (known, taken_more operations i o here, filter_map-append, is) refl

module _ (operations : List Operation) (i : ℕ) (o : Operation) (values : List PlacedLife) (empties failed : List ℕ) (here : IsAt operations i o)
    (known : IsByKind operations i values empties failed) where
  -- the places of the operations that pass a test, with this one if it passes
  places_more : (test : Operation → Bool) (places : List ℕ)
      → map (slice_get operations) places ≡ map Some (filter test (take i operations))
      → map (slice_get operations) (cond (test o) (places ++ i ∷ []) places)
      ≡ map Some (filter test (take (i + 1) operations))
  places_more test places known' = rw (taken_more operations i o here, filter-append) (elim (cases_Bool (test o)) [
    | inl is ↦ rw (is, map-append, known', here, map-append) refl
    | inr is ↦ rw (is, append-nil) known'
  ])

  -- one more successful enqueue, with its dequeue
  pub sorted_enqueue : (v : ℕ) (m : PlacedLife) (place : Option ℕ) → o.kind ≡ Enqueue v
      → IsAt operations i (enqueue_of m.life)
      → IsMaybeAt operations place (dequeue_of m.life) → (m.enqueue ≡ i) × (m.dequeue ≡ place)
      → IsClear (on operations) → IsDequeuePlace operations v place
      → IsByKind operations (i + 1) (values ++ m ∷ []) empties failed
  sorted_enqueue v m place is enqueue dequeue named clear from = record {
    lives = map-append (λ m. m.life) values (m ∷ []) ∙ lives_more operations i o (Some m.life) (map (λ m. m.life) values) here life known.lives;
    places = All-push (HasPlaces operations) values m known.places (
      subst (λ p. IsAt operations p (enqueue_of m.life)) (sym named.0) enqueue,
      subst (λ p. IsMaybeAt operations p (dequeue_of m.life))
          (sym named.1) dequeue,
    );
    empty_answers = rw is at (places_more is_empty_answer empties known.empty_answers);
    failed_enqueues = rw is at (places_more is_failed failed known.failed_enqueues);
  }
    where
      found : dequeue_of m.life ≡ find (is_dequeue_of v) operations
      found = found_at_place operations o v place (dequeue_of m.life) clear (contains_at operations i o here, is) from dequeue

      life : life_from operations o o.kind ≡ Some m.life
      life =
          let same : o ≡ enqueue_of m.life = one_at operations i o (enqueue_of m.life) here enqueue in
          let made : ◌≡◌ {A = Life} (record { enqueue = o; dequeue = find (is_dequeue_of v) operations }) m.life =
          λ t. record { enqueue = same t; dequeue = sym found t } in
          subst (λ kind. life_from operations o kind ≡ Some m.life) (sym is) (ap (λ l. Some l) made)

  -- one more operation that is no successful enqueue; a dequeue adds nothing, since it is listed with its enqueue
  pub sorted_other : life_from operations o o.kind ≡ None
      → IsByKind operations (i + 1) values (cond (is_empty_answer o) (empties ++ i ∷ []) empties)
      (cond (is_failed o) (failed ++ i ∷ []) failed)
  sorted_other none = record {
    lives = sym (append-nil (map (λ m. m.life) values)) ∙ lives_more operations i o None (map (λ m. m.life) values) here none known.lives;
    places = known.places;
    empty_answers = places_more is_empty_answer empties known.empty_answers;
    failed_enqueues = places_more is_failed failed known.failed_enqueues;
  }

-- ---- pairs

read_back : (operations : List Operation) (place : ℕ) (o : Operation) → IsAt operations place o
    → operation_at operations place ≡ o
read_back operations place o at = get_or_from_slice_get operations place o _ at

-- the enqueue of a pair is that at its place
pub pair_enqueue : (operations : List Operation) (i : ℕ) (o : Operation) (pair : Pair) → pair.enqueue ≡ i
    → IsAt operations i o
    → IsAt operations i (enqueue_of (value_at operations pair).life)
pair_enqueue operations i o pair is here = subst (IsAt operations i) (sym (ap (operation_at operations) is ∙ read_back operations i o here)) here

-- the dequeue of a pair is that at its place
pub pair_dequeue : (operations : List Operation) (v : ℕ) (place : Option ℕ) (pair : Pair) → pair.dequeue ≡ place
    → IsDequeuePlace operations v place
    → IsMaybeAt operations place (dequeue_of (value_at operations pair).life)
pair_dequeue operations v None pair is from = rw is tt
pair_dequeue operations v (Some p) pair is from = rw is (subst (IsAt operations p) (sym (read_back operations p from.0 from.1)) from.1)

-- the places of a pair are places of operations
pub pair_within : (operations : List Operation) (pairs : List Pair) (i : ℕ) (pair : Pair)
    → All (HasPlaces operations) (map (value_at operations) pairs) → i < length pairs → pair ≡ get_or pairs i pair
    → (pair.enqueue < length operations) × IfSome pair.dequeue (λ p. p < length operations)
pair_within operations pairs i pair all below is =
    let here : HasPlaces operations (value_at operations pair) =
    subst (HasPlaces operations) (get_or-map (value_at operations) pairs i pair (value_at operations pair) below ∙ ap (value_at operations) (sym is))
    (All-get_or (HasPlaces operations) (map (value_at operations) pairs) i (value_at operations pair)
    (rw (length-map pairs (value_at operations)) below) all) in
    (slice_get_within operations pair.enqueue _ here.0, inside pair.dequeue here.1)
  where
    inside : (place : Option ℕ) → IsMaybeAt operations place (maybe_operation_at operations place)
        → IfSome place (λ p. p < length operations)
    inside None none = tt
    inside (Some p) at = slice_get_within operations p _ at
