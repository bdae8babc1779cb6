-- The values that were noted, after one more.
use Rattle.history_merge.proofs.Common.{[], ap, AreCalledIn, arith, Bool, called_value, called_values, CalledValues}
use Rattle.history_merge.proofs.Common.{calls_initial, cond, cons_option, contains, Contents, enqueue_at}
use Rattle.history_merge.proofs.Common.{enqueued_value, enqueues_from, eqb-true, Event, filter_map-append}
use Rattle.history_merge.proofs.Common.{initial_enqueues, inl, inr, is_among, is_called_in, is_eq, is_initial}
use Rattle.history_merge.proofs.Common.{IsNonDecreasingBy, IsPartitionPoint, Knows, later_by, length, list_any-append}
use Rattle.history_merge.proofs.Common.{LOOSE, ltb, ltb-false, ltb-true, map, name_in, nat_cmp, nat_eq, nat_tests, not}
use Rattle.history_merge.proofs.Common.{Operation, operations_so_far, option_map_or, or_cases, or_comm, ORIGIN, refl}
use Rattle.history_merge.proofs.Common.{repeats_value, suc, sym, take, take-append-le, timeline, was_called, zero}
use Rattle.history_merge.proofs.Common.{◌++◌, ◌+◌, ◌||◌, ◌∙◌, ◌∷◌, ◌≡◌, ◌⊎◌}
use Rattle.std.proofs.Common.{append_assoc, false, get_or, List, true, ℕ, ◌<◌, ◌≤◌}
use Rattle.history_merge.proofs.Distinct.{known_is}
use Rattle.history_merge.proofs.Formed.{called_in_operations}
use Rattle.history_merge.proofs.Timelines.{length_enqueues}

-- ---- a key that isn't among rising keys

-- if the keys before place i are below this one, those from i on aren't, and that at i isn't it, none is
pub none_by_key : {X : Type 0} (key : X → ℕ) (xs : List X) (v i : ℕ) → IsNonDecreasingBy key xs
    → IsPartitionPoint (λ (x : X). ltb (key x) v ≡ true) (λ (x : X). ltb (key x) v ≡ false) xs i
    → ((d : X) → i < length xs → ¬ (key (get_or xs i d) ≡ v)) → (k : ℕ) (d : X) → k < length xs
    → ¬ (key (get_or xs k d) ≡ v)
none_by_key key xs v i rises point differs k d below same =
    let cases : (k < i) ⊎ (i ≤ k) = grind arith in
    elim cases [
      | inl before ↦ let less = ltb-true (key (get_or xs k d)) v (point.0 k d (omega arith) before) in omega (arith, less, same)
      | inr after ↦
          let inside : i < length xs = omega (arith, after, below) in
          let at_least = ltb-false (key (get_or xs i d)) v (point.1 i d (omega arith) inside) in
          let le = rises i k d after below in
          differs d inside (omega (arith, le, at_least, same))
    ]

-- ---- the values that were noted, after one more

-- comparing numbers recognises equal ones
pub is_eq-nat_cmp : (v q : ℕ) → is_eq (nat_cmp v q) ≡ nat_eq v q
is_eq-nat_cmp v q = grind (arith, nat_tests)

-- ---- one more value

-- one more value of a loose name
pub knows_loose : (values : List ℕ) (old new : CalledValues) (v : ℕ) → Knows values old
    → get_or old.least (name_in v) 0 ≡ LOOSE
    → ((q : ℕ) → contains nat_cmp new.loose q ≡ cond (is_eq (nat_cmp v q)) true (contains nat_cmp old.loose q))
    → new.least ≡ old.least
    → Knows (values ++ v ∷ []) new
knows_loose values old new v knows is adds same = grind (arith, or_cases, list_any-append, eqb-true, is_eq-nat_cmp)

-- the set shows whether the value is new
pub repeats_by_set : (added has was : Bool) → added ≡ not has → has ≡ was → not added ≡ was
repeats_by_set added has was is same = grind arith

-- ---- the values that the operations of a timeline called to enqueue

-- the enqueues of the initial values called for these
pub called_in_enqueues : (time : ℕ) (values : List ℕ) (v : ℕ)
    → is_called_in (enqueues_from time values) v ≡ is_among values v
called_in_enqueues time [] v = refl
called_in_enqueues time (w ∷ values) v = ap (λ b. nat_eq w v || b) (called_in_enqueues (time + 1) values v)

-- operations moved later called for the same values
called_in_later : (n : ℕ) (operations : List Operation) (v : ℕ)
    → is_called_in (map (later_by n) operations) v ≡ is_called_in operations v
called_in_later n [] v = refl
called_in_later n (o ∷ operations) v = ap (λ b. option_map_or (λ w. nat_eq w v) (enqueued_value o.kind) false || b) (called_in_later n operations v)

-- the operations of a timeline called for the initial values and those of the events
pub called_in_timeline : (initial : List ℕ) (events : List Event) (operations : List Operation)
    → operations ≡ operations_so_far events
    → AreCalledIn (timeline initial operations) (initial ++ called_values events)
called_in_timeline initial events operations is = λ v.
    list_any-append (λ (o : Operation). option_map_or (λ w. nat_eq w v) (enqueued_value o.kind) false) (initial_enqueues initial)
    (map (later_by ORIGIN) operations)
    ∙ ap (λ b. b || is_called_in (map (later_by ORIGIN) operations) v) (called_in_enqueues _ initial v)
    ∙ ap (λ b. is_initial initial v || b) (called_in_later ORIGIN operations v ∙ ap (λ os. is_called_in os v) is ∙ sym (called_in_operations events v))
    ∙ or_comm (is_initial initial v) (was_called events v) ∙ known_is initial events v

-- whether an event calls for a value that isn't new
pub repeats_is : (initial : List ℕ) (events : List Event) (e : Event)
    → option_map_or (is_among (initial ++ called_values events)) (called_value e.what) false
    ≡ (repeats_value events e || calls_initial initial e)
repeats_is initial events e = grind (arith, known_is initial events)

-- the values after one more event
pub values_more : (initial : List ℕ) (events : List Event) (e : Event)
    → (initial ++ called_values events) ++ cons_option (called_value e.what) [] ≡ initial
    ++ called_values (events ++ e ∷ [])
values_more initial events e = grind (arith, append_assoc, filter_map-append)

-- the first of the initial enqueues are those of the first values
take_enqueues : (time n : ℕ) (values : List ℕ)
    → take n (enqueues_from time values) ≡ enqueues_from time (take n values)
take_enqueues time zero values = refl
take_enqueues time (suc n) [] = refl
take_enqueues time (suc n) (v ∷ values) = ap (λ os. enqueue_at time v ∷ os) (take_enqueues (time + 1) n values)

-- the first operations of a timeline called for the first initial values
pub called_in_front : (view : Contents) (all : List Operation) (n : ℕ) → all ≡ timeline view.initial view.operations
    → n < length view.initial
    → AreCalledIn (take n all) (take n view.initial)
called_in_front view all n is few = grind (arith, length_enqueues, take-append-le, take_enqueues, called_in_enqueues)

-- the operations of a builder called for the values known so far
pub called_so_far : (initial : List ℕ) (events : List Event) (view same : Contents) (all : List Operation)
    → all ≡ timeline view.initial view.operations
    → view ≡ same → same.initial ≡ initial → same.operations ≡ operations_so_far events
    → AreCalledIn all (initial ++ called_values events)
called_so_far initial events view same all is are initial_is operations_are = grind (arith, called_in_timeline)
