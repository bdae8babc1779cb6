-- A violation is determined by its kind and its lines. When lines show a violation of each kind, and when they are a
-- linearization.
use Rattle.verdicts.proofs.Common.{[], AllWithin, ap, AreLives, arith, Bool, CallsRise, cases_lt, ClaimLine, Contains}
use Rattle.verdicts.proofs.Common.{contains_at, Contents, course_of, course_on, covers_are_lives, CoversFrom, Dequeue}
use Rattle.verdicts.proofs.Common.{dequeue_call, dequeue_of, dequeued_if_called, drop, Enqueue, enqueue_of}
use Rattle.verdicts.proofs.Common.{EnqueuedBefore}
use Rattle.verdicts.proofs.Common.{Err, false, flat_map, fresh, get_or, get_or_default, HoldsAt, inl, inr}
use Rattle.verdicts.proofs.Common.{IsBinarySearchResult, IsNonDecreasingBy, IsSearchInRange, IsTrue, length, Life}
use Rattle.verdicts.proofs.Common.{LineDid, lines_of, LinesCover, List, MatchBool, MatchOption, MatchResult, max}
use Rattle.verdicts.proofs.Common.{nat_cmp, nat_tests, NEVER, None, NoneDid, Ok, on, Operation, operations_of_life}
use Rattle.verdicts.proofs.Common.{OpKind, Option, option_to_list, order, place_of, Precedes, refl, repeat, Result}
use Rattle.verdicts.proofs.Common.{slice_get, Some, suc, sym, timeline, true, witness, zero, ℕ, ⊤, ◌++◌, ◌+◌, ◌-◌, ◌<◌}
use Rattle.verdicts.proofs.Common.{◌↔◌, ◌∙◌, ◌∷◌, ◌≡◌, ◌≢◌, ◌≤◌, ◌⊎◌}
use Rattle.value_match.proofs.Agreeing.{covers_of}
use Rattle.std.proofs.lemmas.Cmp.{ranked}
use Rattle.std.specs.Ordering.{ordering_index}
use Rattle.verdicts.specs.Laws.{LinesTellViolation}
use Rattle.claims.specs.Showing.{ComesBefore}

-- ---- operations looked up by their calls

-- in a list with rising calls, no later operation has a lower call
calls_do_not_fall : (operations : List Operation) (i j : ℕ) (d : Operation) → CallsRise operations → i ≤ j
    → j < length operations
    → (get_or operations i d).call ≤ (get_or operations j d).call
calls_do_not_fall operations i j d rise le within = grind (arith, rise i j d)

comparisons_rise : (operations : List Operation) (call : ℕ) → CallsRise operations
    → IsNonDecreasingBy (λ o. ordering_index (nat_cmp o.call call)) operations
comparisons_rise operations call rise i j d le within = let calls = calls_do_not_fall operations i j d rise le within in grind (arith, nat_tests)

-- a binary search finds the operation with this call, or there is none
pub searched_by_call : (operations : List Operation) (call : ℕ) (r : Result ℕ ℕ) → CallsRise operations
    → IsSearchInRange r (length operations)
    → IsBinarySearchResult (λ o. nat_cmp o.call call) operations r
    → MatchResult r (λ i. (i < length operations) × ((d : Operation) → (get_or operations i d).call ≡ call))
    (λ _. (k : ℕ) (d : Operation) → k < length operations → (get_or operations k d).call ≢ call)
searched_by_call operations call (Ok i) rise in_range equal = (in_range, λ d. ranked _ call _ (sym (equal d)))
searched_by_call operations call (Err i) rise in_range parted =
    let parts = parted (comparisons_rise operations call rise) in
    λ k d within same. elim (cases_lt k i) [
      | inl less ↦ let before : (get_or operations k d).call < call = ranked _ call _ (sym (parts.0 k d (omega arith) less)) in omega arith
      | inr more ↦ let after : call < (get_or operations k d).call = ranked _ call _ (sym (parts.1 k d more within)) in omega arith
    ]

-- operations with the same call have the same place
pub one_place_of_call : (operations : List Operation) (i j : ℕ) (d : Operation) → CallsRise operations
    → i < length operations → j < length operations
    → (get_or operations i d).call ≡ (get_or operations j d).call → i ≡ j
one_place_of_call operations i j d rise within_i within_j same = grind (arith, rise i j d, rise j i d)

-- an operation is in the list if and only if it is at the place of its call
pub stands_at_its_call : (operations : List Operation) (o d : Operation) (i : ℕ) → CallsRise operations
    → i < length operations
    → (get_or operations i d).call ≡ o.call → (get_or operations i d ≡ o) ↔ Contains operations o
stands_at_its_call operations o d i rise within same = (
  λ here. (i, within, sym (get_or_default operations i d o within) ∙ here),
  λ among.
      let there : get_or operations among.0 d ≡ o = sym (get_or_default operations among.0 o d among.1) ∙ among.2 in
      let place = one_place_of_call operations i among.0 d rise within among.1 (same ∙ sym (ap (λ x. x.call) there)) in
      ap (λ k. get_or operations k d) place ∙ there,
)

-- testing each operation shows whether one is of this kind
pub none_did_from_cases : (operations : List Operation) (kind : OpKind) (r : Bool)
    → MatchBool r (AllWithin (λ o. o.kind ≡ kind → ⊥) operations 0 (length operations))
    ((k : ℕ) × (k < length operations) × HoldsAt (λ o. o.kind ≡ kind) operations k) → IsTrue r ↔ NoneDid operations kind
none_did_from_cases operations kind true none = (λ t o among did. none among.0 o (omega arith) among.1 (ap (λ x. x.kind) among.2 ∙ did), λ n. refl)
none_did_from_cases operations kind false some = (
  λ f. cc,
  λ none. absurd (none (get_or operations some.0 nobody) (some.0, some.1, get_or_default operations some.0 _ nobody some.1) (some.2 nobody)),
)
  where
    nobody : Operation
    nobody = record { call = 0; ret = 0; thread = 0; kind = kind }

-- the lines of lives don't begin with a dequeue
no_dequeue_first : (d : Operation) (rest : List Operation) (cover : List Life) (v : ℕ) → d.kind ≡ Dequeue v
    → AreLives cover
    → d ∷ rest ≡ flat_map operations_of_life cover → ⊥
no_dequeue_first d rest [] v is lives same = absurd (cc)
no_dequeue_first d rest (life ∷ cover) v is lives same =
    let one : d ≡ enqueue_of life = cc in
    let clash : Dequeue v ≡ Enqueue lives.0.0 = sym is ∙ ap (λ (o : Operation). o.kind) one ∙ lives.0.1 in
    cc

one_dequeue : (d d' : Option Operation) (xs ys : List Life) → MatchOption d ⊤ (λ d. (v : ℕ) × (d.kind ≡ Dequeue v))
    → MatchOption d' ⊤ (λ d. (v : ℕ) × (d.kind ≡ Dequeue v)) → AreLives xs → AreLives ys
    → option_to_list d ++ flat_map operations_of_life xs ≡ option_to_list d' ++ flat_map operations_of_life ys
    → (d ≡ d') × (flat_map operations_of_life xs ≡ flat_map operations_of_life ys)
one_dequeue None None xs ys is is' lives lives' same = (refl, same)
one_dequeue None (Some d') xs ys is is' lives lives' same = absurd (no_dequeue_first d' (flat_map operations_of_life ys) xs is'.0 is'.1 lives (sym same))
one_dequeue (Some d) None xs ys is is' lives lives' same = absurd (no_dequeue_first d (flat_map operations_of_life xs) ys is.0 is.1 lives' same)
one_dequeue (Some d) (Some d') xs ys is is' lives lives' same =
    let one : d ≡ d' = cc in let rest : flat_map operations_of_life xs ≡ flat_map operations_of_life ys = cc in (ap (λ o. Some o) one, rest)

one_cover : (xs ys : List Life) → AreLives xs → AreLives ys
    → flat_map operations_of_life xs ≡ flat_map operations_of_life ys → xs ≡ ys
one_cover [] [] lives lives' same = refl
one_cover (x ∷ xs) (y ∷ ys) lives lives' same =
    let enqueues : enqueue_of x ≡ enqueue_of y = cc in
    let later : option_to_list (dequeue_of x) ++ flat_map operations_of_life xs ≡ option_to_list (dequeue_of y) ++ flat_map operations_of_life ys = cc in
    let both = one_dequeue (dequeue_of x) (dequeue_of y) xs ys lives.1 lives'.1 lives.2 lives'.2 later in
    let rest = one_cover xs ys lives.2 lives'.2 both.1 in
    λ i. record { enqueue = enqueues i; dequeue = both.0 i } ∷ rest i
one_cover _ _ lives lives' same = cc

one_maybe : (d d' : Option Operation) → option_to_list d ≡ option_to_list d' → d ≡ d'
one_maybe None None same = refl
one_maybe (Some d) (Some d') same = cc
one_maybe _ _ same = cc

-- pairs of values with the same lines are equal, if the second value of each is dequeued
one_pair : (a b a' b' : Life) → dequeue_call b < NEVER → dequeue_call b' < NEVER
    → lines_of (order a b) ≡ lines_of (order a' b') → order a b ≡ order a' b'
one_pair a b a' b' called called' lines =
    let (d, at) = dequeued_if_called b called in
    let (d', at') = dequeued_if_called b' called' in
    let first : enqueue_of a ≡ enqueue_of a' = cc in
    let second : enqueue_of b ≡ enqueue_of b' = cc in
    let rest : option_to_list (dequeue_of b) ++ option_to_list (dequeue_of a) ≡ option_to_list (dequeue_of b') ++ option_to_list (dequeue_of a') = cc in
    let named : d ∷ option_to_list (dequeue_of a) ≡ d' ∷ option_to_list (dequeue_of a') = rw (at, at') at rest in
    let one : dequeue_of b ≡ dequeue_of b' = at ∙ ap (λ o. Some o) (cc) ∙ sym at' in
    let last = one_maybe (dequeue_of a) (dequeue_of a') (cc) in
    λ i. order (record { enqueue = first i; dequeue = last i }) (record { enqueue = second i; dequeue = one i })

cover_lives : (history : Contents) (empty : Operation) (cover : List Life)
    → CoversFrom (course_of history) empty empty.call cover → AreLives cover
cover_lives history empty cover covers = covers_are_lives (timeline history.initial history.operations) empty empty.call cover
    (covers_of (course_of history) (on (timeline history.initial history.operations)) (course_on history.initial history.operations) empty empty.call cover covers)

-- violations of one kind with the same lines are equal
pub lines_tell_violation : LinesTellViolation
lines_tell_violation history other (fresh deq enq) (fresh deq' enq') is is' kinds lines = let last = one_maybe enq enq' (cc) in cc
lines_tell_violation history other (repeat enq first second) (repeat enq' first' second') is is' kinds lines = cc
lines_tell_violation history other (order a b) (order a' b') is is' kinds lines = one_pair a b a' b' is.is_dequeued is'.is_dequeued lines
lines_tell_violation history other (witness empty cover) (witness empty' cover') is is' kinds lines =
    let one : empty ≡ empty' = cc in
    let later : flat_map operations_of_life cover ≡ flat_map operations_of_life cover' = cc in
    let covers = one_cover cover cover' (cover_lives history empty cover is.covers) (cover_lives other empty' cover' is'.covers) later in
    cc
lines_tell_violation history other _ _ is is' kinds lines = cc

-- equivalence is transitive
pub through : {P Q R : Type 0} → P ↔ Q → Q ↔ R → P ↔ R
through first second = (λ p. second.0 (first.0 p), λ r. first.1 (second.1 r))

-- ---- initial values in their order

get_drop : (values : List ℕ) (n i : ℕ) → slice_get (drop n values) i ≡ slice_get values (n + i)
get_drop [] zero i = refl
get_drop [] (suc n) i = refl
get_drop (v ∷ values) zero i = let same : i ≡ 0 + i = omega arith in ap (slice_get (v ∷ values)) same
get_drop (v ∷ values) (suc n) i = let same : suc (n + i) ≡ suc n + i = omega arith in get_drop values n i ∙ ap (slice_get (v ∷ values)) same

-- a value is after the first place of another if and only if it comes after it
pub comes_after_first : (values : List ℕ) (v w place : ℕ) → slice_get values place ≡ Some v
    → ((i : ℕ) → i < place → slice_get values i ≢ Some v)
    → Contains (drop (place + 1) values) w ↔ ComesBefore values v w
comes_after_first values v w place at none = (
  λ among.
      let there = place_of (drop (place + 1) values) w among in
      (place, place + 1 + there.0, omega arith, at, sym (get_drop values (place + 1) there.0) ∙ there.1),
  λ (i, j, less, at_i, at_j). elim (cases_lt i place) [
    | inl early ↦ absurd (none i early at_i)
    | inr late ↦ contains_at (drop (place + 1) values) (j - (place + 1)) w
        (get_drop values (place + 1) (j - (place + 1)) ∙ ap (slice_get values) (omega arith) ∙ at_j)
  ],
)

-- ---- the walk along the lines of a cover

-- lines with a further value are a cover if and only if the later ones are
pub more_lines_cover : (initial : List ℕ) (operations : List Operation) (empty line : ClaimLine)
    (lines : List ClaimLine) (d : ClaimLine)
    → 3 ≤ length lines
    → ((v : ℕ) × EnqueuedBefore initial operations line (get_or lines 0 d) v × LineDid initial operations (get_or lines 1 d) (Dequeue v))
    → LinesCover initial operations empty (get_or lines 1 d) (drop 2 lines) ↔ LinesCover initial operations empty line lines
more_lines_cover initial operations empty line (l ∷ m ∷ n ∷ lines) d long (v, enters, leaves) =
    (λ covers. (v, enters, leaves, covers), λ (w, enters', leaves', covers). covers)
more_lines_cover initial operations empty line _ d long over = absurd (omega arith)

-- ---- precedence

-- none of the first n lines precedes an earlier one, and `greatest` is the greatest call among them
pub record HasExtended (lines : List Operation) (n greatest : ℕ) : Type 0 where
  pub none_precedes : (i j : ℕ) (d : Operation) → i < j → j < n → ¬ (Precedes (get_or lines j d) (get_or lines i d))
  pub at_most : (k : ℕ) (d : Operation) → k < n → (get_or lines k d).call ≤ greatest
  pub is_one : (greatest ≡ 0) ⊎ ((k : ℕ) × (k < n) × ((d : Operation) → (get_or lines k d).call ≡ greatest))

-- one more line, which extends precedence
pub extended_at : (lines : List Operation) (n greatest : ℕ) (e : Operation) → n < length lines
    → greatest ≤ (get_or lines n e).ret
    → HasExtended lines n greatest → HasExtended lines (n + 1) (max greatest (get_or lines n e).call)
extended_at lines n greatest e within past h = record { none_precedes = none; at_most = below; is_one = one }
  where
    line : Operation
    line = get_or lines n e

    here : (d : Operation) → get_or lines n d ≡ line
    here d = get_or_default lines n d e within

    none : (i j : ℕ) (d : Operation) → i < j → j < n + 1 → ¬ (Precedes (get_or lines j d) (get_or lines i d))
    none i j d less within before = grind (arith, h.none_precedes i j d less, h.at_most i d, here d)

    below : (k : ℕ) (d : Operation) → k < n + 1 → (get_or lines k d).call ≤ max greatest line.call
    below k d within = grind (arith, h.at_most k d, here d)

    one : (max greatest line.call ≡ 0)
        ⊎ ((k : ℕ) × (k < n + 1) × ((d : Operation) → (get_or lines k d).call ≡ max greatest line.call))
    one = elim (cases_lt greatest line.call) [
      | inl less ↦ inr (n, omega arith, λ d. rw (here d) (omega arith))
      | inr more ↦ elim h.is_one [
        | inl none ↦ inl (omega arith)
        | inr found ↦ inr (found.0, omega (arith, found.1), λ d. let known = found.2 d in omega arith)
      ]
    ]
