-- There is exactly one chosen order.
use Rattle.history_merge.proofs.Timelines.{later_injective}
use Rattle.history_merge.specs.declared.packed.TheConstants.{PACKED_LIMIT}
use Rattle.linearizer.proofs.Common.{Adds, Agree, All, All-cons, All-head, All-nil, All-permutation, All-tail}
use Rattle.linearizer.proofs.Common.{AllPairs, AllPairs-cons, AllZip, ap, ap₂, AreComplete, AreLeastFreeGaps, arith}
use Rattle.linearizer.proofs.Common.{Bool, call_before_return, cases_lt, clear_course, clear_on, cond}
use Rattle.linearizer.proofs.Common.{cons_option, Contains, Contains-permutation, contains_at, contains_cons, Contents}
use Rattle.linearizer.proofs.Common.{Course, course, course_of, Dequeue, dequeue_gap, dequeue_of, dequeue_position}
use Rattle.linearizer.proofs.Common.{dequeues_of, Did, did_dequeue, DequeueEmpty, Enqueue, enqueue_gap, enqueue_of}
use Rattle.linearizer.proofs.Common.{enqueue_position, enqueues, enqueues_of, false, filter, flat_map, get_or}
use Rattle.linearizer.proofs.Common.{get_or-map, get_or_from_slice_get, HoldsNoops, inl, inr, is_empty_answer}
use Rattle.linearizer.proofs.Common.{is_empty_kind, is_failed, is_failed_kind, IsAccepted, IsCalledInRange}
use Rattle.linearizer.proofs.Common.{IsChosenOrder, IsClear, IsLegalOrder, IsLife, IsNonDecreasingBy, IsNoopAt}
use Rattle.linearizer.proofs.Common.{IsOperation, IsPermutation, IsPermutation-append_left, IsPermutation-cons}
use Rattle.linearizer.proofs.Common.{IsPermutation-map, IsPermutation-middle, IsPermutation-refl, IsPermutation-sym}
use Rattle.linearizer.proofs.Common.{IsPermutation-trans, IsPlaced, IsPositionFor, IsPositionOf, IsValueOrder}
use Rattle.linearizer.proofs.Common.{later_by, least_of, length, length-map, Life, List, lives_of, map, MAX_MATCHED}
use Rattle.linearizer.proofs.Common.{NeverFall, no_enqueue, None, noop_answers, noop_at, noop_position, noops_in}
use Rattle.linearizer.proofs.Common.{NoOrderViolation, EnqueueFailed, not_in_none, on, one_deeper, Operation}
use Rattle.linearizer.proofs.Common.{operation_at}
use Rattle.linearizer.proofs.Common.{operation_on, operations_of_life, OpKind, Option, option_map, option_to_list}
use Rattle.linearizer.proofs.Common.{ORIGIN, pairs_at, passed_filter, passes_filter, place_of, placed_in, PLACES}
use Rattle.linearizer.proofs.Common.{Position, Precedes, refl, same_lives, slice_get, slice_get-get_or, slice_get-map}
use Rattle.linearizer.proofs.Common.{Some, StandsBefore, subst, suc, sym, Timed, timed, timeline}
use Rattle.linearizer.proofs.Common.{timeline_of, true, zero, ℕ, [], ◌*◌, ◌++◌, ◌+◌, ◌<◌, ◌∙◌, ◌∷◌, ◌≡◌, ◌≤◌, ◌⊎◌}
use Rattle.linearizer.proofs.Positions.{are_gaps, dequeue_gap_in_window, dequeued_first, enqueue_gap_in_window}
use Rattle.linearizer.proofs.Positions.{has_position, HoldsValue, IsAround, IsDequeued, items_of, life_of_dequeue}
use Rattle.linearizer.proofs.Positions.{life_of_enqueue, one_operation, one_position, one_value}
use Rattle.linearizer.proofs.Elements.{beside_first, beside_second}
use Rattle.linearizer.proofs.Elements.{from_flat_map, none_twice-append, none_twice-filter}
use Rattle.linearizer.proofs.Elements.{none_twice_from_places, NoneTwice, one_place, same_elements_permute, zip_joined}
use Rattle.linearizer.proofs.Elements.{called_in_range, from_some_and, read_at, value_order_along, place_fits}
use Rattle.linearizer.proofs.ValueOrder.{is_life, is_life_at, stands_in_order, values_have_one_order}
use Rattle.linearizer.proofs.ValueOrder.{values_have_order}
use Rattle.linearizer.proofs.Runs.{not_both, run_is_accepted, through}
use Rattle.linearizer.proofs.Times.{IsOf, not_both_kinds, one_life_of_operation, one_place_of_life}
use Rattle.history_merge.proofs.Lists.{at_place, into_flat_map, AllPairs-tail, pairs_map}

-- ---- the chosen order is legal

-- a position lies in the window of its operation, or just before
in_window_for : (operations : List Operation) (lives : List Life) → IsClear (on operations)
    → NoOrderViolation (on operations) → IsValueOrder (on operations) lives
    → (o : Operation) → Contains operations o → (k : OpKind) → o.kind ≡ k → (p : Position)
    → IsPositionFor (on operations) lives o k p → IsAround o p.gap
in_window_for operations lives clear none order o among (Enqueue v) is p stands =
    let window = enqueue_gap_in_window operations lives clear none order stands.0 stands.1 stands.2 in
    subst (λ x. IsAround x p.gap) stands.3 (subst (λ c. IsAround (enqueue_of stands.1) c) (sym (ap (λ p. p.gap) stands.4)) window)
in_window_for operations lives clear none order o among (Dequeue v) is p stands =
    let window = dequeue_gap_in_window operations lives clear none order stands.0 stands.1 o stands.2 stands.3 in
    let gap : p.gap ≡ dequeue_gap lives stands.0 = ap (λ p. p.gap) stands.4 in
    (omega (arith, window.0), omega (arith, window.1))
in_window_for operations lives clear none order o among DequeueEmpty is p stands =
    let gap : p.gap ≡ stands.0 = ap (λ p. p.gap) stands.2 in
    (omega (arith, stands.1.in_window.0), omega (arith, stands.1.in_window.1))
in_window_for operations lives clear none order o among (EnqueueFailed v) is p stands =
    let less = call_before_return operations o clear.complete among (no_enqueue o (EnqueueFailed v) is refl) in
    let gaps : p.gap ≡ o.call = ap (λ p. p.gap) stands in
    (omega arith, omega arith)

module _ (operations order : List Operation) (clear : IsClear (on operations))
    (none : NoOrderViolation (on operations)) (chosen : IsChosenOrder (on operations) order) where
  abbrev lives : List Life
  lives = chosen.lives

  abbrev values : IsValueOrder (on operations) lives
  values = chosen.values_in_order

  is_operation : (o : Operation) → Contains order o → Contains operations o
  is_operation o among = Contains-permutation order operations o (IsPermutation-sym operations order chosen.holds_each_once) among

  position_beside : (o : Operation) → Contains operations o
      → (p : Position) × Contains chosen.positions p × IsPositionOf (on operations) lives o p
  position_beside o among =
      let place = place_of order o (Contains-permutation operations order o chosen.holds_each_once among) in
      let found = beside_first (λ o position. IsPositionOf (on operations) lives o position) order chosen.positions place.0 o chosen.each_has_position place.1 in
      (found.0, contains_at chosen.positions place.0 found.0 found.1, found.2)

  each_enqueue_stands : (i : ℕ) → i < length lives → Contains chosen.positions (enqueue_position lives i)
  each_enqueue_stands i within =
      let x = at_place lives i within in
      let is = is_life_at operations lives i x.0 values x.1 in
      let found = position_beside (enqueue_of x.0) is.1.0 in
      subst (Contains chosen.positions) (one_position operations lives clear values (enqueue_of x.0) (Enqueue is.0) found.0 (enqueue_position lives i)
      (subst (λ k. IsPositionFor (on operations) lives (enqueue_of x.0) k found.0) is.1.1 found.2) (i, x.0, x.1, refl, refl)) found.1

  each_dequeue_stands : (i : ℕ) → i < length lives → IsDequeued lives i
      → Contains chosen.positions (dequeue_position lives i)
  each_dequeue_stands i within (life, d, at, dequeues) =
      let is = is_life_at operations lives i life values at in
      let did = did_dequeue operations life d is dequeues in
      let found = position_beside d did.0 in
      subst (Contains chosen.positions) (one_position operations lives clear values d (Dequeue is.0) found.0 (dequeue_position lives i)
      (subst (λ k. IsPositionFor (on operations) lives d k found.0) did.1 found.2) (i, life, at, dequeues, refl)) found.1

  accepted : IsAccepted [] (map (λ o. o.kind) order)
  accepted =
      run_is_accepted (length lives) (enqueue_gap lives) (dequeue_gap lives) (are_gaps lives) (HoldsValue lives)
      (one_value lives)
      (IsDequeued lives) (dequeued_first operations lives clear none values)
      (map (λ o. o.kind) order) chosen.positions
      (items_of operations lives clear values order chosen.positions is_operation chosen.each_has_position)
      chosen.positions_rise each_enqueue_stands each_dequeue_stands

  extends : (i j : ℕ) (x y : Operation) → i < j → slice_get order i ≡ Some x → slice_get order j ≡ Some y
      → ¬ (Precedes y x)
  extends i j x y below at_x at_y precedes =
      let p = beside_first (λ o position. IsPositionOf (on operations) lives o position) order chosen.positions i x chosen.each_has_position at_x in
      let r = beside_first (λ o position. IsPositionOf (on operations) lives o position) order chosen.positions j y chosen.each_has_position at_y in
      let before = pairs_at StandsBefore chosen.positions i j p.0 r.0 chosen.positions_rise below p.1 r.1 in
      let window_x = in_window_for operations lives clear none values x (is_operation x (contains_at order i x at_x)) x.kind refl p.0 p.2 in
      let window_y = in_window_for operations lives clear none values y (is_operation y (contains_at order j y at_y)) y.kind refl r.0 r.2 in
      let gaps : p.0.gap ≤ r.0.gap = gaps_rise_with p.0 r.0 before in
      omega (arith, window_x.0, window_y.1)
    where
      gaps_rise_with : (p r : Position) → StandsBefore p r → p.gap ≤ r.gap
      gaps_rise_with p r before = grind arith

  legal : IsLegalOrder [] operations order
  legal = record {
    holds_each_once = chosen.holds_each_once;
    extends_precedence = λ i j d below within. extends i j (get_or order i d) (get_or order j d) below (slice_get-get_or order i d (omega arith))
        (slice_get-get_or order j d within);
    is_accepted = accepted;
  }

-- the chosen order is legal
pub chosen_order_is_legal : (operations order : List Operation) → IsClear (on operations)
    → NoOrderViolation (on operations) → IsChosenOrder (on operations) order
    → IsLegalOrder [] operations order
chosen_order_is_legal operations order clear none chosen = legal operations order clear none chosen

-- ---- there is exactly one chosen order

-- two positions are equal, or one comes before the other
compared : (p q : Position) → StandsBefore p q ⊎ ((p ≡ q) ⊎ StandsBefore q p)
compared p q = grind arith

-- the second of two operations with their positions doesn't come before the first
abbrev NotAfter : Operation × Position → Operation × Position → Type 0
NotAfter x y = ¬ (StandsBefore y.1 x.1)

inserted : (z : Operation × Position) (zs : List (Operation × Position)) → AllPairs NotAfter zs
    → (all : List (Operation × Position)) × IsPermutation (z ∷ zs) all × AllPairs NotAfter all
inserted z [] never = (z ∷ [], IsPermutation-refl (z ∷ []), AllPairs-cons NotAfter z [] (All-nil (NotAfter z)) never)
inserted z (x ∷ xs) never =
    let later = λ (k : ℕ) (d : Operation × Position) (within : k < length xs). never zero (suc k) d (omega arith) (omega arith) in
    let decided : StandsBefore x.1 z.1 ⊎ ¬ (StandsBefore x.1 z.1) = grind arith in
    elim decided [
      | inr not ↦ (
        z ∷ x ∷ xs,
        IsPermutation-refl (z ∷ x ∷ xs),
        AllPairs-cons NotAfter z (x ∷ xs) (All-cons (NotAfter z) x xs not (λ k d within. through (get_or xs k d).1 x.1 z.1 (later k d within) not)) never,
      )
      | inl before ↦
          let rest = inserted z xs (AllPairs-tail NotAfter x xs never) in (
            x ∷ rest.0,
            IsPermutation-trans (z ∷ x ∷ xs) (x ∷ z ∷ xs) (x ∷ rest.0) (IsPermutation-middle (z ∷ []) x xs)
                (IsPermutation-cons x (z ∷ xs) rest.0 rest.1),
            AllPairs-cons NotAfter x rest.0
                (All-permutation (NotAfter x) (z ∷ xs) rest.0 rest.1 (All-cons (NotAfter x) z xs (not_both x.1 z.1 before) later)) rest.2,
          )
    ]

sorted_by_position : (zs : List (Operation × Position))
    → (all : List (Operation × Position)) × IsPermutation zs all × AllPairs NotAfter all
sorted_by_position [] = ([], IsPermutation-refl [], λ i j d below within. absurd (omega arith))
sorted_by_position (z ∷ zs) =
    let rest = sorted_by_position zs in
    let all = inserted z rest.0 rest.2 in
    (all.0, IsPermutation-trans (z ∷ zs) (z ∷ rest.0) all.0 (IsPermutation-cons z zs rest.0 rest.1) all.1, all.2)

-- operations with their positions
module _ (R : Operation → Position → Type 0) where
  located : (os : List Operation) → ((o : Operation) → Contains os o → (p : Position) × R o p)
      → (zs : List (Operation × Position)) × (map (λ z. z.0) zs ≡ os) × All (λ z. R z.0 z.1) zs
  located [] each = ([], refl, All-nil (λ z. R z.0 z.1))
  located (o ∷ os) each =
      let here = each o (zero, omega arith, refl) in
      let rest = located os (λ x among. each x (one_deeper o os x among)) in
      ((o, here.0) ∷ rest.0, ap (λ xs. o ∷ xs) rest.1, All-cons (λ z. R z.0 z.1) (o, here.0) rest.0 here.1 rest.2)

  unzipped : (zs : List (Operation × Position)) → All (λ z. R z.0 z.1) zs
      → AllZip R (map (λ z. z.0) zs) (map (λ z. z.1) zs)
  unzipped [] all = tt
  unzipped (z ∷ zs) all = (All-head (λ z. R z.0 z.1) z zs all, unzipped zs (All-tail (λ z. R z.0 z.1) z zs all))

-- operations rise by their calls
pub operations_rise : (operations : List Operation) → AreComplete operations
    → AllPairs (λ x y. x.call < y.call) operations
operations_rise operations complete i j d below within = (complete.apart i j d below within).called_first

-- operations whose positions never fall are in the chosen order
pub sorted_is_chosen : (operations order : List Operation) (lives : List Life) (positions : List Position)
    → IsClear (on operations)
    → IsValueOrder (on operations) lives → IsPermutation operations order
    → AllZip (λ o position. IsPositionOf (on operations) lives o position) order positions
    → AllPairs (λ p q. ¬ (StandsBefore q p)) positions
    → IsChosenOrder (on operations) order
sorted_is_chosen operations order lives positions clear values moved zip never_fall = record {
  lives = lives;
  positions = positions;
  values_in_order = values;
  holds_each_once = moved;
  each_has_position = zip;
  positions_rise = λ i j d below within.
      let x = beside_second R order positions i (get_or positions i d) zip (slice_get-get_or positions i d (omega arith)) in
      let y = beside_second R order positions j (get_or positions j d) zip (slice_get-get_or positions j d within) in
      elim (compared (get_or positions i d) (get_or positions j d)) [
        | inl before ↦ before
        | inr (inl same) ↦
            let one = one_operation operations lives clear x.0 y.0 (get_or positions j d) (in_operations x.0 (contains_at order i x.0 x.1))
            (in_operations y.0 (contains_at order j y.0 y.1)) (subst (R x.0) same x.2) y.2 in
            let places = one_place (λ o. o.call) operations order i j x.0 y.0 (operations_rise operations clear.complete) moved x.1 y.1
            (ap (λ o. o.call) one) in
            absurd (omega arith)
        | inr (inr after) ↦ absurd (never_fall i j d below within after)
      ];
}
  where
    R : Operation → Position → Type 0
    R o position = IsPositionOf (on operations) lives o position

    in_operations : (o : Operation) → Contains order o → Contains operations o
    in_operations o among = Contains-permutation order operations o (IsPermutation-sym operations order moved) among

-- there is a chosen order
pub chosen_order_exists : (operations : List Operation) (gaps : List ℕ) → IsClear (on operations)
    → NoOrderViolation (on operations)
    → AreLeastFreeGaps (on operations) gaps → (order : List Operation) × IsChosenOrder (on operations) order
chosen_order_exists operations gaps clear none free =
    let values = values_have_order operations clear in
    let each = located (λ o p. IsPositionOf (on operations) values.0 o p) operations
    (λ o among. has_position operations values.0 clear values.1 gaps free o among o.kind refl) in
    let sorted = sorted_by_position each.0 in (
      map (λ z. z.0) sorted.0,
      sorted_is_chosen operations (map (λ z. z.0) sorted.0) values.0 (map (λ z. z.1) sorted.0) clear values.1
          (subst (λ os. IsPermutation os (map (λ z. z.0) sorted.0)) each.1 (IsPermutation-map (λ z. z.0) each.0 sorted.0 sorted.1))
          (unzipped (λ o p. IsPositionOf (on operations) values.0 o p) sorted.0
          (All-permutation (λ z. IsPositionOf (on operations) values.0 z.0 z.1) each.0 sorted.0 sorted.1 each.2))
          (pairs_map (λ p q. ¬ (StandsBefore q p)) (λ z. z.1) sorted.0 sorted.2),
    )

-- a list sorted by an antisymmetric relation is the only such list of its elements
pub one_list : {X : Type 0} (Before : X → X → Type 0) → ((x y : X) → Before x y → Before y x → ⊥) → (xs ys : List X)
    → AllPairs Before xs
    → AllPairs Before ys → ((x : X) → Contains xs x → Contains ys x) → ((x : X) → Contains ys x → Contains xs x)
    → xs ≡ ys
one_list Before one_way [] [] rise_x rise_y into back = refl
one_list Before one_way [] (y ∷ ys) rise_x rise_y into back = absurd (not_in_none y (back y (zero, omega arith, refl)))
one_list Before one_way (x ∷ xs) [] rise_x rise_y into back = absurd (not_in_none x (into x (zero, omega arith, refl)))
one_list {X} Before one_way (x ∷ xs) (y ∷ ys) rise_x rise_y into back =
    let same = first_alike (contains_cons y ys x (into x (zero, omega arith, refl))) (contains_cons x xs y (back y (zero, omega arith, refl))) in
    let rest = one_list Before one_way xs ys (AllPairs-tail Before x xs rise_x) (AllPairs-tail Before y ys rise_y)
    (λ z among. behind y ys z (contains_cons y ys z (into z (one_deeper x xs z among))) (subst (λ w. Before w z) same (later x xs z rise_x among)))
    (λ z among. behind x xs z (contains_cons x xs z (back z (one_deeper y ys z among))) (subst (λ w. Before w z) (sym same) (later y ys z rise_y among))) in
    cc
  where
    later : (x : X) (xs : List X) (z : X) → AllPairs Before (x ∷ xs) → Contains xs z → Before x z
    later x xs z rise among = subst (Before x) among.2 (rise zero (suc among.0) z (omega arith) (omega (arith, among.1)))

    first_alike : (y ≡ x) ⊎ Contains ys x → (x ≡ y) ⊎ Contains xs y → x ≡ y
    first_alike (inl same) there = sym same
    first_alike (inr among) (inl same) = same
    first_alike (inr among) (inr among') = absurd (one_way x y (later x xs y rise_x among') (later y ys x rise_y among))

    behind : (y : X) (ys : List X) (z : X) → (y ≡ z) ⊎ Contains ys z → Before y z → Contains ys z
    behind y ys z (inl same) before = absurd (one_way z z (subst (λ w. Before w z) same before) (subst (λ w. Before w z) same before))
    behind y ys z (inr among) before = among

-- ---- the same for a history by its own course

-- courses that agree give an operation the same position
pub position_along : (c d : Course) → Agree c d → (lives : List Life) (o : Operation) (k : OpKind) (p : Position)
    → IsPositionFor c lives o k p
    → IsPositionFor d lives o k p
position_along c d agree _ o (Enqueue v) p at = at
position_along c d agree _ o (Dequeue v) p at = at
position_along c d agree _ o DequeueEmpty p at = (at.0, least_of c d agree o at.0 at.1, at.2)
position_along c d agree _ o (EnqueueFailed v) p at = at

-- x and y have positions, and that of x comes before that of y
abbrev AreBefore : Course → List Life → Operation → Operation → Type 0
AreBefore c lives x y = (p : Position) × (q : Position) × IsPositionOf c lives x p × IsPositionOf c lives y q × StandsBefore p q

module _ (c : Course) (operations : List Operation) (agree : Agree c (on operations))
    (same_lives : c.lives ≡ lives_of operations) where
  operations_stand : (order : List Operation) (chosen : IsChosenOrder c order)
      → AllPairs (AreBefore c chosen.lives) order
  operations_stand order chosen i j d below within =
      let p = beside_first R order chosen.positions i (get_or order i d) chosen.each_has_position (slice_get-get_or order i d (omega arith)) in
      let q = beside_first R order chosen.positions j (get_or order j d) chosen.each_has_position (slice_get-get_or order j d within) in
      (p.0, q.0, p.2, q.2, pairs_at StandsBefore chosen.positions i j p.0 q.0 chosen.positions_rise below p.1 q.1)
    where
      R : Operation → Position → Type 0
      R o position = IsPositionOf c chosen.lives o position

  -- a history with initial values has one chosen order
  order_is_one : (xs ys : List Operation) → IsClear (on operations) → IsChosenOrder c xs → IsChosenOrder c ys → xs ≡ ys
  order_is_one xs ys clear first second =
      let lives = values_have_one_order operations first.lives second.lives clear (value_order_along c (on operations) _ same_lives first.values_in_order)
      second_values in
      one_list (AreBefore c second.lives) one_way xs ys
      (subst (λ ls. AllPairs (AreBefore c ls) xs) lives (operations_stand xs first)) (operations_stand ys second)
      (λ o among. Contains-permutation c.operations ys o second.holds_each_once
      (Contains-permutation xs c.operations o (IsPermutation-sym c.operations xs first.holds_each_once) among))
      (λ o among. Contains-permutation c.operations xs o first.holds_each_once
      (Contains-permutation ys c.operations o (IsPermutation-sym c.operations ys second.holds_each_once) among))
    where
      second_values : IsValueOrder (on operations) second.lives
      second_values = value_order_along c (on operations) _ same_lives second.values_in_order

      one : (x : Operation) (p q : Position) → IsPositionOf c second.lives x p → IsPositionOf c second.lives x q
          → p ≡ q
      one x p q at_p at_q = one_position operations second.lives clear second_values x x.kind p q
          (position_along c (on operations) agree _ x x.kind p at_p) (position_along c (on operations) agree _ x x.kind q at_q)

      one_way : (x y : Operation) → AreBefore c second.lives x y → AreBefore c second.lives y x → ⊥
      one_way x y (p, q, at_p, at_q, before) (q', p', at_q', at_p', after) =
          not_both p q before (subst (λ r. StandsBefore q r) (one x p' p at_p' at_p) (subst (λ r. StandsBefore r p') (one y q' q at_q' at_q) after))

-- the chosen order of a history is unique
pub one_chosen_order : (initial : List ℕ) (operations xs ys : List Operation) → IsClear (course initial operations)
    → IsChosenOrder (course initial operations) (timed xs) → IsChosenOrder (course initial operations) (timed ys)
    → xs ≡ ys
one_chosen_order initial operations xs ys clear first second = later_injective ORIGIN xs ys
    (order_is_one (course initial operations) (timeline initial operations) (clear_course initial operations clear)
    (sym (same_lives initial operations)) (timed xs) (timed ys) (clear_on initial operations clear) first second)

-- ---- each operation is an enqueue or the dequeue of one value, an empty dequeue, or a failed enqueue

-- the operations of lives are the enqueues and the dequeues
by_class : (lives : List Life)
    → IsPermutation (flat_map operations_of_life lives) (enqueues_of lives ++ dequeues_of lives)
by_class [] = IsPermutation-refl []
by_class (life ∷ lives) = IsPermutation-cons _ _ _ (step (dequeue_of life) (by_class lives))
  where
    step : (o : Option Operation)
        → IsPermutation (flat_map operations_of_life lives) (enqueues_of lives ++ dequeues_of lives)
        → IsPermutation (option_to_list o ++ flat_map operations_of_life lives)
        (enqueues_of lives ++ cons_option o (dequeues_of lives))
    step None more = more
    step (Some d) more = IsPermutation-trans _ _ _ (IsPermutation-cons d _ _ more) (IsPermutation-sym _ _
        (IsPermutation-middle _ d _))

abbrev moves_kind : OpKind → Bool
moves_kind (Enqueue v) = true
moves_kind (Dequeue v) = true
moves_kind DequeueEmpty = false
moves_kind (EnqueueFailed v) = false

-- returns whether the operation enqueued or dequeued a value
abbrev moves_value : Operation → Bool
moves_value o = moves_kind o.kind

split_by_kind : (operations : List Operation) → IsPermutation operations
    (filter moves_value operations ++ filter is_empty_answer operations ++ filter is_failed operations)
split_by_kind [] = IsPermutation-refl []
split_by_kind (o ∷ operations) =
    step (filter moves_value operations) (filter is_empty_answer operations) (filter is_failed operations) (split_by_kind operations) o.kind
  where
    step : (xs ys zs : List Operation) → IsPermutation operations (xs ++ ys ++ zs) → (k : OpKind)
        → IsPermutation (o ∷ operations)
        (cond (moves_kind k) (o ∷ xs) xs ++ cond (is_empty_kind k) (o ∷ ys) ys ++ cond (is_failed_kind k) (o ∷ zs) zs)
    step xs ys zs moved (Enqueue v) = IsPermutation-cons o operations (xs ++ ys ++ zs) moved
    step xs ys zs moved (Dequeue v) = IsPermutation-cons o operations (xs ++ ys ++ zs) moved
    step xs ys zs moved DequeueEmpty = IsPermutation-trans _ _ _ (IsPermutation-cons o _ _ moved)
        (IsPermutation-append_left zs _ _ (IsPermutation-sym _ _ (IsPermutation-middle xs o ys)))
    step xs ys zs moved (EnqueueFailed v) = IsPermutation-trans _ _ _ (IsPermutation-cons o _ _ moved)
        (IsPermutation-sym _ _ (IsPermutation-middle _ o zs))

none_twice_by_calls : (operations : List Operation) → AllPairs (λ x y. x.call < y.call) operations
    → NoneTwice operations
none_twice_by_calls operations rise =
    none_twice_from_places operations (λ i j x y at_x at_y same. one_place (λ o. o.call) operations operations i j x y rise
    (IsPermutation-refl operations) at_x at_y (ap (λ o. o.call) same))

in_option : {X : Type 0} (o : Option X) (x : X) → Contains (option_to_list o) x → o ≡ Some x
in_option None x among = absurd (not_in_none x among)
in_option (Some y) x among = elim (contains_cons y [] x among) [ inl same ↦ ap (λ x. Some x) same | inr nowhere ↦ absurd (not_in_none x nowhere) ]

-- each operation listed for a life belongs to it
of_life : (life : Life) (o : Operation) → Contains (operations_of_life life) o → IsOf life o
of_life life o among = elim (contains_cons (enqueue_of life) (option_to_list (dequeue_of life)) o among)
    [ inl enqueues ↦ inl enqueues | inr there ↦ inr (in_option (dequeue_of life) o there) ]

in_life : (life : Life) (o : Operation) → IsOf life o → Contains (operations_of_life life) o
in_life life o (inl enqueues) = (zero, omega arith, enqueues)
in_life life o (inr dequeues) = one_deeper (enqueue_of life) (option_to_list (dequeue_of life)) o
    (subst (λ d. Contains (option_to_list d) o) (sym dequeues) (zero, omega arith, refl))

module _ (operations : List Operation) (clear : IsClear (on operations)) where
  none_twice_in_life : (life : Life) → IsLife (on operations) life → NoneTwice (operations_of_life life)
  none_twice_in_life life is = (
    λ among. absurd (not_both_kinds operations life life (enqueue_of life) is is refl (in_option (dequeue_of life) (enqueue_of life) among)),
    alone (dequeue_of life),
  )
    where
      alone : (dequeue : Option Operation) → NoneTwice (option_to_list dequeue)
      alone None = tt
      alone (Some d) = (not_in_none d, tt)

  pub none_twice_in_lives : (lives : List Life) → NoneTwice lives
      → ((x : Life) → Contains lives x → IsLife (on operations) x)
      → NoneTwice (flat_map operations_of_life lives)
  none_twice_in_lives [] none are = tt
  none_twice_in_lives (life ∷ lives) none are =
      none_twice-append (operations_of_life life) (flat_map operations_of_life lives) (none_twice_in_life life (are life (zero, omega arith, refl)))
      (none_twice_in_lives lives none.1 (λ x among. are x (one_deeper life lives x among)))
      (λ o here there. shared o (of_life life o here) (from_flat_map operations_of_life lives o there))
    where
      shared : (o : Operation) → IsOf life o → (x : Life) × Contains lives x × Contains (operations_of_life x) o → ⊥
      shared o of (x, among, at) =
          let one = one_life_of_operation operations life x o clear (are life (zero, omega arith, refl)) (are x (one_deeper life lives x among)) of
          (of_life x o at) in
          none.0 (subst (Contains lives) (sym one) among)

  module _ (lives : List Life) (order : IsValueOrder (on operations) lives) where
    into_lives : (o : Operation) → Contains (filter moves_value operations) o
        → Contains (flat_map operations_of_life lives) o
    into_lives o among = let passed = passed_filter moves_value operations o among in by_kind passed.0 o.kind refl passed.1
      where
        stands : (life : Life) → IsLife (on operations) life → IsOf life o
            → Contains (flat_map operations_of_life lives) o
        stands life is of = into_flat_map operations_of_life lives life o (stands_in_order operations lives clear order life is) (in_life life o of)

        by_kind : Contains operations o → (k : OpKind) → o.kind ≡ k → moves_kind k ≡ true
            → Contains (flat_map operations_of_life lives) o
        by_kind in_o (Enqueue v) is moves = let life = life_of_enqueue operations o v (in_o, is) in stands life.0 life.1 (inl life.2)
        by_kind in_o (Dequeue v) is moves = let life = life_of_dequeue operations o v clear (in_o, is) in stands life.0 life.1 (inr life.2)
        by_kind in_o _ is moves = cc

    from_lives : (o : Operation) → Contains (flat_map operations_of_life lives) o
        → Contains (filter moves_value operations) o
    from_lives o among = let found = from_flat_map operations_of_life lives o among in
        moved found.0 (is_life operations lives order found.0 found.1) (of_life found.0 o found.2)
      where
        moved : (life : Life) → IsLife (on operations) life → IsOf life o → Contains (filter moves_value operations) o
        moved life is (inl enqueues) =
            let did : Did operations o (Enqueue is.0) = subst (λ x. Did operations x (Enqueue is.0)) enqueues is.1 in
            passes_filter moves_value operations o (ap moves_kind did.1) did.0
        moved life is (inr dequeues) =
            let did = did_dequeue operations life o is dequeues in
            passes_filter moves_value operations o (ap moves_kind did.1) did.0

    -- the operations, sorted into four kinds
    pub each_once : AllPairs (λ x y. x.call < y.call) operations → IsPermutation operations
        (enqueues_of lives ++ dequeues_of lives ++ filter is_empty_answer operations ++ filter is_failed operations)
    each_once rise =
        let here = filter moves_value operations in
        let by_value = flat_map operations_of_life lives in
        let there = enqueues_of lives ++ dequeues_of lives in
        let lives_once = none_twice_from_places lives (λ i j x y at_x at_y same. one_place_of_life operations lives i j x y clear order at_x at_y same) in
        let moved = same_elements_permute here by_value (none_twice-filter moves_value operations (none_twice_by_calls operations rise))
        (none_twice_in_lives lives lives_once (is_life operations lives order)) into_lives from_lives in
        IsPermutation-trans operations (here ++ filter is_empty_answer operations ++ filter is_failed operations)
        (there ++ filter is_empty_answer operations ++ filter is_failed operations) (split_by_kind operations)
        (IsPermutation-append_left (filter is_failed operations) (here ++ filter is_empty_answer operations) (there ++ filter is_empty_answer operations)
        (IsPermutation-append_left (filter is_empty_answer operations) here there (IsPermutation-trans here by_value there moved (by_class lives))))

-- ---- the operations that change nothing, sorted by gap and place, never fall

module _ (history : Contents) (clear : IsClear (course_of history)) where
  abbrev read : ℕ → Operation
  read place = operation_at history.operations place

  -- the operation read at a place in range is that of the history
  stands_there : (p : ℕ) → IsCalledInRange history.operations p
      → IsOperation history.operations p (later_by ORIGIN (read p))
  stands_there p within =
      let o = from_some_and (slice_get history.operations p) (λ o. o.call + ORIGIN < PACKED_LIMIT) within in
      slice_get-map (later_by ORIGIN) history.operations p
      ∙ ap (option_map (later_by ORIGIN)) (o.1 ∙ ap Some (sym (get_or_from_slice_get history.operations p o.0 _ o.1)))

  -- operations at rising places have rising calls
  calls_by_place : (p q : ℕ) → IsCalledInRange history.operations p → IsCalledInRange history.operations q → p ≤ q
      → (read p).call ≤ (read q).call
  calls_by_place p q in_p in_q at_most = elim (cases_lt p q) [
    | inl below ↦
        let first = pairs_at (λ x y. x.call < y.call) (timeline_of history) _ _ _ _
        (operations_rise _ (clear_on history.initial history.operations clear).complete) (omega (arith, below))
        (operation_on history.initial history.operations p _ (stands_there p in_p))
        (operation_on history.initial history.operations q _ (stands_there q in_q)) in
        omega (arith, first)
    | inr above ↦ let same : p ≡ q = omega arith in omega (arith, ap (λ k. (read k).call) same)
  ]

  -- sorted by gap and place, none comes before an earlier one
  pub noops_never_fall : (sorted : List Timed) → length history.operations ≤ MAX_MATCHED
      → All (λ timed. IsCalledInRange history.operations timed.place) sorted
      → IsNonDecreasingBy (λ timed. PLACES * timed.time + timed.place) sorted
      → NeverFall (map (noop_at history.operations) sorted)
  noops_never_fall sorted few within rises i j d below inside before =
      let long = length-map sorted (noop_at history.operations) in
      let nowhere : Timed = record { time = 0; place = 0 } in
      let at_x = get_or-map (noop_at history.operations) sorted i nowhere d (omega arith) in
      let at_y = get_or-map (noop_at history.operations) sorted j nowhere d (omega arith) in
      clash (get_or sorted i nowhere) (get_or sorted j nowhere) (rises i j nowhere (omega arith) (omega arith)) (within i nowhere (omega arith))
      (within j nowhere (omega arith)) (rw (at_x, at_y) at before)
    where
      clash : (x y : Timed) → PLACES * x.time + x.place ≤ PLACES * y.time + y.place
          → IsCalledInRange history.operations x.place
          → IsCalledInRange history.operations y.place
          → (y.time < x.time) ⊎ ((y.time ≡ x.time) × ((noop_answers < noop_answers) ⊎ ((noop_answers ≡ noop_answers)
          × ((read y.place).call + ORIGIN < (read x.place).call + ORIGIN)))) → ⊥
      clash x y words in_x in_y (inl less) =
          let fits_x = place_fits _ x.place _ (stands_there x.place in_x) few in
          let fits_y = place_fits _ y.place _ (stands_there y.place in_y) few in
          omega (arith, words, less, fits_x, fits_y)
      clash x y words in_x in_y (inr (same, inl less)) = omega (arith, less)
      clash x y words in_x in_y (inr (same, inr (class, less))) =
          let calls = calls_by_place x.place y.place in_x in_y (omega (arith, words, same)) in omega (arith, calls, less)

  -- each of them is an operation
  stands_within : (listed : List Operation) (timed : List Timed) → AllZip (IsNoopAt history) listed timed
      → All (λ t. IsCalledInRange history.operations t.place) timed
  stands_within listed timed each k d within =
      let o = beside_second (IsNoopAt history) listed timed k (get_or timed k d) each (slice_get-get_or timed k d within) in
      called_in_range history clear (get_or timed k d).place o.0 o.2.at

  -- each of them has its position
  stand_placed : (listed : List Operation) (timed : List Timed) (lives : List Life)
      → AllZip (IsNoopAt history) listed timed
      → (listed ≡ placed_in (map (noop_at history.operations) timed))
      × All (IsPlaced history lives) (map (noop_at history.operations) timed)
  stand_placed [] [] lives each = (refl, All-nil (IsPlaced history lives))
  stand_placed [] (t ∷ timed) lives each = absurd each
  stand_placed (o ∷ listed) [] lives each = absurd each
  stand_placed (o ∷ listed) (t ∷ timed) lives each =
      let same = sym (read_at history.operations t.place o each.0.at) in
      let rest = stand_placed listed timed lives each.1 in (
        ap₂ (λ x xs. x ∷ xs) same rest.0,
        All-cons (IsPlaced history lives) (noop_at history.operations t) (map (noop_at history.operations) timed) (
          subst (IsOperation history.operations t.place) same each.0.at,
          subst (λ (x : Operation). IsPositionOf (on (timeline_of history)) lives x (noop_position x t.time)) same (each.0.stands lives),
        ) rest.1,
      )

  -- the empty dequeues and the failed enqueues
  module _ (first all : List Timed) (empties : Adds history (filter is_empty_answer (timed history.operations)) [] first)
      (failed : Adds history (filter is_failed (timed history.operations)) first all) where
    both : AllZip (IsNoopAt history) (noops_in history) all
    both = subst (AllZip (IsNoopAt history) (noops_in history))
        (sym (failed.after ∙ ap (λ xs. xs ++ failed.added) empties.after)) (zip_joined (IsNoopAt history) _ _ _ _
        empties.each_stands failed.each_stands)

    -- they are operations, in any order
    pub noops_within : (sorted : List Timed) → IsPermutation all sorted
        → All (λ timed. IsCalledInRange history.operations timed.place) sorted
    noops_within sorted moved = All-permutation (λ timed. IsCalledInRange history.operations timed.place) all sorted moved (stands_within _ all both)

    -- sorted by gap and place, they are the list that is merged
    pub noops_held : (sorted : List Timed) → IsPermutation all sorted
        → NeverFall (map (noop_at history.operations) sorted)
        → HoldsNoops history (map (noop_at history.operations) sorted)
    noops_held sorted moved never =
        let at = noop_at history.operations in
        record {
          each_placed = λ lives. All-permutation (IsPlaced history lives) (map at all) (map at sorted) (IsPermutation-map at all sorted moved)
              (stand_placed _ all lives both).1;
          each_once = subst (λ os. IsPermutation os (placed_in (map at sorted))) (sym (stand_placed _ all [] both).0)
              (IsPermutation-map (λ p. p.operation) (map at all) (map at sorted) (IsPermutation-map at all sorted moved));
          never_fall = never;
        }
