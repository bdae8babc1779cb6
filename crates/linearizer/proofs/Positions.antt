-- Consequences of the operations' positions. At a free gap each value that has entered has left, and so has each
-- value before it.
use Rattle.linearizer.proofs.Common.{[], AllZip, ap, AreLeastFreeGaps, arith, call_or_never, cases_lt, Contains}
use Rattle.linearizer.proofs.Common.{contains_cons, Dequeue, dequeue_call, dequeue_gap, dequeue_of, dequeue_position}
use Rattle.linearizer.proofs.Common.{dequeue_return, dequeued_if_called, Did, did_dequeue, drop, DequeueEmpty, Enqueue}
use Rattle.linearizer.proofs.Common.{enqueue_call, enqueue_gap, enqueue_of, enqueue_position, enqueue_return}
use Rattle.linearizer.proofs.Common.{entered_by, filter, find, fold, found_dequeue, greatest_leaves_from, inl, inr}
use Rattle.linearizer.proofs.Common.{is_dequeue_of, is_empty_answer, IsClear, IsFreeGap, IsInWindow, IsLeastFreeGap}
use Rattle.linearizer.proofs.Common.{IsLife, IsPositionFor, IsPositionOf, IsValueOrder, least_entered_by, leaves_from}
use Rattle.linearizer.proofs.Common.{length, Life, List, map, MatchOption, max, min, NEVER, None, NoneDid}
use Rattle.linearizer.proofs.Common.{noop_position, NoOrderViolation, EnqueueFailed, not_in_none, one_at, one_deeper}
use Rattle.linearizer.proofs.Common.{one_life_of_dequeue, one_life_of_enqueue, Operation, OpKind, Option}
use Rattle.linearizer.proofs.Common.{passes_filter, place_of, Position, refl, return_in_range, return_or_never}
use Rattle.linearizer.proofs.Common.{same_call, same_dequeue, slice_get, slice_get_within, Some, subst, suc, sym, take}
use Rattle.linearizer.proofs.Common.{zero, ℕ, ◌+◌, ◌<◌, ◌∙◌, ◌∷◌, ◌≡◌, ◌≤◌, ◌⊎◌, on}
use Rattle.linearizer.proofs.ValueOrder.{is_life, is_life_at, least_at, made, may_stand_before, stands_in_order}
use Rattle.linearizer.proofs.ValueOrder.{turn_of}
use Rattle.linearizer.proofs.Times.{one_place_of_life, returned_in_time, returns_at_no_leave, times_of_life}
use Rattle.linearizer.proofs.Elements.{beside_first}
use Rattle.linearizer.proofs.Runs.{AreGaps, enqueue_is_no_dequeue, IsItem, noop_is_no_dequeue, noop_is_no_enqueue}
use Rattle.history_merge.proofs.Lists.{at_place}

-- ---- the gaps of the enqueues and dequeues rise along the order of values, and lie in their windows

-- the least of a number and others is at most it
least_below_start : (a : ℕ) (xs : List ℕ) → fold min a xs ≤ a
least_below_start a [] = omega arith
least_below_start a (x ∷ xs) = let more = least_below_start (min a x) xs in omega arith

-- the greatest of a number and others is at least it
greatest_above_start : (a : ℕ) (xs : List ℕ) → a ≤ fold max a xs
greatest_above_start a [] = omega arith
greatest_above_start a (x ∷ xs) = let more = greatest_above_start (max a x) xs in omega arith

least_at_least : (a b : ℕ) (xs : List Life) → b ≤ a → ((j : ℕ) (y : Life) → slice_get xs j ≡ Some y → b ≤ entered_by y)
    → b ≤ fold min a (map entered_by xs)
least_at_least a b [] le each = le
least_at_least a b (x ∷ xs) le each = let here = each zero x refl in least_at_least (min a (entered_by x)) b xs (omega arith) (λ j y at. each (suc j) y at)

-- a lower bound of the entries from place i on is at most the least of them
pub at_most_least : (lives : List Life) (i b : ℕ) → b ≤ NEVER
    → ((j : ℕ) (y : Life) → i ≤ j → slice_get lives j ≡ Some y → b ≤ entered_by y)
    → b ≤ least_entered_by (drop i lives)
at_most_least lives zero b le each = least_at_least NEVER b lives le (λ j y at. each j y (omega arith) at)
at_most_least [] (suc i) b le each = le
at_most_least (x ∷ lives) (suc i) b le each = at_most_least lives i b le (λ j y above at. each (suc j) y (omega arith) at)

least_at_most : (a : ℕ) (xs : List Life) (j : ℕ) (y : Life) → slice_get xs j ≡ Some y
    → fold min a (map entered_by xs) ≤ entered_by y
least_at_most a [] j y at = cc
least_at_most a (x ∷ xs) zero y at = grind (arith, least_below_start (min a (entered_by x)) (map entered_by xs))
least_at_most a (x ∷ xs) (suc j) y at = least_at_most (min a (entered_by x)) xs j y at

-- the least entry from place i on is at most each of them
pub least_of_later : (lives : List Life) (i j : ℕ) (y : Life) → i ≤ j → slice_get lives j ≡ Some y
    → least_entered_by (drop i lives) ≤ entered_by y
least_of_later lives zero j y le at = least_at_most NEVER lives j y at
least_of_later [] (suc i) j y le at = cc
least_of_later (x ∷ lives) (suc i) zero y le at = absurd (omega arith)
least_of_later (x ∷ lives) (suc i) (suc j) y le at = least_of_later lives i j y (omega arith) at

-- a strict upper bound of the start and of what the first k values leave from is above the greatest
greatest_below : (a b : ℕ) (lives : List Life) (k : ℕ) → a < b
    → ((j : ℕ) (y : Life) → j < k → slice_get lives j ≡ Some y → leaves_from y < b)
    → fold max a (map leaves_from (take k lives)) < b
greatest_below a b lives zero less each = less
greatest_below a b [] (suc k) less each = less
greatest_below a b (x ∷ lives) (suc k) less each = let here = each zero x (omega arith) refl in
    greatest_below (max a (leaves_from x)) b lives k (omega arith) (λ j y below at. each (suc j) y (omega arith) at)

-- if all values leave before a time, the greatest is before it
pub below_greatest : (lives : List Life) (i b : ℕ) → 0 < b
    → ((j : ℕ) (y : Life) → j ≤ i → slice_get lives j ≡ Some y → leaves_from y < b)
    → greatest_leaves_from (take (i + 1) lives) < b
below_greatest lives i b above each = greatest_below 0 b lives (i + 1) above (λ j y below at. each j y (omega arith) at)

greatest_at_least : (a : ℕ) (lives : List Life) (k j : ℕ) (y : Life) → j < k → slice_get lives j ≡ Some y
    → leaves_from y ≤ fold max a (map leaves_from (take k lives))
greatest_at_least a lives zero j y below at = absurd (omega arith)
greatest_at_least a [] (suc k) j y below at = cc
greatest_at_least a (x ∷ lives) (suc k) zero y below at =
    grind (arith, greatest_above_start (max a (leaves_from x)) (map leaves_from (take k lives)))
greatest_at_least a (x ∷ lives) (suc k) (suc j) y below at = greatest_at_least (max a (leaves_from x)) lives k j y (omega arith) at

-- each of the first values leaves no later than the greatest
pub greatest_of_first : (lives : List Life) (i j : ℕ) (y : Life) → j ≤ i → slice_get lives j ≡ Some y
    → leaves_from y ≤ greatest_leaves_from (take (i + 1) lives)
greatest_of_first lives i j y le at = greatest_at_least 0 lives (i + 1) j y (omega arith) at

-- the gaps rise along the order
pub gaps_rise : (lives : List Life) (i j : ℕ) → i ≤ j
    → (enqueue_gap lives i ≤ enqueue_gap lives j) × (dequeue_gap lives i ≤ dequeue_gap lives j)
    × (enqueue_gap lives i ≤ dequeue_gap lives i)
gaps_rise lives i j le =
    let least = at_most_least lives j (least_entered_by (drop i lives)) (least_below_start NEVER (map entered_by (drop i lives)))
    (λ k y above at. least_of_later lives i k y (omega arith) at) in
    let greatest = below_greatest lives i (greatest_leaves_from (take (j + 1) lives) + 1) (omega arith)
    (λ k y below at. let leaves = greatest_of_first lives j k y (omega arith) at in omega arith) in
    (omega arith, omega arith, omega arith)

-- the gap is at the earliest just before the operation's call, and before its return
abbrev pub IsAround : Operation → ℕ → Type 0
IsAround o c = (o.call ≤ c + 1) × (c < o.ret)

module _ (operations : List Operation) (lives : List Life) (clear : IsClear (on operations)) (none : NoOrderViolation (on operations))
    (order : IsValueOrder (on operations) lives) where
  called_before_entered : (i j : ℕ) (x y : Life) → i ≤ j → slice_get lives i ≡ Some x → slice_get lives j ≡ Some y
      → enqueue_call x ≤ entered_by y
  called_before_entered i j x y le at_x at_y =
      let may = may_stand_before operations lives i j x y clear none order le at_x at_y in omega (arith, may.0)

  -- the gap of an enqueue lies in its window, or just before it, if the enqueue returns at its call
  pub enqueue_gap_in_window : (i : ℕ) (life : Life) → slice_get lives i ≡ Some life
      → IsAround (enqueue_of life) (enqueue_gap lives i)
  enqueue_gap_in_window i life at =
      let times = times_of_life operations life clear (is_life_at operations lives i life order at) in
      let bound : enqueue_call life ≤ least_entered_by (drop i lives) = at_most_least lives i (enqueue_call life) (omega arith)
      (λ j y le at_y. called_before_entered i j life y le at at_y) in
      let least = least_of_later lives i i life (omega arith) at in
      (omega arith, omega arith)

  left_before_returned : (i j : ℕ) (x y : Life) → j ≤ i → slice_get lives i ≡ Some x → slice_get lives j ≡ Some y
      → dequeue_return x < NEVER
      → leaves_from y < dequeue_return x
  left_before_returned i j x y le at_x at_y returned =
      let may = may_stand_before operations lives j i y x clear none order le at_y at_x in
      let never = returns_at_no_leave operations x y clear (is_life_at operations lives i x order at_x) (is_life_at operations lives j y order at_y) in
      let differs : ¬ (dequeue_return x ≡ leaves_from y) = λ same. let is = never same in omega arith in
      omega (arith, may.1)

  -- the gap of a dequeue lies in its window
  pub dequeue_gap_in_window : (i : ℕ) (life : Life) (d : Operation) → slice_get lives i ≡ Some life
      → dequeue_of life ≡ Some d
      → IsInWindow d (dequeue_gap lives i)
  dequeue_gap_in_window i life d at dequeues =
      let calls : dequeue_call life ≡ d.call = ap call_or_never dequeues in
      let returns : dequeue_return life ≡ d.ret = ap return_or_never dequeues in
      let returned = returned_in_time operations life d clear (is_life_at operations lives i life order at) dequeues in
      let left = left_before_returned i i life life (omega arith) at at returned in
      let below = below_greatest lives i (dequeue_return life) (omega arith) (λ j y le at_y. left_before_returned i j life y le at at_y returned) in
      let greatest = greatest_of_first lives i i life (omega arith) at in
      let least = least_of_later lives i i life (omega arith) at in
      (omega arith, omega arith)

-- at a free gap each value that has entered has left
entered_has_left : (operations : List Operation) (life : Life) (c : ℕ) → IsClear (on operations)
    → IsLife (on operations) life → IsFreeGap (on operations) c
    → entered_by life ≤ c → leaves_from life ≤ c
entered_has_left operations life c clear is free entered =
    let times = times_of_life operations life clear is in
    elim (cases_lt c (dequeue_call life)) [
      | inr called ↦ omega arith
      | inl stays ↦ elim (cases_lt c (enqueue_return life)) [ inl sooner ↦ omega arith | inr returned ↦ absurd (free life is (returned, stays)) ]
    ]

-- each value before one that has entered has left
pub left_before_entered : (operations : List Operation) (lives : List Life) (c i j : ℕ) (x y : Life)
    → IsClear (on operations) → IsValueOrder (on operations) lives
    → IsFreeGap (on operations) c → i ≤ j → slice_get lives i ≡ Some x → slice_get lives j ≡ Some y → entered_by y ≤ c
    → leaves_from x ≤ c
left_before_entered operations lives c i j x y clear order free le at_x at_y entered =
    let turn = turn_of lives i j x y order.each_is_choice le at_x at_y in
    let a = turn.is_choice.first_entered in
    let b = turn.is_choice.first_dequeued in
    let is_a = is_life operations lives order a (turn.among a turn.is_choice.enters_first.0) in
    let is_b = is_life operations lives order b (turn.among b turn.is_choice.dequeued_first.0) in
    let least = least_at entered_by turn.remaining a y turn.is_choice.enters_first turn.remains in
    let left = entered_has_left operations a c clear is_a free (omega arith) in
    let times_a = times_of_life operations a clear is_a in
    let times_b = times_of_life operations b clear is_b in
    elim (made turn.remaining x turn.is_choice) [ inl taken ↦ rw taken.1 (omega arith) | inr taken ↦ rw taken.1 left ]

-- the value at this place of the order is v
abbrev pub HoldsValue : List Life → ℕ → ℕ → Type 0
HoldsValue lives i v = (life : Life) × (slice_get lives i ≡ Some life) × ((enqueue_of life).kind ≡ Enqueue v)

-- the value at this place of the order is dequeued
abbrev pub IsDequeued : List Life → ℕ → Type 0
IsDequeued lives i = (life : Life) × (d : Operation) × (slice_get lives i ≡ Some life) × (dequeue_of life ≡ Some d)

-- the position of an operation of this kind in the order of the lives
abbrev pub IsItemOf : List Life → OpKind → Position → Type 0
IsItemOf lives = IsItem (length lives) (enqueue_gap lives) (dequeue_gap lives) (HoldsValue lives) (IsDequeued lives)

-- the gaps rise along the order
pub are_gaps : (lives : List Life) → AreGaps (length lives) (enqueue_gap lives) (dequeue_gap lives)
are_gaps lives = record {
  enter_rises = λ i j le within. (gaps_rise lives i j le).0;
  leave_rises = λ i j le within. (gaps_rise lives i j le).1;
  enters_first = λ i within. (gaps_rise lives i i (omega arith)).2;
}

-- each place of the order holds one value
pub one_value : (lives : List Life) (i v w : ℕ) → HoldsValue lives i v → HoldsValue lives i w → v ≡ w
one_value lives i v w x y =
    let one = one_at lives i x.0 y.0 x.1 y.1 in
    let kinds : Enqueue v ≡ Enqueue w = sym x.2 ∙ ap (λ l. (enqueue_of l).kind) one ∙ y.2 in
    cc

-- each value before a dequeued one is dequeued
pub dequeued_first : (operations : List Operation) (lives : List Life) → IsClear (on operations)
    → NoOrderViolation (on operations) → IsValueOrder (on operations) lives
    → (i j : ℕ) → i ≤ j → j < length lives → IsDequeued lives j → IsDequeued lives i
dequeued_first operations lives clear none order i j le within (y, d, at_y, dequeues) =
    let x = at_place lives i (omega arith) in
    let may = may_stand_before operations lives i j x.0 y clear none order le x.1 at_y in
    let returned = returned_in_time operations y d clear (is_life_at operations lives j y order at_y) dequeues in
    let found = dequeued_if_called x.0 (omega (arith, may.1, returned)) in
    (x.0, found.0, x.1, found.1)

-- if the least entry is reached, one of the entries is
reached_by_one : (a c : ℕ) (xs : List Life) → c < a → fold min a (map entered_by xs) ≤ c
    → (j : ℕ) × (y : Life) × (slice_get xs j ≡ Some y) × (entered_by y ≤ c)
reached_by_one a c [] less le = absurd (omega arith)
reached_by_one a c (x ∷ xs) less le =
    let here : (entered_by x ≤ c) ⊎ (c < min a (entered_by x)) = grind arith in
    elim here [
      | inl entered ↦ (zero, x, refl, entered)
      | inr later ↦ let more = reached_by_one (min a (entered_by x)) c xs later le in (suc more.0, more.1, more.2, more.3)
    ]

entered_later : (lives : List Life) (i c : ℕ) → c < NEVER → least_entered_by (drop i lives) ≤ c
    → (j : ℕ) × (y : Life) × (i ≤ j) × (slice_get lives j ≡ Some y) × (entered_by y ≤ c)
entered_later lives zero c less le = let found = reached_by_one NEVER c lives less le in (found.0, found.1, omega arith, found.2, found.3)
entered_later [] (suc i) c less le = absurd (omega arith)
entered_later (x ∷ lives) (suc i) c less le = let more = entered_later lives i c less le in (suc more.0, more.1, omega (arith, more.2), more.3, more.4)

module _ (operations : List Operation) (lives : List Life) (clear : IsClear (on operations))
    (order : IsValueOrder (on operations) lives) where
  -- each value enqueued before a free gap is dequeued by then
  gone_at_free_gap : (c : ℕ) → IsFreeGap (on operations) c → c < NEVER → (i : ℕ) → i < length lives
      → enqueue_gap lives i < c
      → (dequeue_gap lives i ≤ c) × IsDequeued lives i
  gone_at_free_gap c free in_range i within entered =
      let later = entered_later lives i c in_range (omega arith) in
      let each : (j : ℕ) (x : Life) → j ≤ i → slice_get lives j ≡ Some x → leaves_from x < suc c =
      λ j x le at. let left = left_before_entered operations lives c j later.0 x later.1 clear order free (omega (arith, later.2)) at later.3 later.4 in
      omega arith in
      let greatest = below_greatest lives i (suc c) (omega arith) each in
      let x = at_place lives i within in
      let left = each i x.0 (omega arith) x.1 in
      let found = dequeued_if_called x.0 (omega arith) in
      (omega arith, (x.0, found.0, x.1, found.1))

  -- an operation at its position is an item of the run
  item_of : (o : Operation) → Contains operations o → (k : OpKind) → o.kind ≡ k → (position : Position)
      → IsPositionFor (on operations) lives o k position
      → IsItemOf lives k position
  item_of o among (Enqueue v) is position stands =
      (stands.0, slice_get_within lives stands.0 stands.1 stands.2, (stands.1, stands.2, ap (λ o. o.kind) stands.3 ∙ is), stands.4)
  item_of o among (Dequeue v) is position stands =
      let life = is_life_at operations lives stands.0 stands.1 order stands.2 in
      let kinds : Dequeue life.0 ≡ Dequeue v = sym (did_dequeue operations stands.1 o life stands.3).1 ∙ is in
      let values : life.0 ≡ v = cc in (
        stands.0,
        slice_get_within lives stands.0 stands.1 stands.2,
        (stands.1, stands.2, life.1.1 ∙ ap (λ u. Enqueue u) values),
        (stands.1, o, stands.2, stands.3),
        stands.4,
      )
  item_of o among DequeueEmpty is position stands =
      let early : stands.0 < NEVER = omega (arith, stands.1.in_window.1, return_in_range operations o clear.complete among) in
      subst (IsItemOf lives DequeueEmpty) (sym stands.2) (refl, gone_at_free_gap stands.0 stands.1.is_free early)
  item_of o among (EnqueueFailed v) is position stands = ap (λ p. p.class) stands

  -- the operations and their positions are a run of items
  pub items_of : (os : List Operation) (positions : List Position)
      → ((o : Operation) → Contains os o → Contains operations o)
      → AllZip (λ o position. IsPositionOf (on operations) lives o position) os positions
      → AllZip (IsItemOf lives) (map (λ o. o.kind) os) positions
  items_of [] [] among stands = stands
  items_of [] (p ∷ positions) among stands = stands
  items_of (o ∷ os) [] among stands = stands
  items_of (o ∷ os) (p ∷ positions) among stands = (
    item_of o (among o (zero, omega arith, refl)) o.kind refl p stands.0,
    items_of os positions (λ x there. among x (one_deeper o os x there)) stands.1,
  )

-- ---- each operation has one position, and no two operations have the same

same_kind : (k l : OpKind) → (k ≡ l) ⊎ ¬ (k ≡ l)
same_kind k l = grind arith

-- some operation is of this kind, or none is
one_did : (kind : OpKind) (operations : List Operation)
    → ((o : Operation) × Did operations o kind) ⊎ NoneDid operations kind
one_did kind [] = inr (λ o among. absurd (not_in_none o among))
one_did kind (x ∷ operations) = elim (same_kind x.kind kind) [
  | inl is ↦ inl (x, ((zero, omega arith, refl), is))
  | inr differs ↦ elim (one_did kind operations) [
    | inl found ↦ inl (found.0, (one_deeper x operations found.0 found.1.0, found.1.1))
    | inr none ↦ inr (λ o among is. elim (contains_cons x operations o among) [ inl same ↦ differs (ap (λ y. y.kind) same ∙ is) | inr later ↦ none o later is ])
  ]
]

-- each dequeued value was enqueued
enqueue_of_dequeued : (operations : List Operation) (o : Operation) (v : ℕ) → IsClear (on operations)
    → Did operations o (Dequeue v)
    → (e : Operation) × Did operations e (Enqueue v)
enqueue_of_dequeued operations o v clear did = elim (one_did (Enqueue v) operations) [
  | inl found ↦ found
  | inr none ↦ elim (one_did (EnqueueFailed v) operations) [
    | inl failed ↦ absurd (clear.no_fresh o (Some failed.0) (record { value = v; dequeues = did; enqueues = inl failed.1 }))
    | inr none' ↦ absurd (clear.no_fresh o None (record { value = v; dequeues = did; not_accepted = λ enq did. none enq did.0 did.1; not_failed = none' }))
  ]
]

-- a successful enqueue begins a life
pub life_of_enqueue : (operations : List Operation) (e : Operation) (v : ℕ) → Did operations e (Enqueue v)
    → (life : Life) × IsLife (on operations) life × (enqueue_of life ≡ e)
life_of_enqueue operations e v did = (
  record { enqueue = e; dequeue = find (is_dequeue_of v) operations },
  (v, did, found_dequeue operations v (find (is_dequeue_of v) operations) refl),
  refl,
)

-- a dequeue ends a life
pub life_of_dequeue : (operations : List Operation) (o : Operation) (v : ℕ) → IsClear (on operations)
    → Did operations o (Dequeue v)
    → (life : Life) × IsLife (on operations) life × (dequeue_of life ≡ Some o)
life_of_dequeue operations o v clear did =
    let e = enqueue_of_dequeued operations o v clear did in
    let found = found_dequeue operations v (find (is_dequeue_of v) operations) refl in
    (record { enqueue = e.0; dequeue = find (is_dequeue_of v) operations }, (v, e.1, found), one e.0 e.1 (find (is_dequeue_of v) operations) found)
  where
    one : (e : Operation) → Did operations e (Enqueue v) → (dequeue : Option Operation)
        → MatchOption dequeue (NoneDid operations (Dequeue v)) (λ d. Did operations d (Dequeue v)) → dequeue ≡ Some o
    one e did_e None none = absurd (none o did.0 did.1)
    one e did_e (Some d) did_d = ap (λ x. Some x) (same_dequeue operations e d o v clear did_e did_d did)

module _ (operations : List Operation) (lives : List Life) (clear : IsClear (on operations))
    (order : IsValueOrder (on operations) lives) where
  -- each operation has a position
  pub has_position : (gaps : List ℕ) → AreLeastFreeGaps (on operations) gaps → (o : Operation) → Contains operations o
      → (k : OpKind) → o.kind ≡ k
      → (position : Position) × IsPositionFor (on operations) lives o k position
  has_position gaps free o among (Enqueue v) is =
      let life = life_of_enqueue operations o v (among, is) in
      let place = place_of lives life.0 (stands_in_order operations lives clear order life.0 life.1) in
      (enqueue_position lives place.0, (place.0, life.0, place.1, life.2, refl))
  has_position gaps free o among (Dequeue v) is =
      let life = life_of_dequeue operations o v clear (among, is) in
      let place = place_of lives life.0 (stands_in_order operations lives clear order life.0 life.1) in
      (dequeue_position lives place.0, (place.0, life.0, place.1, life.2, refl))
  has_position gaps free o among DequeueEmpty is =
      let place = place_of (filter is_empty_answer operations) o (passes_filter is_empty_answer operations o (rw is refl) among) in
      let gap = beside_first (λ o c. IsLeastFreeGap (on operations) o c) (filter is_empty_answer operations) gaps place.0 o free place.1 in
      (noop_position o gap.0, (gap.0, gap.2, refl))
  has_position gaps free o among (EnqueueFailed v) is = (noop_position o o.call, refl)

  -- an operation has only one position
  pub one_position : (o : Operation) (k : OpKind) (p q : Position) → IsPositionFor (on operations) lives o k p
      → IsPositionFor (on operations) lives o k q → p ≡ q
  one_position o (Enqueue v) p q at_p at_q =
      let one = one_life_of_enqueue operations at_p.1 at_q.1 clear (is_life_at operations lives at_p.0 at_p.1 order at_p.2)
      (is_life_at operations lives at_q.0 at_q.1 order at_q.2) (at_p.3 ∙ sym at_q.3) in
      at_p.4 ∙ ap (enqueue_position lives) (one_place_of_life operations lives at_p.0 at_q.0 at_p.1 at_q.1 clear order at_p.2 at_q.2 one) ∙ sym at_q.4
  one_position o (Dequeue v) p q at_p at_q =
      let one = one_life_of_dequeue operations at_p.1 at_q.1 o clear (is_life_at operations lives at_p.0 at_p.1 order at_p.2)
      (is_life_at operations lives at_q.0 at_q.1 order at_q.2) at_p.3 at_q.3 in
      at_p.4 ∙ ap (dequeue_position lives) (one_place_of_life operations lives at_p.0 at_q.0 at_p.1 at_q.1 clear order at_p.2 at_q.2 one) ∙ sym at_q.4
  one_position o DequeueEmpty p q at_p at_q =
      let first = at_p.1.least at_q.0 at_q.1.in_window at_q.1.is_free in
      let second = at_q.1.least at_p.0 at_p.1.in_window at_p.1.is_free in
      let gaps : at_p.0 ≡ at_q.0 = omega arith in
      at_p.2 ∙ ap (noop_position o) gaps ∙ sym at_q.2
  one_position o (EnqueueFailed v) p q at_p at_q = at_p ∙ sym at_q

-- the constructor of options is injective
pub some_injective : {x y : Operation} → ◌≡◌ {A = Option Operation} (Some x) (Some y) → x ≡ y
some_injective e = cc

-- the operation is an enqueue, a dequeue, or changes nothing, as its position shows
data Stands (lives : List Life) (o : Operation) (p : Position) : Type 0 where
  enters : (i : ℕ) (life : Life) → slice_get lives i ≡ Some life → enqueue_of life ≡ o → p ≡ enqueue_position lives i
      → Stands lives o p
  leaves : (i : ℕ) (life : Life) → slice_get lives i ≡ Some life → dequeue_of life ≡ Some o
      → p ≡ dequeue_position lives i → Stands lives o p
  noops : (c : ℕ) → p ≡ noop_position o c → Stands lives o p

stands_as : (operations : List Operation) (lives : List Life) (o : Operation) (k : OpKind) (p : Position)
    → IsPositionFor (on operations) lives o k p
    → Stands lives o p
stands_as operations lives o (Enqueue v) p at = enters at.0 at.1 at.2 at.3 at.4
stands_as operations lives o (Dequeue v) p at = leaves at.0 at.1 at.2 at.3 at.4
stands_as operations lives o DequeueEmpty p at = noops at.0 at.2
stands_as operations lives o (EnqueueFailed v) p at = noops o.call at

-- each position belongs to one operation
module _ (operations : List Operation) (lives : List Life) (clear : IsClear (on operations)) (x y : Operation) (p : Position) (in_x : Contains operations x)
    (in_y : Contains operations y) where
  same_at : Stands lives x p → Stands lives y p → x ≡ y
  same_at (enters i a at_a of_a is_a) (enters j b at_b of_b is_b) =
      let places : i ≡ j = ap (λ r. r.rank) (sym is_a ∙ is_b) in
      sym of_a ∙ ap enqueue_of (one_at lives j a b (subst (λ k. slice_get lives k ≡ Some a) places at_a) at_b) ∙ of_b
  same_at (leaves i a at_a of_a is_a) (leaves j b at_b of_b is_b) =
      let places : i ≡ j = ap (λ r. r.rank) (sym is_a ∙ is_b) in
      some_injective (sym of_a ∙ ap dequeue_of (one_at lives j a b (subst (λ k. slice_get lives k ≡ Some a) places at_a) at_b) ∙ of_b)
  same_at (noops b is_b) (noops c is_c) = same_call operations x y clear.complete in_x in_y (ap (λ r. r.rank) (sym is_b ∙ is_c))
  same_at (enters i a at_a of_a is_a) (leaves j b at_b of_b is_b) = absurd (enqueue_is_no_dequeue _ _ _ (are_gaps lives) i j (sym is_a ∙ is_b))
  same_at (leaves i a at_a of_a is_a) (enters j b at_b of_b is_b) = absurd (enqueue_is_no_dequeue _ _ _ (are_gaps lives) j i (sym is_b ∙ is_a))
  same_at (enters i a at_a of_a is_a) (noops c is_c) = absurd (noop_is_no_enqueue _ _ _ (are_gaps lives) p i (ap (λ r. r.class) is_c) is_a)
  same_at (noops c is_c) (enters j b at_b of_b is_b) = absurd (noop_is_no_enqueue _ _ _ (are_gaps lives) p j (ap (λ r. r.class) is_c) is_b)
  same_at (leaves i a at_a of_a is_a) (noops c is_c) = absurd (noop_is_no_dequeue _ _ _ (are_gaps lives) p i (ap (λ r. r.class) is_c) is_a)
  same_at (noops c is_c) (leaves j b at_b of_b is_b) = absurd (noop_is_no_dequeue _ _ _ (are_gaps lives) p j (ap (λ r. r.class) is_c) is_b)

  pub one_operation : IsPositionOf (on operations) lives x p → IsPositionOf (on operations) lives y p → x ≡ y
  one_operation at_x at_y = same_at (stands_as operations lives x x.kind p at_x) (stands_as operations lives y y.kind p at_y)
