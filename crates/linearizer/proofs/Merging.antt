-- The operations of the values are listed at their positions, and three rising lists are merged by position.
use Rattle.value_match.specs.declared.life.Source.{Source}
use Rattle.value_match.specs.declared.life.Source.TheVariants as source
use Rattle.value_match.specs.Times.{initial_enqueue, initial_time}
use Rattle.std.proofs.lemmas.List.Elements.{All-append}
use Rattle.linearizer.proofs.Common.{All, All-cons, All-contains, All-nil, All-push, ap, append-nil, append_assoc}
use Rattle.linearizer.proofs.Common.{arith, Bool, cases_lt, cons_option, contains_at, Contents}
use Rattle.linearizer.proofs.Common.{course_of, dequeue_gap, dequeue_of, dequeue_position, dequeues_of, did_dequeue}
use Rattle.linearizer.proofs.Common.{earlier_dequeues, enqueue_gap, enqueue_of, enqueue_position, enqueues}
use Rattle.linearizer.proofs.Common.{enqueues_of, false, filter_map-append, fold, gaps_in, get_or}
use Rattle.linearizer.proofs.Common.{get_or_from_slice_get, greatest_leaves_from, HoldsUpTo, HoldsValues}
use Rattle.linearizer.proofs.Common.{if◌then◌else◌, inl, inr, IsAhead, IsClear, IsDequeueFrom, IsEnqueueFrom, IsLife}
use Rattle.linearizer.proofs.Common.{IsMaybeOperation, IsMerge, IsMergedUpTo, IsNamed, IsNoopFrom, IsOperation}
use Rattle.linearizer.proofs.Common.{IsOrderOf, IsPermutation, IsPermutation-append_left, IsPermutation-cons}
use Rattle.linearizer.proofs.Common.{IsPermutation-middle, IsPermutation-refl, IsPermutation-sym}
use Rattle.linearizer.proofs.Common.{IsPermutation-to_front, IsPermutation-trans, IsPlaced, IsPositionFor, IsSource}
use Rattle.linearizer.proofs.Common.{IsAtHistoryPlace, IsTrue, IsValueFrom, IsValueOrder, leaves_from, length, Life}
use Rattle.linearizer.proofs.Common.{List, map}
use Rattle.linearizer.proofs.Common.{map-append, mapped_option, MatchedValue, MatchOption, max, MAX_INITIAL, nat_lt}
use Rattle.linearizer.proofs.Common.{NeverFall, None, NoneBelow, on, one_at, Operation, Option, option_map}
use Rattle.linearizer.proofs.Common.{ordered_lives, other_dequeues, pairs_at, Placed, placed_in}
use Rattle.linearizer.proofs.Common.{PlacesValues, Position, position_of, refl, same_lives, slice_get, slice_get-map}
use Rattle.linearizer.proofs.Common.{slice_get_within, Some, StandsBefore, subst, sym, take, take_all, Timed}
use Rattle.linearizer.proofs.Common.{timeline_of, told_of, true, ℕ, [], ◌++◌, ◌+◌, ◌<◌, ◌↔◌, ◌∙◌, ◌∷◌, ◌≡◌, ◌≤◌}
use Rattle.linearizer.proofs.Elements.{IsValueAt, lives_long, take_next, value_at, value_order_along}
use Rattle.linearizer.proofs.ValueOrder.{is_life}
use Rattle.std.proofs.lemmas.List.Quantifiers.{all_pairs_push}
use Rattle.linearizer.specs.declared.position.Position.{Position as Stored}
use Rattle.linearizer.proofs.Positions.{are_gaps}
use Rattle.linearizer.proofs.Runs.{before_through, dequeues_rise, enqueues_rise, not_both, not_itself, through}
use Rattle.history_merge.proofs.Lists.{at_place}

-- ---- the values' operations, each at its position

fold_max-append : (a : ℕ) (xs ys : List ℕ) → fold max a (xs ++ ys) ≡ fold max (fold max a xs) ys
fold_max-append a [] ys = refl
fold_max-append a (x ∷ xs) ys = fold_max-append (max a x) xs ys

-- one more element in the middle of a list
pub one_more_among : {X : Type 0} (xs ys zs : List X) (x : X) → IsPermutation (xs ++ ys) zs
    → IsPermutation ((xs ++ x ∷ []) ++ ys) (zs ++ x ∷ [])
one_more_among xs ys zs x moved = subst (λ l. IsPermutation l (zs ++ x ∷ [])) (sym (append_assoc xs (x ∷ []) ys))
    (IsPermutation-trans _ _ _ (IsPermutation-middle xs x ys)
    (IsPermutation-trans _ _ _ (IsPermutation-cons x _ zs moved)
    (IsPermutation-sym _ _ (IsPermutation-to_front zs x))))

-- the position of a dequeue placed at the greatest of these times
pub dequeue_stands : (lives : List Life) (i gap left later : ℕ) (position : Stored) → gap ≡ enqueue_gap lives i
    → left ≡ greatest_leaves_from (take (i + 1) lives) → later ≡ max left gap
    → position_of position
    ≡ record { gap = later; class = (if nat_lt gap later then earlier_dequeues else other_dequeues); rank = i }
    → position_of position ≡ dequeue_position lives i
dequeue_stands lives i gap left later position gap_is left_is later_is stands =
    let last : later ≡ dequeue_gap lives i = omega (arith, later_is, left_is, gap_is) in
    rw (← last, ← gap_is) stands

-- one more value
module _ (lives : List Life) (i : ℕ) (life : Life) (at : slice_get lives i ≡ Some life) where
  pub greatest_more : greatest_leaves_from (take (i + 1) lives)
      ≡ max (greatest_leaves_from (take i lives)) (leaves_from life)
  greatest_more =
      ap greatest_leaves_from (take_next lives i life at) ∙ ap (fold max 0) (map-append leaves_from (take i lives) (life ∷ []))
      ∙ fold_max-append 0 (map leaves_from (take i lives)) (leaves_from life ∷ [])

  enqueues_more : enqueues_of (take (i + 1) lives) ≡ enqueues_of (take i lives) ++ enqueue_of life ∷ []
  enqueues_more = ap enqueues_of (take_next lives i life at) ∙ map-append enqueue_of (take i lives) (life ∷ [])

  dequeues_more : dequeues_of (take (i + 1) lives) ≡ dequeues_of (take i lives) ++ cons_option (dequeue_of life) []
  dequeues_more = ap dequeues_of (take_next lives i life at) ∙ filter_map-append dequeue_of (take i lives) (life ∷ [])

-- the facts at a value's turn: its origin, the position of its dequeue, and the gap of its enqueue
pub record IsTurn (history : Contents) (lives : List Life) (i : ℕ) (m : MatchedValue) (gap : ℕ) : Type 0 where
  pub few : length history.initial ≤ MAX_INITIAL
  pub order : IsValueOrder (on (timeline_of history)) lives
  pub named : IsNamed history.initial history.operations m.source m.dequeue m.life
  pub at : slice_get lives i ≡ Some m.life
  pub gap_is : gap ≡ enqueue_gap lives i

module _ (history : Contents) (values : List MatchedValue) (order : List Timed) (i : ℕ) (t : Timed) (clear : IsClear (course_of history))
    (holds : HoldsValues history values) (is : IsOrderOf history order) (at : slice_get order i ≡ Some t) where
  -- the value read in a turn
  read : IsValueAt history values order i t.place
  read = value_at history values order i t holds is at

  -- it is one of the values
  pub turn_within : t.place < length values
  turn_within = slice_get_within values t.place read.value read.is_at

  -- the facts of a turn, from what is read in it
  pub turn_is : (m : MatchedValue) → m ≡ get_or values t.place m
      → IsTurn history (ordered_lives history order) i m t.time
  turn_is m reads =
      let same = reads ∙ get_or_from_slice_get values t.place read.value m read.is_at in
      let few = clear.complete.3 in
      record {
        few = few;
        order = value_order_along (course_of history) (on (timeline_of history)) _ (sym (same_lives history.initial history.operations)) is.in_order;
        named = subst (λ m. IsNamed history.initial history.operations m.source m.dequeue m.life) (sym same)
            (All-contains (λ m. IsNamed history.initial history.operations m.source m.dequeue m.life) values _ holds.named
            (contains_at values t.place read.value read.is_at));
        at = read.has_rank ∙ ap (λ m. Some m.life) (sym same);
        gap_is =
            sym (get_or_from_slice_get (gaps_in order) i t.time 0 (slice_get-map (λ (x : Timed). x.time) order i ∙ ap (option_map (λ (x : Timed). x.time)) at))
            ∙ is.gaps.at_each i (slice_get_within (ordered_lives history order) i read.value.life read.has_rank);
      }

-- nothing is placed at first
pub nothing_placed : (history : Contents) (lives : List Life) → HoldsUpTo history lives 0 0 0 []
nothing_placed history lives = record { left_is = refl; each_once = IsPermutation-refl []; each_placed = All-nil (IsPlaced history lives) }

-- all operations are placed
pub all_placed : (history : Contents) (order : List Timed) (i j left : ℕ) (placed : List Placed)
    → IsOrderOf history order
    → length order ≤ i → length order ≤ j → HoldsUpTo history (ordered_lives history order) i j left placed
    → PlacesValues history placed
all_placed history order i j left placed is all_in all_out so_far =
    let lives = ordered_lives history order in
    let long = lives_long history order is in
    record {
      lives = lives;
      in_order = is.in_order;
      each_once = subst (λ ls. IsPermutation (enqueues_of ls ++ dequeues_of lives) (placed_in placed)) (take_all i lives (omega arith))
          (subst (λ ls. IsPermutation (enqueues_of (take i lives) ++ dequeues_of ls) (placed_in placed)) (take_all j lives (omega arith)) so_far.each_once);
      each_placed = so_far.each_placed;
    }

-- the enqueue that a value comes from has its place, that of an initial value has none
source_told : (history : Contents) (source : Source) (o : Operation) → length history.initial ≤ MAX_INITIAL
    → IsSource history.initial history.operations source o → IsAtHistoryPlace history.operations (told_of source) o
source_told history (source.Enq place) o few at = at
source_told history (source.Initial place) o few at =
    let v = mapped_option (initial_enqueue (length history.initial) place) (slice_get history.initial place) o at in
    let within = slice_get_within history.initial place v.0 v.1 in
    let calls : initial_time (length history.initial) place ≡ o.call = ap (λ (x : Operation). x.call) v.2 in
    omega arith

-- the next enqueue is placed
module _ (history : Contents) (lives : List Life) (i : ℕ) (m : MatchedValue) (gap : ℕ)
    (turn : IsTurn history lives i m gap) where
  is : IsLife (on (timeline_of history)) m.life
  is = is_life (timeline_of history) lives turn.order m.life (contains_at lives i m.life turn.at)

  -- the placed enqueue
  abbrev pub enqueue_placed : Stored → Placed
  enqueue_placed position = record { operation = enqueue_of m.life; place = told_of m.source; position = position }

  -- one more enqueue is placed
  pub enqueue_more : (j left : ℕ) (placed : List Placed) (position : Stored) → HoldsUpTo history lives i j left placed
      → position_of position ≡ record { gap = gap; class = enqueues; rank = i }
      → HoldsUpTo history lives (i + 1) j left (placed ++ enqueue_placed position ∷ [])
  enqueue_more j left placed position so_far stands = record {
    left_is = so_far.left_is;
    each_once = subst (λ os. IsPermutation (os ++ dequeues_of (take j lives)) (placed_in (placed ++ enqueue_placed position ∷ [])))
        (sym (enqueues_more lives i m.life turn.at))
        (subst (IsPermutation ((enqueues_of (take i lives) ++ enqueue_of m.life ∷ []) ++ dequeues_of (take j lives)))
        (sym (map-append (λ p. p.operation) placed (enqueue_placed position ∷ []))) (one_more_among _ _ _ _ so_far.each_once));
    each_placed = All-push (IsPlaced history lives) placed (enqueue_placed position) so_far.each_placed (
      source_told history m.source (enqueue_of m.life) turn.few turn.named.0,
      subst (λ k. IsPositionFor (on (timeline_of history)) lives (enqueue_of m.life) k (position_of position)) (sym is.1.1)
          (i, m.life, turn.at, refl, stands ∙ ap (λ g. record { gap = g; class = enqueues; rank = i }) turn.gap_is),
    );
  }

-- the turn of the next dequeue
module _ (history : Contents) (lives : List Life) (j : ℕ) (m : MatchedValue) (gap left left' : ℕ) (turn : IsTurn history lives j m gap)
    (left_is : left' ≡ max (leaves_from m.life) left) (i : ℕ) (placed : List Placed) (so_far : HoldsUpTo history lives i j left placed) where
  -- the time from which all values up to the next dequeue can have left
  pub left_more : left' ≡ greatest_leaves_from (take (j + 1) lives)
  left_more = let more = greatest_more lives j m.life turn.at in omega (arith, more, left_is, so_far.left_is)

  with_rest : (rest : List Placed) → cons_option (dequeue_of m.life) [] ≡ placed_in rest
      → All (IsPlaced history lives) rest
      → HoldsUpTo history lives i (j + 1) left' (placed ++ rest)
  with_rest rest same each = record {
    left_is = left_more;
    each_once = subst (λ os. IsPermutation os (placed_in (placed ++ rest)))
        (append_assoc (enqueues_of (take i lives)) (dequeues_of (take j lives)) (cons_option (dequeue_of m.life) [])
        ∙ ap (λ os. enqueues_of (take i lives) ++ os) (sym (dequeues_more lives j m.life turn.at)))
        (subst (IsPermutation ((enqueues_of (take i lives) ++ dequeues_of (take j lives)) ++ cons_option (dequeue_of m.life) []))
        (ap (λ os. placed_in placed ++ os) same ∙ sym (map-append (λ p. p.operation) placed rest))
        (IsPermutation-append_left (cons_option (dequeue_of m.life) [])
        (enqueues_of (take i lives) ++ dequeues_of (take j lives)) (placed_in placed) so_far.each_once));
    each_placed = All-append (IsPlaced history lives) placed rest so_far.each_placed each;
  }

  -- a value that is never dequeued has its turn without placing anything
  pub turn_alone : m.dequeue ≡ None → HoldsUpTo history lives i (j + 1) left' placed
  turn_alone none = subst (HoldsUpTo history lives i (j + 1) left') (append-nil placed)
      (with_rest [] (nothing m.dequeue (dequeue_of m.life) none turn.named.1) (All-nil (IsPlaced history lives)))
    where
      nothing : (place : Option ℕ) (dequeue : Option Operation) → place ≡ None
          → IsMaybeOperation history.operations place dequeue
          → cons_option dequeue [] ≡ []
      nothing None None same at = refl
      nothing None (Some d) same at = absurd at
      nothing (Some p) dequeue same at = cc

  -- one more dequeue is placed
  pub turn_with_dequeue : (p later : ℕ) (position : Stored) → m.dequeue ≡ Some p → later ≡ max left' gap
      → position_of position
      ≡ record { gap = later; class = (if nat_lt gap later then earlier_dequeues else other_dequeues); rank = j }
      → (d : Operation) × HoldsUpTo history lives i (j + 1) left' (placed ++ record { operation = d; place = Some p; position = position } ∷ [])
  turn_with_dequeue p later position same later_is stands = one m.dequeue (dequeue_of m.life) same turn.named.1 refl
    where
      is : IsLife (on (timeline_of history)) m.life
      is = is_life (timeline_of history) lives turn.order m.life (contains_at lives j m.life turn.at)

      one : (place : Option ℕ) (dequeue : Option Operation) → place ≡ Some p
          → IsMaybeOperation history.operations place dequeue → dequeue_of m.life ≡ dequeue
          → (d : Operation) × HoldsUpTo history lives i (j + 1) left'
          (placed ++ record { operation = d; place = Some p; position = position } ∷ [])
      one None dequeue same at is_d = cc
      one (Some q) None same at is_d = absurd at
      one (Some q) (Some d) same at is_d =
          let here : q ≡ p = cc in (
            d,
            with_rest (record { operation = d; place = Some p; position = position } ∷ []) (ap (λ o. cons_option o []) is_d)
                (All-cons (IsPlaced history lives) _ [] (
                  subst (λ r. IsOperation history.operations r d) here at,
                  subst (λ k. IsPositionFor (on (timeline_of history)) lives d k (position_of position))
                      (sym (did_dequeue (timeline_of history) m.life d is is_d).1)
                      (j, m.life, turn.at, is_d, dequeue_stands lives j gap left' later position turn.gap_is left_more later_is stands),
                ) (All-nil (IsPlaced history lives))),
          )

-- ---- three lists merged into one

-- in a list of rising positions, no later position comes before an earlier one
none_later : (at : ℕ → Position) (count i : ℕ) (p : Position)
    → ((i j : ℕ) → i < j → j < count → StandsBefore (at i) (at j))
    → ((n : ℕ) × (i ≤ n) × (n < count) × (p ≡ at n)) → ¬ (StandsBefore p (at i))
none_later at count i p rise (n, above, within, is) before =
    let there = subst (λ p. StandsBefore p (at i)) is before in
    elim (cases_lt i n) [
      | inl later ↦ not_both (at i) (at n) (rise i n later within) there
      | inr here ↦ let same : n ≡ i = omega arith in not_itself (at i) (subst (λ k. StandsBefore (at k) (at i)) same there)
    ]

-- no enqueue that is left comes before the next
pub next_enqueue : (lives : List Life) (i : ℕ) (p : Position) → IsEnqueueFrom lives i p
    → ¬ (StandsBefore p (enqueue_position lives i))
next_enqueue lives i p from = none_later (enqueue_position lives) (length lives) i p
    (enqueues_rise (length lives) (enqueue_gap lives) (dequeue_gap lives) (are_gaps lives)) from

-- no dequeue that is left comes before the next
pub next_dequeue : (lives : List Life) (j : ℕ) (p : Position) → IsDequeueFrom lives j p
    → ¬ (StandsBefore p (dequeue_position lives j))
next_dequeue lives j p from = none_later (dequeue_position lives) (length lives) j p
    (dequeues_rise (length lives) (enqueue_gap lives) (dequeue_gap lives) (are_gaps lives)) from

-- no no-op that is left comes before the next
pub next_noop : (noops : List Placed) (k : ℕ) (x : Placed) (p : Position) → NeverFall noops
    → slice_get noops k ≡ Some x → IsNoopFrom noops k p
    → ¬ (StandsBefore p (position_of x.position))
next_noop noops k x p never at (n, y, above, at_n, is) before =
    let there = subst (λ p. StandsBefore p (position_of x.position)) is before in
    elim (cases_lt k n) [
      | inl later ↦ pairs_at (λ p q. ¬ (StandsBefore (position_of q.position) (position_of p.position))) noops k n x y never later at at_n there
      | inr here ↦
          let same : n ≡ k = omega arith in
          let one = one_at noops k y x (subst (λ m. slice_get noops m ≡ Some y) same at_n) at in
          not_itself (position_of x.position) (subst (λ z. StandsBefore (position_of z.position) (position_of x.position)) one there)
    ]

-- one more operation, which no operation ahead comes before
module _ (history : Contents) (lives : List Life) (noops : List Placed) (i j left k : ℕ) (places : List ℕ)
    (merged : IsMergedUpTo history lives noops i j left k places) where
  -- the merged list grows by an operation which no operation ahead comes before
  grown : (i' j' left' k' : ℕ) (x : Placed) (values' : List Placed) → HoldsUpTo history lives i' j' left' values'
      → IsPermutation ((merged.values ++ take k noops) ++ x ∷ []) (values' ++ take k' noops)
      → IsAhead lives noops i j k (position_of x.position)
      → ((p : Position) → IsAhead lives noops i' j' k' p
      → IsAhead lives noops i j k p × ¬ (StandsBefore p (position_of x.position)))
      → IsMergedUpTo history lives noops i' j' left' k' (places ++ cons_option x.place [])
  grown i' j' left' k' x values' held moved ahead still = record {
    values = values';
    held = held;
    sorted = merged.sorted ++ x ∷ [];
    each_once = IsPermutation-trans _ _ _ (IsPermutation-sym _ _ moved)
        (IsPermutation-append_left _ _ _ merged.each_once);
    never_fall = all_pairs_push (λ p q. ¬ (StandsBefore (position_of q.position) (position_of p.position))) _ x merged.never_fall
        (λ n d below. merged.none_below n d below (position_of x.position) ahead);
    none_below = All-push (λ y. NoneBelow (IsAhead lives noops i' j' k') (Some y.position)) _ x
        (λ n d below p is. merged.none_below n d below p (still p is).0) (λ p is. (still p is).1);
    places_are = ap (λ ps. ps ++ cons_option x.place []) merged.places_are ∙ sym (filter_map-append (λ p. p.place) merged.sorted (x ∷ []));
  }

  -- one more value, without a placed dequeue
  pub passed : (left' : ℕ) → HoldsUpTo history lives i (j + 1) left' merged.values
      → IsMergedUpTo history lives noops i (j + 1) left' k places
  passed left' held = record {
    values = merged.values;
    held = held;
    sorted = merged.sorted;
    each_once = merged.each_once;
    never_fall = merged.never_fall;
    none_below = λ n d below p is. merged.none_below n d below p (later p is);
    places_are = merged.places_are;
  }
    where
      later : (p : Position) → IsAhead lives noops i (j + 1) k p → IsAhead lives noops i j k p
      later p (inl (inl enqueue)) = inl (inl enqueue)
      later p (inl (inr dequeue)) = inl (inr (dequeue.0, omega (arith, dequeue.1), dequeue.2, dequeue.3))
      later p (inr noop) = inr noop

  value_moved : (x : Placed)
      → IsPermutation ((merged.values ++ take k noops) ++ x ∷ []) ((merged.values ++ x ∷ []) ++ take k noops)
  value_moved x = IsPermutation-sym _ _ (one_more_among _ _ _ x (IsPermutation-refl _))

  -- the next dequeue is added, once the no-ops and enqueues before it are
  pub dequeue_added : (left' : ℕ) (x : Placed) → HoldsUpTo history lives i (j + 1) left' (merged.values ++ x ∷ [])
      → j < length lives
      → position_of x.position ≡ dequeue_position lives j
      → NoneBelow (IsEnqueueFrom lives i) (Some x.position) → NoneBelow (IsNoopFrom noops k) (Some x.position)
      → IsMergedUpTo history lives noops i (j + 1) left' k (places ++ cons_option x.place [])
  dequeue_added left' x held within stands enqueues noops_after =
      grown i (j + 1) left' k x (merged.values ++ x ∷ []) held (value_moved x) (inl (inr (j, omega arith, within, stands))) still
    where
      still : (p : Position) → IsAhead lives noops i (j + 1) k p
          → IsAhead lives noops i j k p × ¬ (StandsBefore p (position_of x.position))
      still p (inl (inl is)) = (inl (inl is), enqueues p is)
      still p (inl (inr (n, above, inside, is))) =
          let from : IsDequeueFrom lives j p = (n, omega arith, inside, is) in
          (inl (inr from), subst (λ q. ¬ (StandsBefore p q)) (sym stands) (next_dequeue lives j p from))
      still p (inr is) = (inr is, noops_after p is)

  -- the next enqueue is added, once the dequeues and no-ops before it are
  pub enqueue_added : (x : Placed) → HoldsUpTo history lives (i + 1) j left (merged.values ++ x ∷ [])
      → i < length lives
      → position_of x.position ≡ enqueue_position lives i
      → NoneBelow (IsDequeueFrom lives j) (Some x.position) → NoneBelow (IsNoopFrom noops k) (Some x.position)
      → IsMergedUpTo history lives noops (i + 1) j left k (places ++ cons_option x.place [])
  enqueue_added x held within stands dequeues noops_after =
      grown (i + 1) j left k x (merged.values ++ x ∷ []) held (value_moved x) (inl (inl (i, omega arith, within, stands))) still
    where
      still : (p : Position) → IsAhead lives noops (i + 1) j k p
          → IsAhead lives noops i j k p × ¬ (StandsBefore p (position_of x.position))
      still p (inl (inl (n, above, inside, is))) =
          let from : IsEnqueueFrom lives i p = (n, omega arith, inside, is) in
          (inl (inl from), subst (λ q. ¬ (StandsBefore p q)) (sym stands) (next_enqueue lives i p from))
      still p (inl (inr is)) = (inl (inr is), dequeues p is)
      still p (inr is) = (inr is, noops_after p is)

  -- the next no-op is added, once the values' operations before it are
  pub noop_added : (x : Placed) → NeverFall noops → slice_get noops k ≡ Some x
      → NoneBelow (IsValueFrom lives i j) (Some x.position)
      → IsMergedUpTo history lives noops i j left (k + 1) (places ++ cons_option x.place [])
  noop_added x never at values = grown i j left _ x _ merged.held
      (subst (IsPermutation ((merged.values ++ take k noops) ++ x ∷ []))
      (append_assoc merged.values (take k noops) (x ∷ []) ∙ ap (λ xs. merged.values ++ xs) (sym (take_next noops k x at)))
      (IsPermutation-refl _)) (inr (k, x, omega arith, at, refl)) still
    where
      still : (p : Position) → IsAhead lives noops i j (k + 1) p
          → IsAhead lives noops i j k p × ¬ (StandsBefore p (position_of x.position))
      still p (inl is) = (inl is, values p is)
      still p (inr (n, y, above, at_n, is)) =
          let from : IsNoopFrom noops k p = (n, y, omega arith, at_n, is) in (inr from, next_noop noops k x p never at from)

-- nothing is merged at first
pub nothing_merged : (history : Contents) (lives : List Life) (noops : List Placed)
    → IsMergedUpTo history lives noops 0 0 0 0 []
nothing_merged history lives noops = record {
  values = [];
  held = nothing_placed history lives;
  sorted = [];
  each_once = IsPermutation-refl [];
  never_fall = λ i j d below within. absurd (omega arith);
  none_below = All-nil (λ x. NoneBelow (IsAhead lives noops 0 0 0) (Some x.position));
  places_are = refl;
}

-- an operation that doesn't come after the limit has none before it if nothing comes before the limit
pub below_next : (Is : Position → Type 0) (limit : Option Stored) (x : Stored) (told : Bool)
    → MatchOption limit (told ≡ false) (λ q. IsTrue told ↔ StandsBefore (position_of q) (position_of x)) → told ≡ false
    → NoneBelow Is limit → NoneBelow Is (Some x)
below_next Is None x told tells not none p is = absurd (none p is)
below_next Is (Some q) x told tells not none p is =
    through p (position_of q) (position_of x) (none p is) (λ before. let yes : told ≡ true = tells.1 before in cc)

-- nothing comes before the limit if nothing comes before an operation that comes after it
pub below_limit : (Is : Position → Type 0) (limit : Option Stored) (x : Stored) (told : Bool)
    → MatchOption limit (told ≡ false) (λ q. IsTrue told ↔ StandsBefore (position_of q) (position_of x)) → told ≡ true
    → NoneBelow Is (Some x) → NoneBelow Is limit
below_limit Is None x told tells is_after none p is = cc
below_limit Is (Some q) x told tells is_after none p is =
    λ before. none p is (before_through p (position_of q) (position_of x) before (tells.0 is_after))

-- without a limit no dequeue is left
all_dequeued : (lives : List Life) (j : ℕ) → NoneBelow (IsDequeueFrom lives j) None → length lives ≤ j
all_dequeued lives j none = elim (cases_lt j (length lives)) [
  | inr all ↦ all
  | inl more ↦ absurd (none (dequeue_position lives j) (j, omega arith, more, refl))
]

all_noop : (noops : List Placed) (k : ℕ) → NoneBelow (IsNoopFrom noops k) None → length noops ≤ k
all_noop noops k none = elim (cases_lt k (length noops)) [
  | inr all ↦ all
  | inl more ↦ let x = at_place noops k more in absurd (none (position_of x.0.position) (k, x.0, omega arith, x.1, refl))
]

-- all are merged
pub all_merged : (history : Contents) (order : List Timed) (noops : List Placed) (i j left k : ℕ) (places : List ℕ)
    → IsOrderOf history order → length order ≤ i → NoneBelow (IsDequeueFrom (ordered_lives history order) j) None
    → NoneBelow (IsNoopFrom noops k) None → IsMergedUpTo history (ordered_lives history order) noops i j left k places
    → IsMerge history noops places
all_merged history order noops i j left k places is all_in all_out none merged = (
  merged.values,
  all_placed history order i j left merged.values is all_in (omega
      (arith, all_dequeued (ordered_lives history order) j all_out, lives_long history order is)) merged.held,
  record {
    sorted = merged.sorted;
    holds_each_once = subst (λ xs. IsPermutation (merged.values ++ xs) merged.sorted) (take_all k noops (all_noop noops k none)) merged.each_once;
    never_falls = merged.never_fall;
    places_are = merged.places_are;
  },
)
