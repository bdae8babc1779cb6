-- The values and the gaps of their enqueues are put in order by repeated choice from two sorted lists with flags.
use Rattle.history_merge.proofs.Timelines.{length_timeline}
use Rattle.linearizer.proofs.Common.{All, All-contains, All-get_or, All-map, All-more, All-nil, All-permutation}
use Rattle.linearizer.proofs.Common.{All-push, All-weaker, ap, append-nil, append_assoc, AreByTime, AreCalledInTime}
use Rattle.linearizer.proofs.Common.{AreEnqueueGaps, arith, Bool, cases_lt, clear_life, clear_on, Contains}
use Rattle.linearizer.proofs.Common.{Contains-append_cases, Contains-append_left, Contains-append_right}
use Rattle.linearizer.proofs.Common.{Contains-get_or, Contains-permutation, Contains-push, Contains-push_cases}
use Rattle.linearizer.proofs.Common.{contains_at, Contents, course_of, dequeue_call, dequeue_return, drop}
use Rattle.linearizer.proofs.Common.{EachIsChoice, elements_at, enqueue_call, enqueue_gap, enqueue_return, entered_by}
use Rattle.linearizer.proofs.Common.{false, gaps_in, get_or, get_or_append_left, get_or_from_slice_get}
use Rattle.linearizer.proofs.Common.{get_or_push, HoldsValues, inl, inr, IsChoice, IsClear, IsDequeuedAt, IsFirstLeft}
use Rattle.linearizer.proofs.Common.{IsFirstOvertaker, IsInOrder, IsLeastBy, IsLeft, IsLife, IsNamed}
use Rattle.linearizer.proofs.Common.{IsNonDecreasingBy, IsOrderOf, IsPassedOver, IsPermutation, IsPermutation-cons}
use Rattle.linearizer.proofs.Common.{IsPermutation-map, IsPermutation-middle, IsPermutation-pop_more}
use Rattle.linearizer.proofs.Common.{IsPermutation-refl, IsPermutation-sym, IsPermutation-trans, IsTaken, IsTimeOf}
use Rattle.linearizer.proofs.Common.{IsValueOrder, least_entered_by, leaves_from, length, length-append, length-map}
use Rattle.linearizer.proofs.Common.{length-replicate, length-take, length_permutation, length_push, Life, life_from}
use Rattle.linearizer.proofs.Common.{life_value, List, lives_in, lives_of, map-append, mapped_from, mapped_to}
use Rattle.linearizer.proofs.Common.{MatchedValue, MAX_MATCHED, NEVER, nil_from_length, NoOrderViolation, not_in_none}
use Rattle.linearizer.proofs.Common.{on, one_at, Option, Overtakes, place_of, PLACES, places_in, refl, replicate}
use Rattle.linearizer.proofs.Common.{same_lives, set, slice_get, slice_get-get_or, slice_get_within, Some, subst, suc}
use Rattle.linearizer.proofs.Common.{sym, take, TakesOneOf, timed, Timed, timeline_of, true, value_lives, zero, ℕ, []}
use Rattle.linearizer.proofs.Common.{◌++◌, ◌+◌, ◌-◌, ◌<◌, ◌∙◌, ◌∷◌, ◌≡◌, ◌≤◌, ◌⊎◌}
use Rattle.linearizer.proofs.ValueOrder.{choice_in_other_order, least_at, made, stands_in_order, turn_of}
use Rattle.linearizer.proofs.Positions.{at_most_least, least_of_later}
use Rattle.linearizer.proofs.Times.{HasLifeTimes, history_times}
use Rattle.std.proofs.lemmas.List.{get_or-take, length-set}
use Rattle.linearizer.proofs.Elements.{elements_long, elements_push, from_some_and, lives_are}
use Rattle.linearizer.proofs.Elements.{value_order_along}
use Rattle.std.proofs.Math.Seq.{drop-append_seam}
use Rattle.history_merge.proofs.Lists.{at_place, some_of}

-- a choice isn't dequeued after a value that remains
pub no_later : (remaining : List Life) (x y : Life) → IsChoice remaining x → Contains remaining y
    → dequeue_call x ≤ dequeue_return x
    → dequeue_return y < dequeue_call x → ⊥
no_later remaining x y is among takes_time later =
    let returned = least_at dequeue_return remaining is.first_dequeued y is.dequeued_first among in
    elim (made remaining x is) [
      | inl dequeued ↦ omega (arith, ap dequeue_return dequeued.1)
      | inr entered ↦ omega (arith, ap leaves_from entered.1)
    ]

-- no two values are dequeued against the order of their enqueues
pub no_order_violation : (history : Contents) (lives : List Life) → IsClear (course_of history)
    → IsValueOrder (course_of history) lives
    → AreCalledInTime lives → NoOrderViolation (course_of history)
no_order_violation history lives clear order in_time a b violation =
    let stands = stands_in_order (timeline_of history) lives (clear_on history.initial history.operations clear)
    (value_order_along (course_of history) (on (timeline_of history)) lives (sym (same_lives history.initial history.operations)) order) in
    let at_a = place_of lives a (stands a (clear_life history.initial history.operations clear a violation.is_a)) in
    let at_b = place_of lives b (stands b (clear_life history.initial history.operations clear b violation.is_b)) in
    elim (cases_lt at_b.0 at_a.0) [
      | inl second ↦ omega (arith, least_of_later lives at_b.0 at_a.0 a (omega arith) at_a.1, in_time at_b.0 b at_b.1, violation.overtakes.0)
      | inr first ↦
          let turn = turn_of lives at_a.0 at_b.0 a b order.each_is_choice first at_a.1 at_b.1 in
          let times = history_times history clear a violation.is_a in
          no_later turn.remaining a b turn.is_choice turn.remains (omega (arith, times.dequeue_takes_time)) violation.overtakes.1
    ]

-- a value that is passed over is the first-dequeued value that overtakes another
module _ (history : Contents) (values : List MatchedValue) (clear : IsClear (course_of history)) (holds : HoldsValues history values)
    (b : MatchedValue) (passed : IsPassedOver values b) where
  is_b : IsLife (course_of history) b.life
  is_b = value_lives history.initial history.operations clear values holds b passed.is_value

  abbrev a : Life
  a = passed.is_next.first_entered

  is_a : IsLife (course_of history) a
  is_a = let m = mapped_from (λ m. m.life) values a (passed.among a passed.is_next.enters_first.0) in
      subst (IsLife (course_of history)) m.2 (value_lives history.initial history.operations clear values holds m.0 m.1)

  -- the first entered of those left has entered when b is called
  entered_before : entered_by a < enqueue_call b.life
  entered_before =
      let least = least_at entered_by passed.remaining a passed.entered passed.is_next.enters_first passed.is_left in
      omega (arith, least, passed.too_late)

  -- so b is the first dequeued
  dequeued_first : (dequeue_return passed.is_next.first_dequeued < leaves_from a)
      × (b.life ≡ passed.is_next.first_dequeued)
  dequeued_first = elim (made passed.remaining b.life passed.is_next) [
    | inl dequeued ↦ dequeued
    | inr entered ↦
        absurd (omega (arith, ap entered_by entered.1, (history_times history clear b.life is_b).enters_after_call, entered_before))
  ]

  before : (x : Life) → Contains passed.remaining x → dequeue_return b.life ≤ dequeue_return x
  before x among =
      let least = least_at dequeue_return passed.remaining passed.is_next.first_dequeued x passed.is_next.dequeued_first among in
      omega (arith, ap dequeue_return dequeued_first.1)

  overtakes : Overtakes b.life a
  overtakes =
      let times_a = history_times history clear a is_a in
      let times_b = history_times history clear b.life is_b in
      let sooner = before a passed.is_next.enters_first.0 in
      omega (arith, entered_before, dequeued_first.0, ap dequeue_return dequeued_first.1)

  pub is_first_overtaker : IsFirstOvertaker history b
  is_first_overtaker = record {
    is_life = is_b;
    named = All-contains (λ m. IsNamed history.initial history.operations m.source m.dequeue m.life) values b holds.named passed.is_value;
    overtaken = a;
    overtaken_is_life = is_a;
    overtakes = overtakes;
    first = λ x y is_x is_y over.
        let m = life_value history.initial history.operations clear values holds x is_x in
        let n = life_value history.initial history.operations clear values holds y is_y in
        let left = passed.are_left m.0 n.0 m.1 n.1 (subst (λ l. Overtakes m.0.life l) (sym n.2) (subst (λ l. Overtakes l y) (sym m.2) over)) in
        before x (subst (Contains passed.remaining) m.2 left);
  }

  -- so two values are dequeued against the order of their enqueues
  pub passed_over : ¬ (NoOrderViolation (course_of history))
  passed_over none =
      let called = history_times history clear b.life is_b in
      let never = history_times history clear a is_a in
      let dequeued : dequeue_call b.life < NEVER = omega (arith, called.dequeue_takes_time, never.leaves_by_never, overtakes.1) in
      none a b.life (record { is_a = is_a; is_b = is_b; is_dequeued = dequeued; overtakes = overtakes })

-- the values of a matching have the times of lives
pub each_has_times : (history : Contents) (values : List MatchedValue) → IsClear (course_of history)
    → HoldsValues history values
    → All (λ value. HasLifeTimes value.life) values
each_has_times history values clear holds k d within =
    history_times history clear _ (value_lives history.initial history.operations clear values holds _ (Contains-get_or values k d within))

-- there are no more values than places
pub few_values : (history : Contents) (values : List MatchedValue) → IsClear (course_of history)
    → HoldsValues history values
    → length history.initial + length history.operations ≤ MAX_MATCHED → length values ≤ PLACES
few_values history values clear holds few =
    let all = timeline_of history in
    let same : length values ≡ length (lives_of all) =
    sym (length-map values (λ m. m.life)) ∙ ap (λ lives. length lives) (holds.lives ∙ sym (same_lives history.initial history.operations)) in
    omega (arith, same, some_of (λ o. life_from all o o.kind) all, length_timeline history.initial history.operations)

-- ---- the values that are left, and the first of them in a sorted list

-- the elements whose flag isn't set
abbrev pub left_of : {X : Type 0} → List X → List Bool → List X
left_of [] taken = []
left_of (x ∷ xs) [] = []
left_of (x ∷ xs) (true ∷ taken) = left_of xs taken
left_of (x ∷ xs) (false ∷ taken) = x ∷ left_of xs taken

-- all are left at first
pub all_left : {X : Type 0} (xs : List X) → left_of xs (replicate (length xs) false) ≡ xs
all_left [] = refl
all_left (x ∷ xs) = ap (λ rest. x ∷ rest) (all_left xs)

-- an element that is left is at a place whose flag isn't set
pub place_left : {X : Type 0} (xs : List X) (taken : List Bool) (i : ℕ) (x : X)
    → slice_get (left_of xs taken) i ≡ Some x
    → (p : ℕ) × (slice_get xs p ≡ Some x) × (slice_get taken p ≡ Some false)
place_left [] taken i x at = cc
place_left (y ∷ ys) [] i x at = cc
place_left (y ∷ ys) (true ∷ taken) i x at = let later = place_left ys taken i x at in (suc later.0, later.1, later.2)
place_left (y ∷ ys) (false ∷ taken) zero x at = (zero, at, refl)
place_left (y ∷ ys) (false ∷ taken) (suc i) x at = let later = place_left ys taken i x at in (suc later.0, later.1, later.2)

-- setting the flag of an element that is left takes that element
pub one_taken : {X : Type 0} (xs : List X) (taken : List Bool) (p : ℕ) (x : X) → slice_get xs p ≡ Some x
    → slice_get taken p ≡ Some false
    → IsPermutation (left_of xs taken) (x ∷ left_of xs (set taken p true))
one_taken [] taken p x at flag = cc
one_taken (y ∷ ys) [] p x at flag = cc
one_taken (y ∷ ys) (true ∷ taken) zero x at flag = cc
one_taken (y ∷ ys) (true ∷ taken) (suc p) x at flag = one_taken ys taken p x at flag
one_taken (y ∷ ys) (false ∷ taken) zero x at flag =
    let same : y ≡ x = cc in subst (λ z. IsPermutation (y ∷ left_of ys taken) (z ∷ left_of ys taken)) same (IsPermutation-refl (y ∷ left_of ys taken))
one_taken (y ∷ ys) (false ∷ taken) (suc p) x at flag =
    let rest = left_of ys (set taken p true) in
    IsPermutation-trans (y ∷ left_of ys taken) (y ∷ x ∷ rest) (x ∷ y ∷ rest)
    (IsPermutation-cons y (left_of ys taken) (x ∷ rest) (one_taken ys taken p x at flag)) (IsPermutation-middle (y ∷ []) x rest)

-- an element whose flag isn't set is left
pub left_where : {X : Type 0} (xs : List X) (taken : List Bool) (p : ℕ) (x : X) → slice_get xs p ≡ Some x
    → slice_get taken p ≡ Some false
    → Contains (left_of xs taken) x
left_where xs taken p x at flag =
    let rest = left_of xs (set taken p true) in
    Contains-permutation _ _ x (IsPermutation-sym _ _ (one_taken xs taken p x at flag)) (zero, omega arith, refl)

-- a flag that is set stays set
pub flag_stays : (taken : List Bool) (p k : ℕ) → slice_get taken k ≡ Some true
    → slice_get (set taken p true) k ≡ Some true
flag_stays [] p k is = cc
flag_stays (b ∷ taken) zero zero is = refl
flag_stays (b ∷ taken) zero (suc k) is = is
flag_stays (b ∷ taken) (suc p) zero is = is
flag_stays (b ∷ taken) (suc p) (suc k) is = flag_stays taken p k is

-- entries for those values before place i that have such a time
pub record AreTimedSoFar (number : Life → ℕ) (values : List MatchedValue) (i : ℕ) (entries : List Timed) : Type 0 where
  pub are_timed : All (IsTimeOf number values) entries
  pub are_past : All (λ timed. timed.time < NEVER) entries
  pub has_each : (place : ℕ) (m : MatchedValue) → place < i → slice_get values place ≡ Some m → number m.life < NEVER
      → (timed : Timed) × Contains entries timed × (timed.place ≡ place)

module _ (number : Life → ℕ) (values : List MatchedValue) (i : ℕ) (entries : List Timed) (m : MatchedValue)
    (so_far : AreTimedSoFar number values i entries) (at : slice_get values i ≡ Some m) where
  -- one more value, with its time
  pub one_more_timed : (time : ℕ) → time ≡ number m.life → number m.life < NEVER
      → AreTimedSoFar number values (i + 1) (entries ++ record { time = time; place = i } ∷ [])
  one_more_timed time is past =
      let last : Timed = record { time = time; place = i } in
      record {
        are_timed = All-push (IsTimeOf number values) entries last so_far.are_timed (rw at is);
        are_past = All-push (λ timed. timed.time < NEVER) entries last so_far.are_past (omega (arith, is));
        has_each = λ place x below here less. elim (cases_lt place i) [
          | inl before ↦
              let found = so_far.has_each place x before here less in
              (found.0, Contains-append_left entries (last ∷ []) found.0 found.1, found.2)
          | inr more ↦ (last, Contains-push entries last, omega arith)
        ];
      }

  -- one more value, which has no such time
  pub none_more_timed : NEVER ≤ number m.life → AreTimedSoFar number values (i + 1) entries
  none_more_timed never = record {
    are_timed = so_far.are_timed;
    are_past = so_far.are_past;
    has_each = λ place x below here less. elim (cases_lt place i) [
      | inl before ↦ so_far.has_each place x before here less
      | inr more ↦
          let same : i ≡ place = omega arith in
          let one : x ≡ m = one_at values i x m (ap (slice_get values) same ∙ here) at in
          absurd (omega (arith, ap (λ y. number y.life) one))
    ];
  }

-- the same entries in another order
moved_so_far : (number : Life → ℕ) (values : List MatchedValue) (n : ℕ) (entries moved : List Timed)
    → AreTimedSoFar number values n entries
    → IsPermutation entries moved → AreTimedSoFar number values n moved
moved_so_far number values n entries moved are permutes = record {
  are_timed = All-permutation (IsTimeOf number values) entries moved permutes are.are_timed;
  are_past = All-permutation (λ timed. timed.time < NEVER) entries moved permutes are.are_past;
  has_each = λ place m below at less.
      let found = are.has_each place m below at less in
      (found.0, Contains-permutation entries moved found.0 permutes found.1, found.2);
}

-- all values with their times, sorted
pub sorted_by_time : (number : Life → ℕ) (values : List MatchedValue) (n : ℕ) (entries sorted : List Timed)
    → AreTimedSoFar number values n entries
    → length values ≤ n → IsPermutation entries sorted → IsNonDecreasingBy (λ timed. timed.time) sorted
    → AreByTime number values sorted
sorted_by_time number values n entries sorted so_far all permutes rises =
    let are = moved_so_far number values n entries sorted so_far permutes in record {
      never_falls = rises;
      are_timed = are.are_timed;
      are_past = are.are_past;
      has_each = λ place m at less. are.has_each place m (let within = slice_get_within values place m at in omega (arith, within, all)) at less;
    }

-- an entry before the cursor is taken, so one that is left is at or after it
stands_after : (taken : List Bool) (entries : List Timed) (i k : ℕ) (timed : Timed)
    → All (IsTaken taken) (take i entries)
    → slice_get entries k ≡ Some timed → IsLeft taken timed → i ≤ k
stands_after taken entries i k timed before at flag = elim (cases_lt k i) [
  | inr after ↦ after
  | inl below ↦
      let inside = slice_get_within entries k timed at in
      let read = get_or-take i entries k timed below ∙ get_or_from_slice_get entries k timed timed at in
      let is_taken = subst (IsTaken taken) read (before k timed (omega (arith, length-take i entries))) in
      let both : ◌≡◌ {A = Option Bool} (Some true) (Some false) = sym is_taken ∙ flag in
      cc
]

-- while some value is left, the walk along the entries ends before their end
pub not_past : (taken : List Bool) (entries : List Timed) (i : ℕ) → All (IsTaken taken) (take i entries)
    → (timed : Timed) × Contains entries timed × IsLeft taken timed → i < length entries
not_past taken entries i before left =
    let place = place_of entries left.0 left.1 in
    let after = stands_after taken entries i place.0 left.0 before place.1 left.2 in
    let inside = slice_get_within entries place.0 left.0 place.1 in
    omega arith

flag_at : (taken : List Bool) (entries : List Timed) (i : ℕ) (d : Timed) (e b : Bool)
    → All (λ timed. timed.place < length taken) entries
    → i < length entries → get_or taken (get_or entries i d).place e ≡ b
    → slice_get taken (get_or entries i d).place ≡ Some b
flag_at taken entries i d e b flagged within is =
    slice_get-get_or taken (get_or entries i d).place e (All-get_or (λ timed. timed.place < length taken) entries i d within flagged) ∙ ap Some is

-- the walk continues past an entry that is taken
pub walked : (taken : List Bool) (entries : List Timed) (i : ℕ) (d : Timed) (e : Bool)
    → All (λ timed. timed.place < length taken) entries
    → All (IsTaken taken) (take i entries) → i < length entries
    → get_or taken (get_or entries i d).place e ≡ true → All (IsTaken taken) (take (i + 1) entries)
walked taken entries i d e flagged before within is =
    All-more (IsTaken taken) entries i d within before (flag_at taken entries i d e true flagged within is)

-- the walk ends at an entry that isn't taken
pub stopped : (taken : List Bool) (entries : List Timed) (i : ℕ) (d : Timed) (e : Bool)
    → All (λ timed. timed.place < length taken) entries
    → All (IsTaken taken) (take i entries) → i < length entries
    → get_or taken (get_or entries i d).place e ≡ false → IsFirstLeft entries taken i
stopped taken entries i d e flagged before within is = record {
  before = before;
  is_left = λ timed at.
      subst (IsLeft taken) (get_or_from_slice_get entries i timed d at) (flag_at taken entries i d e false flagged within is);
}

-- the walk ends past the last entry
pub ended : (taken : List Bool) (entries : List Timed) (i : ℕ) → All (IsTaken taken) (take i entries)
    → length entries ≤ i → IsFirstLeft entries taken i
ended taken entries i before past = record {
  before = before;
  is_left = λ timed at. absurd (let within = slice_get_within entries i timed at in omega (arith, within, past));
}

-- the first entry whose value is left has the least time of the values that are left
pub record IsLeastLeft (number : Life → ℕ) (values : List MatchedValue) (taken : List Bool)
    (timed : Timed) : Type 0 where
  pub value : MatchedValue
  pub is_at : slice_get values timed.place ≡ Some value
  pub time_is : timed.time ≡ number value.life
  pub is_left : IsLeft taken timed
  pub is_least : IsLeastBy number (lives_in (left_of values taken)) value.life

module _ (number : Life → ℕ) (values : List MatchedValue) (entries : List Timed) (taken : List Bool)
    (are : AreByTime number values entries) where
  value_of : (k : ℕ) (timed : Timed) → slice_get entries k ≡ Some timed
      → (m : MatchedValue) × (slice_get values timed.place ≡ Some m) × (timed.time ≡ number m.life)
  value_of k timed at = from_some_and _ (λ m. timed.time ≡ number m.life)
      (All-contains (IsTimeOf number values) _ timed are.are_timed (contains_at entries k timed at))

  -- a value that is left and has such a time has its entry at the cursor or later
  entry_of : (i : ℕ) (first : IsFirstLeft entries taken i) (y : MatchedValue) → Contains (left_of values taken) y
      → number y.life < NEVER
      → (k : ℕ) × (timed : Timed) × (slice_get entries k ≡ Some timed) × (i ≤ k) × (timed.time ≡ number y.life)
  entry_of i first y among past =
      let at = place_of (left_of values taken) y among in
      let place = place_left values taken at.0 y at.1 in
      let entry = are.has_each place.0 y place.1 past in
      let stands = place_of entries entry.0 entry.1 in
      let value = value_of stands.0 entry.0 stands.1 in
      let same = one_at values place.0 value.0 y (sym (ap (slice_get values) entry.2) ∙ value.1) place.1 in (
        stands.0,
        entry.0,
        stands.1,
        stands_after taken entries i stands.0 entry.0 first.before stands.1 (ap (slice_get taken) entry.2 ∙ place.2),
        value.2 ∙ ap (λ m. number m.life) same,
      )

  least_among : (m : MatchedValue) → Contains (left_of values taken) m
      → ((y : MatchedValue) → Contains (left_of values taken) y → number m.life ≤ number y.life)
      → IsLeastBy number (lives_in (left_of values taken)) m.life
  least_among m among each = (
    mapped_to (λ m. m.life) (left_of values taken) m among,
    All-map (λ other. number m.life ≤ number other) (λ m. m.life) (left_of values taken)
        (λ k d within. each (get_or (left_of values taken) k d) (Contains-get_or (left_of values taken) k d within)),
  )

  -- the value of the first entry that is left is the least of those left
  pub least_left : (i : ℕ) (first : IsFirstLeft entries taken i) (x : Timed) → slice_get entries i ≡ Some x
      → IsLeastLeft number values taken x
  least_left i first x at =
      let found = value_of i x at in
      let left = first.is_left x at in
      record {
        value = found.0;
        is_at = found.1;
        time_is = found.2;
        is_left = left;
        is_least = least_among found.0 (left_where values taken x.place found.0 found.1 left) (λ y among. elim (cases_lt (number y.life) NEVER) [
          | inl past ↦
              let entry = entry_of i first y among past in
              let rises = are.never_falls i entry.0 x entry.3 (slice_get_within entries entry.0 entry.1 entry.2) in
              let here = ap (λ (e : Timed). e.time) (get_or_from_slice_get entries i x x at) in
              let there = ap (λ (e : Timed). e.time) (get_or_from_slice_get entries entry.0 entry.1 x entry.2) in
              omega (arith, found.2, entry.4)
          | inr never ↦ omega (arith, found.2, All-contains (λ timed. timed.time < NEVER) entries x are.are_past (contains_at entries i x at))
        ]);
      }

  -- past the last entry none of those left has such a time, so each of them is the least
  pub none_sooner : (i : ℕ) (first : IsFirstLeft entries taken i) → length entries ≤ i
      → All (λ m. number m.life ≤ NEVER) values
      → (place : ℕ) (m : MatchedValue) → slice_get values place ≡ Some m → slice_get taken place ≡ Some false
      → IsLeastLeft number values taken (record { time = NEVER; place = place })
  none_sooner i first past bounded place m at left =
      let among = left_where values taken place m at left in
      let never : (y : MatchedValue) → Contains (left_of values taken) y → NEVER ≤ number y.life = λ y in_left.
      elim (cases_lt (number y.life) NEVER) [
        | inl less ↦ let entry = entry_of i first y in_left less in absurd (omega (arith, entry.3, slice_get_within entries entry.0 entry.1 entry.2))
        | inr late ↦ late
      ] in
      let most = All-contains (λ x. number x.life ≤ NEVER) values m bounded (contains_at values place m at) in
      record {
        value = m;
        is_at = at;
        time_is = omega (arith, never m among);
        is_left = left;
        is_least = least_among m among (λ y in_left. omega (arith, never y in_left));
      }

-- the value at this place is left, and is the choice
pub record IsNext (values : List MatchedValue) (taken : List Bool) (place : ℕ) : Type 0 where
  pub value : MatchedValue
  pub is_at : slice_get values place ≡ Some value
  pub is_left : slice_get taken place ≡ Some false
  pub is_choice : IsChoice (lives_in (left_of values taken)) value.life

-- the value taken from the two lists is the choice
pub chosen : (values : List MatchedValue) (taken : List Bool) (first_in first_out : Timed) (place : ℕ)
    → IsLeastLeft entered_by values taken first_in
    → IsLeastLeft dequeue_return values taken first_out → TakesOneOf values first_in first_out place
    → IsNext values taken place
chosen values taken first_in first_out place a b takes = elim (takes a.value a.is_at) [
  | inl dequeued ↦ next b.value (ap (slice_get values) dequeued.1 ∙ b.is_at) (ap (slice_get taken) dequeued.1 ∙ b.is_left) (λ _. refl)
      (λ more. absurd (omega (arith, b.time_is, dequeued.0)))
  | inr entered ↦ next a.value (ap (slice_get values) entered.1 ∙ a.is_at) (ap (slice_get taken) entered.1 ∙ a.is_left)
      (λ less. absurd (omega (arith, b.time_is, entered.0))) (λ _. refl)
]
  where
    next : (value : MatchedValue) → slice_get values place ≡ Some value → slice_get taken place ≡ Some false
        → (dequeue_return b.value.life < leaves_from a.value.life → value.life ≡ b.value.life)
        → (leaves_from a.value.life ≤ dequeue_return b.value.life → value.life ≡ a.value.life)
        → IsNext values taken place
    next value is_at is_left takes_dequeued takes_entered = record {
      value = value;
      is_at = is_at;
      is_left = is_left;
      is_choice = record {
        first_entered = a.value.life;
        first_dequeued = b.value.life;
        enters_first = a.is_least;
        dequeued_first = b.is_least;
        takes_dequeued = takes_dequeued;
        takes_entered = takes_entered;
      };
    }

-- the values at the two cursors give the choice
pub next_at : (values : List MatchedValue) (entries dequeues : List Timed) (taken : List Bool) (i j : ℕ)
    (first_in first_out : Timed) (place : ℕ)
    → AreByTime entered_by values entries → AreByTime dequeue_return values dequeues → All (λ m. dequeue_return m.life ≤ NEVER) values
    → IsFirstLeft entries taken i → IsFirstLeft dequeues taken j → slice_get entries i ≡ Some first_in
    → IsDequeuedAt dequeues j first_in.place first_out → TakesOneOf values first_in first_out place → IsNext values taken place
next_at values entries dequeues taken i j first_in first_out place are_in are_out bounded a b is_in is_out takes =
    let least = least_left entered_by values entries taken are_in i a first_in is_in in
    chosen values taken first_in first_out place least (elim is_out [
      | inl at ↦ least_left dequeue_return values dequeues taken are_out j b first_out at
      | inr none ↦ subst (IsLeastLeft dequeue_return values taken) (sym none.1)
          (none_sooner dequeue_return values dequeues taken are_out j b none.0 bounded first_in.place least.value least.is_at least.is_left)
    ]) takes

-- ---- the values in order, each with the gap just before the least entry of those left

-- the least entry of some lives, in any order
pub least_is : (remaining lives : List Life) (first : Life) → IsLeastBy entered_by remaining first
    → IsPermutation remaining lives
    → entered_by first ≤ NEVER → least_entered_by lives ≡ entered_by first
least_is remaining lives first least moved bound =
    let place = place_of lives first (Contains-permutation remaining lives first moved least.0) in
    let at_most = least_of_later lives 0 place.0 first (omega arith) place.1 in
    let at_least = at_most_least lives 0 (entered_by first) bound (λ j y le at. All-contains (λ y. entered_by first ≤ entered_by y) remaining y least.1
    (Contains-permutation lives remaining y (IsPermutation-sym remaining lives moved) (contains_at lives j y at))) in
    omega (arith, at_most, at_least)

-- the first values have these gaps, and are called in time
abbrev pub HaveGaps : List Life → List ℕ → Type 0
HaveGaps lives gaps = (i : ℕ) (life : Life) → i < length gaps → slice_get lives i ≡ Some life
    → (get_or gaps i 0 ≡ enqueue_gap lives i) × (enqueue_call life ≤ least_entered_by (drop i lives))

-- no gap is found at first
pub no_gaps : (lives : List Life) → HaveGaps lives []
no_gaps lives i life below at = absurd (omega arith)

here_is : (done : List Life) (x y : Life) (rest : List Life) (i : ℕ) → i ≡ length done
    → slice_get (done ++ x ∷ rest) i ≡ Some y → x ≡ y
here_is [] x y rest zero same at = cc
here_is [] x y rest (suc i) same at = absurd (omega arith)
here_is (z ∷ done) x y rest zero same at = absurd (omega arith)
here_is (z ∷ done) x y rest (suc i) same at = here_is done x y rest i (omega arith) at

-- one more value has its gap
pub one_gap_more : (done : List Life) (x : Life) (rest : List Life) (gaps : List ℕ) (time : ℕ)
    → length gaps ≡ length done
    → least_entered_by (x ∷ rest) ≡ time → enqueue_call x ≤ time → HaveGaps (done ++ x ∷ rest) gaps
    → HaveGaps (done ++ x ∷ rest) (gaps ++ (time - 1) ∷ [])
one_gap_more done x rest gaps time long least called so_far i life below at = elim cases [
  | inl before ↦
      let it = so_far i life before at in
      (get_or_append_left gaps ((time - 1) ∷ []) 0 i before ∙ it.0, it.1)
  | inr here ↦
      let one = ap enqueue_call (here_is done x life rest i (here ∙ long) at) in
      (get_or_push gaps (time - 1) 0 i (sym here) ∙ sym (ap (λ n. n - 1) (first i here)), omega (arith, one, called, first i here))
]
  where
    within : i < length gaps + 1
    within = omega (arith, below, length_push gaps (time - 1))

    cases : (i < length gaps) ⊎ (i ≡ length gaps)
    cases = grind (arith, within)

    first : (k : ℕ) → k ≡ length gaps → least_entered_by (drop k (done ++ x ∷ rest)) ≡ time
    first k same = ap (λ n. least_entered_by (drop n (done ++ x ∷ rest))) (same ∙ long)
        ∙ ap least_entered_by (drop-append_seam done (x ∷ rest)) ∙ least

-- the gaps of all enqueues are found
pub all_gaps : (lives : List Life) (gaps : List ℕ) → length gaps ≡ length lives → HaveGaps lives gaps
    → AreEnqueueGaps lives gaps × AreCalledInTime lives
all_gaps lives gaps long have = (
  record { one_each = long; at_each = λ i below. let life = at_place lives i below in (have i life.0 (omega (arith, long)) life.1).0 },
  λ i life at. (have i life (omega (arith, long, slice_get_within lives i life at)) at).1,
)

-- the values that are done: each is the choice among itself and all that may come after it, is called in time and has
-- its gap; none of them overtakes another value or is overtaken
pub record IsOrderedSoFar (values done left : List MatchedValue) (gaps : List ℕ) : Type 0 where
  pub settled : (x a : MatchedValue) → Contains values x → Contains values a → Contains done x ⊎ Contains done a
      → ¬ (Overtakes x.life a.life)
  pub holds_each_once : IsPermutation values (done ++ left)
  pub each_is_choice : (rest : List Life) → IsPermutation (lives_in left) rest → EachIsChoice rest
      → EachIsChoice (lives_in done ++ rest)
  pub one_gap_each : length gaps ≡ length (lives_in done)
  pub have_gaps : (rest : List Life) → IsPermutation (lives_in left) rest → HaveGaps (lives_in done ++ rest) gaps

-- no value is in order at first
pub none_ordered : (values : List MatchedValue) → IsOrderedSoFar values [] values []
none_ordered values = record {
  settled = λ x a in_x in_a is overtakes. elim is [ inl done ↦ not_in_none x done | inr done ↦ not_in_none a done ];
  holds_each_once = IsPermutation-refl values;
  each_is_choice = λ rest moved each. each;
  one_gap_each = refl;
  have_gaps = λ rest moved. no_gaps rest;
}

-- the choice among those left comes next if it is called before the first of these has entered
pub ordered_more : (values done left left' : List MatchedValue) (x : MatchedValue) (first : Life) (time : ℕ)
    (gaps : List ℕ)
    → IsOrderedSoFar values done left gaps → IsPermutation left (x ∷ left') → IsChoice (lives_in left) x.life
    → IsLeastBy entered_by (lives_in left) first → entered_by first ≤ NEVER → time ≡ entered_by first → enqueue_call x.life ≤ time
    → dequeue_call x.life ≤ dequeue_return x.life → IsOrderedSoFar values (done ++ x ∷ []) left' (gaps ++ (time - 1) ∷ [])
ordered_more values done left left' x first time gaps so_far moved chosen least bound time_is called takes_time = record {
  settled = λ y a in_y in_a is overtakes. elim is [
    | inl now ↦ elim (Contains-push_cases done x y now) [
      | inl done_y ↦ so_far.settled y a in_y in_a (inl done_y) overtakes
      | inr same ↦ elim (done_or_left a in_a) [
        | inl done_a ↦ so_far.settled y a in_y in_a (inr done_a) overtakes
        | inr left_a ↦ overtakes_none a left_a (subst (λ (z : MatchedValue). Overtakes z.life a.life) (sym same) overtakes)
      ]
    ]
    | inr now ↦ elim (Contains-push_cases done x a now) [
      | inl done_a ↦ so_far.settled y a in_y in_a (inr done_a) overtakes
      | inr same ↦ elim (done_or_left y in_y) [
        | inl done_y ↦ so_far.settled y a in_y in_a (inl done_y) overtakes
        | inr left_y ↦ no_later _ x.life y.life chosen (mapped_to (λ m. m.life) left y left_y) takes_time
            (subst (λ (z : MatchedValue). Overtakes y.life z.life) (sym same) overtakes).1
      ]
    ]
  ];
  holds_each_once = IsPermutation-pop_more values done left left' x so_far.holds_each_once moved;
  each_is_choice = λ rest other each.
      let all = through rest other in
      let whole = so_far.each_is_choice (x.life ∷ rest) all (choice_in_other_order _ _ x.life all chosen, each) in
      rw (map-append (λ m. m.life) done (x ∷ []), append_assoc (lives_in done) (x.life ∷ []) rest) whole;
  one_gap_each = length_push gaps _ ∙ ap (λ n. n + 1) so_far.one_gap_each
      ∙ sym (ap length (map-append (λ m. m.life) done (x ∷ [])) ∙ length_push _ x.life);
  have_gaps = λ rest other.
      let all = through rest other in
      let entry = least_is _ _ first least all bound ∙ sym time_is in
      let whole = one_gap_more _ x.life rest gaps time so_far.one_gap_each entry called (so_far.have_gaps (x.life ∷ rest) all) in
      rw (map-append (λ m. m.life) done (x ∷ []), append_assoc (lives_in done) (x.life ∷ []) rest) whole;
}
  where
    done_or_left : (y : MatchedValue) → Contains values y → Contains done y ⊎ Contains left y
    done_or_left y among = Contains-append_cases done left y (Contains-permutation values (done ++ left) y so_far.holds_each_once among)

    -- it is called before any of those left has entered
    overtakes_none : (a : MatchedValue) → Contains left a → ¬ (Overtakes x.life a.life)
    overtakes_none a left_a overtakes =
        let enters = least_at entered_by (lives_in left) first a.life least (mapped_to (λ m. m.life) left a left_a) in
        let returns : entered_by a.life ≤ enqueue_return a.life = omega arith in
        omega (arith, enters, time_is, called, overtakes.0)

    through : (rest : List Life) → IsPermutation (lives_in left') rest → IsPermutation (lives_in left) (x.life ∷ rest)
    through rest other = IsPermutation-trans _ _ _ (IsPermutation-map (λ m. m.life) left _ moved)
        (IsPermutation-cons x.life _ rest other)

-- all before the cursors are taken, and those taken are in order
pub record IsSwept (values : List MatchedValue) (entries dequeues : List Timed) (taken : List Bool) (first_in first_out : ℕ) (ordered gaps : List ℕ)
    : Type 0 where
  pub one_flag_each : length taken ≡ length values
  pub entries_before : All (IsTaken taken) (take first_in entries)
  pub dequeues_before : All (IsTaken taken) (take first_out dequeues)
  pub within : All (λ place. place < length values) ordered
  pub so_far : IsOrderedSoFar values (elements_at values ordered) (left_of values taken) gaps

-- nothing is swept at first
pub nothing_swept : (values : List MatchedValue) (entries dequeues : List Timed)
    → IsSwept values entries dequeues (replicate (length values) false) 0 0 [] []
nothing_swept values entries dequeues = record {
  one_flag_each = length-replicate (length values) false;
  entries_before = All-nil (IsTaken (replicate (length values) false));
  dequeues_before = All-nil (IsTaken (replicate (length values) false));
  within = All-nil (λ place. place < length values);
  so_far = subst (λ left. IsOrderedSoFar values [] left []) (sym (all_left values)) (none_ordered values);
}

-- while not all are in order, some value is left
pub some_left : (number : Life → ℕ) (values : List MatchedValue) (entries : List Timed) (taken : List Bool)
    (ordered gaps : List ℕ)
    → AreByTime number values entries → All (λ m. number m.life < NEVER) values → All (λ place. place < length values) ordered
    → IsOrderedSoFar values (elements_at values ordered) (left_of values taken) gaps → length ordered < length values
    → (timed : Timed) × Contains entries timed × IsLeft taken timed
some_left number values entries taken ordered gaps are past within so_far fewer =
    let count = length_permutation values (elements_at values ordered ++ left_of values taken) so_far.holds_each_once in
    let y = at_place (left_of values taken) 0
    (omega (arith, count, length-append (elements_at values ordered) (left_of values taken), elements_long values ordered within)) in
    let place = place_left values taken 0 y.0 y.1 in
    let entry = are.has_each place.0 y.0 place.1 (All-contains (λ m. number m.life < NEVER) values y.0 past (contains_at values place.0 y.0 place.1)) in
    (entry.0, entry.1, ap (slice_get taken) entry.2 ∙ place.2)

-- each entry has its flag
pub flags_within : (number : Life → ℕ) (values : List MatchedValue) (entries : List Timed) (taken : List Bool)
    → AreByTime number values entries
    → length taken ≡ length values → All (λ timed. timed.place < length taken) entries
flags_within number values entries taken are same k d within =
    let m = from_some_and (slice_get values (get_or entries k d).place) (λ m. (get_or entries k d).time ≡ number m.life) (are.are_timed k d within) in
    omega (arith, slice_get_within values (get_or entries k d).place m.0 m.1)

-- one more value is swept
pub swept_next : (values : List MatchedValue) (entries dequeues : List Timed) (taken : List Bool)
    (i j first_in first_out : ℕ) (order : List Timed)
    (place : ℕ) (entry : Timed) (next : IsNext values taken place) → IsSwept values entries dequeues taken i j (places_in order) (gaps_in order)
    → IsFirstLeft entries taken first_in → IsFirstLeft dequeues taken first_out → (least : IsLeastLeft entered_by values taken entry)
    → entered_by least.value.life ≤ NEVER → enqueue_call next.value.life ≤ entry.time
    → All (λ value. dequeue_call value.life ≤ dequeue_return value.life) values
    → IsSwept values entries dequeues (set taken place true) first_in first_out (places_in (order ++ record { time = entry.time - 1; place = place } ∷ []))
    (gaps_in (order ++ record { time = entry.time - 1; place = place } ∷ []))
swept_next values entries dequeues taken i j first_in first_out order place entry next swept a b least bound called take_time =
    rw (map-append (λ (timed : Timed). timed.place) order (last ∷ []), map-append (λ (timed : Timed). timed.time) order (last ∷ [])) (record {
      one_flag_each = length-set taken place true ∙ swept.one_flag_each;
      entries_before = All-weaker (IsTaken taken) (IsTaken (set taken place true)) stays _ a.before;
      dequeues_before = All-weaker (IsTaken taken) (IsTaken (set taken place true)) stays _ b.before;
      within = All-push (λ place. place < length values) _ place swept.within (slice_get_within values place _ next.is_at);
      so_far =
          subst (λ done. IsOrderedSoFar values done (left_of values (set taken place true)) (gaps_in order ++ (entry.time - 1) ∷ []))
          (sym (elements_push values _ place _ next.is_at))
          (ordered_more values _ _ _ _ _ _ _ swept.so_far (one_taken values taken place _ next.is_at next.is_left) next.is_choice
          least.is_least bound least.time_is called
          (All-contains (λ value. dequeue_call value.life ≤ dequeue_return value.life) values _ take_time (contains_at values place next.value next.is_at)));
    })
  where
    last : Timed
    last = record { time = entry.time - 1; place = place }

    stays : (timed : Timed) → IsTaken taken timed → IsTaken (set taken place true) timed
    stays timed is = flag_stays taken place timed.place is

-- all values are swept
pub all_swept : (values : List MatchedValue) (entries dequeues : List Timed) (taken : List Bool) (i j : ℕ)
    (order : List Timed)
    → IsSwept values entries dequeues taken i j (places_in order) (gaps_in order) → length values ≤ length order → IsInOrder values order
all_swept values entries dequeues taken i j order swept all =
    let done = elements_at values (places_in order) in
    let count = length_permutation values (done ++ left_of values taken) swept.so_far.holds_each_once in
    let long = elements_long values (places_in order) swept.within ∙ length-map order (λ timed. timed.place) in
    let none = nil_from_length (left_of values taken) (omega (arith, length-append done (left_of values taken))) in
    let so_far = subst (λ left. IsOrderedSoFar values done left (gaps_in order)) none swept.so_far in
    let gaps = all_gaps (lives_in done) (gaps_in order) so_far.one_gap_each
    (subst (λ lives. HaveGaps lives (gaps_in order)) (append-nil (lives_in done)) (so_far.have_gaps [] (IsPermutation-refl []))) in
    record {
      within = swept.within;
      holds_each_once = subst (IsPermutation values) (append-nil done) so_far.holds_each_once;
      each_is_choice = subst EachIsChoice (append-nil (lives_in done)) (so_far.each_is_choice [] (IsPermutation-refl []) tt);
      gaps = gaps.0;
      in_time = gaps.1;
    }

-- the choice among those left is passed over if it is called after one of these has entered
pub met_passed_over : (values : List MatchedValue) (taken : List Bool) (done : List MatchedValue) (gaps : List ℕ)
    (place : ℕ) (entry : Timed)
    (next : IsNext values taken place) → IsOrderedSoFar values done (left_of values taken) gaps → (least : IsLeastLeft entered_by values taken entry)
    → entry.time < enqueue_call next.value.life → IsPassedOver values next.value
met_passed_over values taken done gaps place entry next so_far least late = record {
  is_value = contains_at values place next.value next.is_at;
  remaining = lives_in (left_of values taken);
  among = λ life in_left.
      let m = mapped_from (λ m. m.life) (left_of values taken) life in_left in
      subst (Contains (lives_in values)) m.2 (mapped_to (λ m. m.life) values m.0 (Contains-permutation (done ++ left_of values taken) values m.0
      (IsPermutation-sym values (done ++ left_of values taken) so_far.holds_each_once) (Contains-append_right done (left_of values taken) m.0 m.1)));
  is_next = next.is_choice;
  entered = least.value.life;
  is_left = least.is_least.0;
  too_late = omega (arith, late, least.time_is);
  are_left = λ x a in_x in_a overtakes.
      elim (Contains-append_cases done (left_of values taken) x (Contains-permutation values (done ++ left_of values taken) x so_far.holds_each_once in_x)) [
        | inl is_done ↦ absurd (so_far.settled x a in_x in_a (inl is_done) overtakes)
        | inr is_left ↦ mapped_to (λ m. m.life) (left_of values taken) x is_left
      ];
}

-- once the values are in order, their places are in the chosen order of the history
pub places_in_order : (history : Contents) (values : List MatchedValue) (order : List Timed)
    → HoldsValues history values
    → IsInOrder values order → IsOrderOf history order
places_in_order history values order holds is =
    let same = lives_are history values order holds in
    record {
      within = subst (λ n. All (λ place. place < n) (places_in order)) (sym (length-map values (λ m. m.life)) ∙ ap length holds.lives) is.within;
      in_order = record {
        holds_each_once = subst (IsPermutation (course_of history).lives) same
            (subst (λ lives. IsPermutation lives (lives_in (elements_at values (places_in order)))) holds.lives
            (IsPermutation-map (λ m. m.life) values (elements_at values (places_in order)) is.holds_each_once));
        each_is_choice = subst EachIsChoice same is.each_is_choice;
      };
      gaps = subst (λ lives. AreEnqueueGaps lives (gaps_in order)) same is.gaps;
    }
