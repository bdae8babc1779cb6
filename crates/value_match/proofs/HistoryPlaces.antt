-- Translation of places in a timeline to places in the history.
use Rattle.value_match.proofs.Common.{[], ap, ap₂, AreChosenFresh, AreChosenRepeat, AreComplete, ArePlacesOf, arith}
use Rattle.value_match.proofs.Common.{behind, Bool, cases_Bool, cases_lt, cond, cons_option, Contains}
use Rattle.value_match.proofs.Common.{Contains-append_cases, Contains-append_left, Contains-append_right, contains_at}
use Rattle.value_match.proofs.Common.{course, CoversFrom, Dequeue, dequeue_call, dequeue_of, Did, DequeueEmpty}
use Rattle.value_match.proofs.Common.{Enqueue, enqueue_at}
use Rattle.value_match.proofs.Common.{enqueue_of, enqueues_from, false, filter, filter-append, filter_map}
use Rattle.value_match.proofs.Common.{filter_map-append, find, fresh, FreshPlaces, get_or, HasPlaces, HoldsLives}
use Rattle.value_match.proofs.Common.{HoldsPlaces, HoldsValues, initial_enqueue, initial_enqueues, initial_time, inl}
use Rattle.value_match.proofs.Common.{inr, is_dequeue_of, is_empty_answer, is_failed, IsAt, IsClear, IsFreshViolation}
use Rattle.value_match.proofs.Common.{IsLife, IsMaybeAt, IsMaybeOperation, IsNamed, IsOperation, IsSource, later_by}
use Rattle.value_match.proofs.Common.{le-ltb, length, length_enqueues, Life, life_from, List, lives_of}
use Rattle.value_match.proofs.Common.{lt-ltb, ltb-false, ltb-true, map, MatchedValue, MatchOption, MAX_INITIAL}
use Rattle.value_match.proofs.Common.{NamesChosenFresh, NamesChosenRepeat, nat_lt, None, NoneDid, EnqueueFailed, on}
use Rattle.value_match.proofs.Common.{Operation}
use Rattle.value_match.proofs.Common.{OpKind, Option, option_map, ORIGIN, Pair, place_of, PlacedLife}
use Rattle.value_match.proofs.Common.{refl, repeat, RepeatPlaces, slice_get, slice_get-map, slice_get_within, Some}
use Rattle.value_match.proofs.Common.{subst, suc, sym, timed, timeline, history_value, history_place, history_source}
use Rattle.value_match.proofs.Common.{value_at}
use Rattle.value_match.proofs.Common.{zero, ℕ, ⊤, ◌++◌, ◌+◌, ◌-◌, ◌<◌, ◌↔◌, ◌∙◌, ◌∷◌, ◌≡◌, ◌≢◌, ◌≤◌, ◌⊎◌}
use Rattle.history_merge.proofs.Timelines.{timeline_is_complete}
use Rattle.value_match.proofs.Agreeing.{Agree, agree_back, chosen_of, life_of, no_fresh_of, no_repeat_of}
use Rattle.value_match.proofs.Lives.{life_is_contained, life_of_contained, places_of_value, value_is_life}
use Rattle.std.proofs.lemmas.List.Elements.{Contains-get_or}
use Rattle.value_match.proofs.Lists.{mapped_from, mapped_to}
use Rattle.value_match.specs.Lives.{ComesIn, initial_lives, IsOfHistory, ListsItsLives}
use Rattle.value_match.specs.declared.life.Source.{Source}
use Rattle.history_merge.proofs.Lists.{slice_get-append_left}
use Rattle.value_match.specs.declared.life.Source.TheVariants as source
use Rattle.value_match.specs.declared.violation.Violation.TheVariants as violation

-- ---- the lives of a cover

-- each life is an enqueue, with a dequeue if it has one
abbrev pub AreLives : List Life → Type 0
AreLives [] = ⊤
AreLives (life ∷ cover) = ((v : ℕ) × ((enqueue_of life).kind ≡ Enqueue v)) × MatchOption (dequeue_of life) ⊤ (λ d. (v : ℕ) × (d.kind ≡ Dequeue v)) × AreLives cover

-- the dequeue of a life, if there is one, is a dequeue
pub dequeues : (operations : List Operation) (v : ℕ) (d : Option Operation)
    → MatchOption d (NoneDid operations (Dequeue v)) (λ d. Did operations d (Dequeue v))
    → MatchOption d ⊤ (λ d. (v : ℕ) × (d.kind ≡ Dequeue v))
dequeues operations v None none = tt
dequeues operations v (Some d) did = (v, did.1)

-- the values of a cover are lives
pub covers_are_lives : (operations : List Operation) (empty : Operation) (frontier : ℕ) (cover : List Life)
    → CoversFrom (on operations) empty frontier cover
    → AreLives cover
covers_are_lives operations empty frontier [] covers = absurd covers
covers_are_lives operations empty frontier (life ∷ []) covers =
    ((covers.0.0, covers.0.1.1), dequeues operations covers.0.0 (dequeue_of life) covers.0.2, tt)
covers_are_lives operations empty frontier (life ∷ next ∷ rest) covers = (
  (covers.0.0, covers.0.1.1),
  dequeues operations covers.0.0 (dequeue_of life) covers.0.2,
  covers_are_lives operations empty (dequeue_call life) (next ∷ rest) covers.3,
)

-- ---- the timeline: the enqueues of the initial values, and then the operations at their times

-- operations with equal parts are equal
pub same_operation : (a b : Operation) → a.call ≡ b.call → a.ret ≡ b.ret → a.thread ≡ b.thread → a.kind ≡ b.kind
    → a ≡ b
same_operation a b call ret thread kind = λ i. record { call = call i; ret = ret i; thread = thread i; kind = kind i }

-- the enqueue at a place of the initial enqueues
at_enqueues_from : (n : ℕ) (initial : List ℕ) (j : ℕ)
    → slice_get (enqueues_from n initial) j ≡ option_map (enqueue_at (n + j)) (slice_get initial j)
at_enqueues_from n [] j = cc
at_enqueues_from n (v ∷ rest) zero = ap (λ o. Some o) (same_operation _ _ (omega arith) (omega arith) refl refl)
at_enqueues_from n (v ∷ rest) (suc j) =
    at_enqueues_from (n + 1) rest j ∙ ap (λ time. option_map (enqueue_at time) (slice_get rest j)) (omega arith)

-- the j-th operation of the enqueues enqueues the j-th initial value
pub at_enqueue : (initial : List ℕ) (j : ℕ)
    → slice_get (initial_enqueues initial) j ≡ option_map (initial_enqueue (length initial) j) (slice_get initial j)
at_enqueue initial j = at_enqueues_from (ORIGIN - length initial) initial j

-- the value in a mapped option comes from one in the option
pub mapped_option : {A B : Type 0} (f : A → B) (o : Option A) (y : B) → option_map f o ≡ Some y
    → (x : A) × (o ≡ Some x) × (f x ≡ y)
mapped_option f None y is = cc
mapped_option f (Some x) y is = (x, refl, cc)

-- the place and the value of one of the enqueues
pub enqueue_place : (initial : List ℕ) (o : Operation) → Contains (initial_enqueues initial) o
    → (j : ℕ) × (v : ℕ) × (slice_get initial j ≡ Some v) × (initial_enqueue (length initial) j v ≡ o)
enqueue_place initial o among =
    let at = place_of (initial_enqueues initial) o among in
    let (v, stands, is) = mapped_option (initial_enqueue (length initial) at.0) (slice_get initial at.0) o (sym (at_enqueue initial at.0) ∙ at.1) in (at.0, v, stands, is)

-- each such enqueue is at this place
pub enqueue_stands : (initial : List ℕ) (j v : ℕ) → slice_get initial j ≡ Some v
    → Contains (initial_enqueues initial) (initial_enqueue (length initial) j v)
enqueue_stands initial j v at =
    contains_at (initial_enqueues initial) j (initial_enqueue (length initial) j v)
    (at_enqueue initial j ∙ ap (option_map (initial_enqueue (length initial) j)) at)

-- operations that are equal when moved later are equal
pub one_later : (n : ℕ) (x y : Operation) → later_by n x ≡ later_by n y → x ≡ y
one_later n x y same =
    let calls : x.call + n ≡ y.call + n = ap (λ (o : Operation). o.call) same in
    let returns : x.ret + n ≡ y.ret + n = ap (λ (o : Operation). o.ret) same in
    same_operation x y (omega arith) (omega arith) (ap (λ (o : Operation). o.thread) same) (ap (λ (o : Operation). o.kind) same)

-- an operation called after the initial values is one of the operations
pub called_late : (initial : List ℕ) (operations : List Operation) (o x : Operation) → length initial ≤ MAX_INITIAL
    → ORIGIN ≤ o.call → later_by ORIGIN x ≡ o
    → Contains operations x ↔ Contains (timeline initial operations) o
called_late initial operations o x few late is = (
  λ among. subst (Contains (timeline initial operations)) is
      (Contains-append_right (initial_enqueues initial) (map (later_by ORIGIN) operations) (later_by ORIGIN x)
      (mapped_to (later_by ORIGIN) operations x among)),
  λ among. back (Contains-append_cases (initial_enqueues initial) (map (later_by ORIGIN) operations) o among),
)
  where
    back : Contains (initial_enqueues initial) o ⊎ Contains (map (later_by ORIGIN) operations) o
        → Contains operations x
    back (inl here) =
        let found = enqueue_place initial o here in
        let calls : initial_time (length initial) found.0 ≡ o.call = ap (λ (y : Operation). y.call) found.3 in
        let within = slice_get_within initial found.0 found.1 found.2 in
        absurd (omega arith)
    back (inr there) =
        let found = mapped_from (later_by ORIGIN) operations o there in
        subst (Contains operations) (one_later ORIGIN found.0 x (found.2 ∙ sym is)) found.1

-- ---- the operation at a place of the timeline

-- an element after the first list is one of the second
pub get_behind : {X : Type 0} (xs ys : List X) (n p : ℕ) → n ≡ length xs → n ≤ p
    → slice_get (xs ++ ys) p ≡ slice_get ys (p - n)
get_behind [] ys n p is within = ap (slice_get ys) (omega arith)
get_behind (x ∷ xs) ys n zero is within = absurd (omega arith)
get_behind (x ∷ xs) ys n (suc p) is within = get_behind xs ys (n - 1) p (omega arith) (omega arith) ∙ ap (slice_get ys) (omega arith)

-- the operation at a place of the timeline: an initial enqueue, or an operation after these
pub at_timeline : (initial : List ℕ) (operations : List Operation) (p : ℕ)
    → ((p < length initial) × (slice_get (timeline initial operations) p
    ≡ option_map (initial_enqueue (length initial) p) (slice_get initial p)))
    ⊎ ((length initial ≤ p) × (slice_get (timeline initial operations) p
    ≡ option_map (later_by ORIGIN) (slice_get operations (p - length initial))))
at_timeline initial operations p = elim (cases_lt p (length initial)) [
  | inl early ↦
      let many = length_enqueues (ORIGIN - length initial) initial in
      inl (early, slice_get-append_left (initial_enqueues initial) (map (later_by ORIGIN) operations) p (omega arith) ∙ at_enqueue initial p)
  | inr late ↦
      let many = length_enqueues (ORIGIN - length initial) initial in
      inr (
        late,
        get_behind (initial_enqueues initial) (map (later_by ORIGIN) operations) (length initial) p (omega arith) late
            ∙ slice_get-map (later_by ORIGIN) operations (p - length initial),
      )
]

-- the operation at a place of the timeline is the enqueue of the initial value there
pub record IsInitialEnqueueAt (initial : List ℕ) (p : ℕ) (x : Operation) : Type 0 where
  pub value : ℕ
  pub within : p < length initial
  pub stands : slice_get initial p ≡ Some value
  pub is : initial_enqueue (length initial) p value ≡ x

-- the operation at a place of the timeline is one of the history, moved later
pub record IsLaterAt (initial : List ℕ) (operations : List Operation) (p : ℕ) (x : Operation) : Type 0 where
  pub operation : Operation
  pub behind : length initial ≤ p
  pub stands : slice_get operations (p - length initial) ≡ Some operation
  pub is : later_by ORIGIN operation ≡ x

-- each place of the timeline has the enqueue of an initial value, or an operation moved later
pub timeline_at : (initial : List ℕ) (operations : List Operation) (p : ℕ) (x : Operation)
    → slice_get (timeline initial operations) p ≡ Some x
    → IsInitialEnqueueAt initial p x ⊎ IsLaterAt initial operations p x
timeline_at initial operations p x at = elim (at_timeline initial operations p) [
  | inl early ↦
      let value = mapped_option (initial_enqueue (length initial) p) (slice_get initial p) x (sym early.1 ∙ at) in
      inl (record { value = value.0; within = early.0; stands = value.1; is = value.2 })
  | inr late ↦
      let operation = mapped_option (later_by ORIGIN) (slice_get operations (p - length initial)) x (sym late.1 ∙ at) in
      inr (record { operation = operation.0; behind = late.0; stands = operation.1; is = operation.2 })
]

-- ---- the operations of a `YES`

-- an operation of the timeline, moved back to its tickets, or none for an initial enqueue
abbrev pub earlier : ℕ → Operation → Option Operation
earlier n o = cond (nat_lt o.call n) None (Some (record { call = o.call - n; ret = o.ret - n; thread = o.thread; kind = o.kind }))

-- the enqueue of an initial value is no operation of the history
pub earlier_none : (n : ℕ) (o : Operation) → o.call < n → earlier n o ≡ None
earlier_none n o early = rw (lt-ltb o.call n early) refl

-- an operation moved later and back is itself
pub earlier_later : (n : ℕ) (o : Operation) → earlier n (later_by n o) ≡ Some o
earlier_later n o = rw (le-ltb (o.call + n) n (omega arith)) (ap (λ x. Some x) (same_operation _ o (omega arith) (omega arith) refl refl))

enqueues_earlier : (time n : ℕ) (values : List ℕ) (later : List Operation) → time + length values ≤ n
    → filter_map (earlier n) (enqueues_from time values ++ later) ≡ filter_map (earlier n) later
enqueues_earlier time n [] later within = refl
enqueues_earlier time n (v ∷ values) later within =
    ap (λ (o : Option Operation). cons_option o (filter_map (earlier n) (enqueues_from (time + 1) values ++ later))) (earlier_none n _ (omega arith))
    ∙ enqueues_earlier (time + 1) n values later (omega arith)

later_earlier : (n : ℕ) (operations : List Operation)
    → filter_map (earlier n) (map (later_by n) operations) ≡ operations
later_earlier n [] = refl
later_earlier n (o ∷ operations) =
    rw (earlier_later n o, later_earlier n operations) refl

-- the timeline without the initial enqueues, moved back, is the list of the operations
pub timeline_earlier : (initial : List ℕ) (listed : List Operation) → length initial ≤ MAX_INITIAL
    → filter_map (earlier ORIGIN) (timeline initial listed) ≡ listed
timeline_earlier initial listed few =
    enqueues_earlier (ORIGIN - length initial) ORIGIN initial (map (later_by ORIGIN) listed) (omega arith) ∙ later_earlier ORIGIN listed

-- a complete timeline has no more initial values than come before the first ticket
pub few_initial : (initial : List ℕ) (operations : List Operation) → AreComplete (timeline initial operations)
    → length initial ≤ MAX_INITIAL
few_initial [] operations complete = omega arith
few_initial (v ∷ rest) operations complete =
    let first = (complete.timed zero (enqueue_at 0 0) (omega arith)).above_zero in omega (arith, first)

-- ---- places in a timeline as places in the history

-- ---- the operation at a place of the timeline

-- a phantom dequeue is a dequeue
pub fresh_dequeues : (operations : List Operation) (deq : Operation) (enq : Option Operation)
    → IsFreshViolation (on operations) deq enq
    → (v : ℕ) × (deq.kind ≡ Dequeue v)
fresh_dequeues operations deq None is = (is.value, is.dequeues.1)
fresh_dequeues operations deq (Some enq) is = (is.value, is.dequeues.1)

-- filtering commutes with moving to times, for a test that doesn't look at times
pub filter_timed : (test : Operation → Bool) → ((o : Operation) → test (later_by ORIGIN o) ≡ test o)
    → (os : List Operation)
    → filter test (timed os) ≡ timed (filter test os)
filter_timed test same [] = refl
filter_timed test same (o ∷ os) = elim (cases_Bool (test o)) [
  | inl is ↦ rw (same o, is) (ap (λ xs. later_by ORIGIN o ∷ xs) (filter_timed test same os))
  | inr is ↦ rw (same o, is) (filter_timed test same os)
]

-- the operations at places, at their times
pub places_timed : (operations : List Operation) (places : List ℕ) (listed : List Operation)
    → ArePlacesOf operations places listed
    → ArePlacesOf (timed operations) places (timed listed)
places_timed operations [] [] at = refl
places_timed operations (p ∷ places) (o ∷ listed) at =
    let here : slice_get operations p ≡ Some o = cc in
    let rest : map (slice_get operations) places ≡ map (λ o. Some o) listed = cc in
    ap₂ (λ (x : Option Operation) (xs : List (Option Operation)). x ∷ xs) (slice_get-map (later_by ORIGIN) operations p ∙ ap (option_map (later_by ORIGIN)) here)
    (places_timed operations places listed rest)
places_timed operations _ _ at = absurd (cc)

module _ (initial : List ℕ) (operations : List Operation) where
  abbrev k : ℕ
  k = length initial

  abbrev all : List Operation
  all = timeline initial operations

  -- an operation at a place of the history is after the initial values in the timeline
  pub operation_on : (p : ℕ) (o : Operation) → IsOperation operations p o → IsAt all (behind k p) o
  operation_on p o at =
      get_behind (initial_enqueues initial) (timed operations) k (k + p)
      (sym (length_enqueues (ORIGIN - k) initial)) (omega arith)
      ∙ ap (slice_get (timed operations)) (omega arith) ∙ at

  -- the same for an optional operation
  pub maybe_on : (p : Option ℕ) (o : Option Operation) → IsMaybeOperation operations p o
      → IsMaybeAt all (option_map (behind k) p) o
  maybe_on None None at = tt
  maybe_on (Some p) (Some o) at = operation_on p o at
  maybe_on _ _ at = absurd assumption

  -- the enqueue of an initial value is at its place in the timeline
  early_at : (p : ℕ) → p < k → slice_get all p ≡ option_map (initial_enqueue k p) (slice_get initial p)
  early_at p within = let many = length_enqueues (ORIGIN - k) initial in
      slice_get-append_left (initial_enqueues initial) (timed operations) p (omega (arith, many)) ∙ at_enqueue initial p

  -- the place in the timeline of a source
  abbrev pub source_place : Source → ℕ
  source_place (source.Enq p) = behind k p
  source_place (source.Initial p) = p

  -- the enqueue from a source is at its place in the timeline
  pub source_on : (s : Source) (o : Operation) → IsSource initial operations s o → IsAt all (source_place s) o
  source_on (source.Enq p) o at = operation_on p o at
  source_on (source.Initial p) o at =
      let value = mapped_option (initial_enqueue k p) (slice_get initial p) o at in
      early_at p (slice_get_within initial p value.0 value.1) ∙ at

  -- ---- the course of a history is that of its timeline

  initial_kind : (j v : ℕ) (o : Operation) → initial_enqueue k j v ≡ o → o.kind ≡ Enqueue v
  initial_kind j v o is = sym (ap (λ (x : Operation). x.kind) is)

  enters_on : (enq : Operation) (v : ℕ) → ComesIn initial operations enq v → Did all enq (Enqueue v)
  enters_on enq v (inl (j, stands, is)) = (
    Contains-append_left (initial_enqueues initial) (timed operations) enq
        (subst (Contains (initial_enqueues initial)) is (enqueue_stands initial j v stands)),
    initial_kind j v enq is,
  )
  enters_on enq v (inr did) = (Contains-append_right (initial_enqueues initial) (timed operations) enq did.0, did.1)

  enters_back : (enq : Operation) (v : ℕ) → Did all enq (Enqueue v) → ComesIn initial operations enq v
  enters_back enq v (among, is) = elim (Contains-append_cases (initial_enqueues initial) (timed operations) enq among) [
    | inl here ↦
        let found = enqueue_place initial enq here in
        let kinds : Enqueue found.1 ≡ Enqueue v = sym (initial_kind found.0 found.1 enq found.3) ∙ is in
        let same : found.1 ≡ v = cc in
        inl (found.0, found.2 ∙ ap (λ w. Some w) same, ap (initial_enqueue k found.0) (sym same) ∙ found.3)
    | inr there ↦ inr (there, is)
  ]

  did_back : (o : Operation) (kind : OpKind) → ((v : ℕ) → kind ≢ Enqueue v) → Did all o kind
      → Did (timed operations) o kind
  did_back o kind other (among, is) = elim (Contains-append_cases (initial_enqueues initial) (timed operations) o among) [
    | inl here ↦
        let found = enqueue_place initial o here in
        absurd (other found.1 (sym is ∙ initial_kind found.0 found.1 o found.3))
    | inr there ↦ (there, is)
  ]

  -- the same happens in both courses
  pub course_on : Agree (course initial operations) (on all)
  course_on = record {
    there = record { enters = enters_on; did = λ o kind other did. (Contains-append_right (initial_enqueues initial) (timed operations) o did.0, did.1) };
    back = record { enters = enters_back; did = did_back };
  }

  pub course_back : Agree (on all) (course initial operations)
  course_back = agree_back (course initial operations) (on all) course_on

  -- a history is clear if its timeline is
  pub clear_told : IsOfHistory initial operations → IsClear (on all) → IsClear (course initial operations)
  clear_told complete clear = record {
    complete = complete;
    no_fresh = no_fresh_of (on all) (course initial operations) course_back clear.no_fresh;
    no_repeat = no_repeat_of (on all) (course initial operations) course_back clear.no_repeat;
  }

  -- ---- the lives of a history are those of its timeline

  find_behind : (v time : ℕ) (values : List ℕ) (later : List Operation)
      → find (is_dequeue_of v) (enqueues_from time values ++ later) ≡ find (is_dequeue_of v) later
  find_behind v time [] later = refl
  find_behind v time (w ∷ values) later = find_behind v (time + 1) values later

  life_on : (o : Operation) (kind : OpKind) → life_from all o kind ≡ life_from (timed operations) o kind
  life_on o (Enqueue v) = ap (λ d. Some (record { enqueue = o; dequeue = d })) (find_behind v (ORIGIN - k) initial (timed operations))
  life_on o _ = refl

  early_lives : (time : ℕ) (values : List ℕ)
      → filter_map (λ o. life_from all o o.kind) (enqueues_from time values)
      ≡ initial_lives (timed operations) time values
  early_lives time [] = refl
  early_lives time (v ∷ values) =
      ap₂ (λ (d : Option Operation) (lives : List Life). record { enqueue = enqueue_at time v; dequeue = d } ∷ lives)
      (find_behind v (ORIGIN - k) initial (timed operations)) (early_lives (time + 1) values)

  later_lives : (later : List Operation)
      → filter_map (λ o. life_from all o o.kind) later ≡ filter_map (λ o. life_from (timed operations) o o.kind) later
  later_lives [] = refl
  later_lives (o ∷ later) =
      ap₂ (λ (life : Option Life) (lives : List Life). cons_option life lives) (life_on o o.kind) (later_lives later)

  pub same_lives : lives_of all ≡ (course initial operations).lives
  same_lives = filter_map-append (λ o. life_from all o o.kind) (initial_enqueues initial) (timed operations)
      ∙ ap₂ (λ (xs ys : List Life). xs ++ ys) (early_lives (ORIGIN - k) initial) (later_lives (timed operations))

module _ (initial : List ℕ) (operations : List Operation) (few : length initial ≤ MAX_INITIAL) where
  -- an operation other than the enqueue of an initial value is after these
  pub stands_behind : (p : ℕ) (o : Operation) → IsAt (timeline initial operations) p o
      → ((v : ℕ) → o.kind ≡ Enqueue v → o.call < ORIGIN → ⊥) → (length initial) ≤ p
  stands_behind p o at other = elim (timeline_at initial operations p o at) [
    | inl early ↦
        let call : initial_time (length initial) p ≡ o.call = ap (λ (x : Operation). x.call) early.is in
        let within = early.within in
        absurd (other early.value (sym (ap (λ (x : Operation). x.kind) early.is)) (omega arith))
    | inr late ↦ late.behind
  ]

  -- the operation at a place of the timeline after the initial values is one of the history
  operation_told : (p : ℕ) (o : Operation) → IsAt (timeline initial operations) p o → (length initial) ≤ p
      → IsOperation operations (history_place (length initial) p) o
  operation_told p o at after =
      sym (get_behind (initial_enqueues initial) (timed operations) (length initial) p (sym (length_enqueues (ORIGIN - (length initial)) initial)) after) ∙ at

  -- an empty dequeue is at its translated place
  pub empty_told : (p : ℕ) (o : Operation) → IsAt (timeline initial operations) p o → o.kind ≡ DequeueEmpty
      → IsOperation operations (history_place (length initial) p) o
  empty_told p o at is = operation_told p o at (stands_behind p o at (λ v enq early. let clash : DequeueEmpty ≡ Enqueue v = sym is ∙ enq in cc))

  -- a dequeue is at its translated place
  pub dequeue_told : (p : ℕ) (o : Operation) (v : ℕ) → IsAt (timeline initial operations) p o → o.kind ≡ Dequeue v
      → IsOperation operations (history_place (length initial) p) o
  dequeue_told p o v at is = operation_told p o at (stands_behind p o at (λ w enq early. let clash : Dequeue v ≡ Enqueue w = sym is ∙ enq in cc))

  -- an optional dequeue is at its translated place
  pub maybe_told : (p : Option ℕ) (o : Option Operation) → IsMaybeAt (timeline initial operations) p o
      → MatchOption o ⊤ (λ d. (v : ℕ) × (d.kind ≡ Dequeue v))
      → IsMaybeOperation operations (option_map (history_place (length initial)) p) o
  maybe_told None None at is = tt
  maybe_told (Some p) (Some o) at is = dequeue_told p o is.0 at is.1
  maybe_told _ _ at is = absurd at

  -- the enqueue of a value is at its translated source
  pub source_told : (p : ℕ) (o : Operation) → IsAt (timeline initial operations) p o
      → IsSource initial operations (history_source (length initial) p) o
  source_told p o at = elim (cases_Bool (nat_lt p (length initial))) [
    | inl is ↦ rw is (sym (early_at initial operations p (ltb-true p (length initial) is)) ∙ at)
    | inr is ↦ rw is (operation_told p o at (ltb-false p (length initial) is))
  ]

  -- the operations of a value have translated places
  value_told : (value : PlacedLife) → HasPlaces (timeline initial operations) value
      → IsLife (on (timeline initial operations)) value.life
      → IsNamed initial operations (history_source (length initial) value.enqueue)
      (option_map (history_place (length initial)) value.dequeue) value.life
  value_told value at is = (
    source_told value.enqueue (enqueue_of value.life) at.0,
    maybe_told value.dequeue (dequeue_of value.life) at.1 (dequeues (timeline initial operations) is.0 (dequeue_of value.life) is.2),
  )

  -- an enqueue that failed, or that the dequeue returned before, is not that of an initial value
  pub call_told : (deq : ℕ) (d : Operation) (enq : Option ℕ) (e : Option Operation)
      → IsAt (timeline initial operations) deq d
      → IsMaybeAt (timeline initial operations) enq e
      → IsFreshViolation (on (timeline initial operations)) d e
      → IsMaybeOperation operations (option_map (history_place (length initial)) enq) e
  call_told deq d None None at_d at_e is = tt
  call_told deq d (Some p) (Some e) at_d at_e is = operation_told p e at_e (stands_behind p e at_e too_late)
    where
      late : ORIGIN ≤ d.ret
      late = elim (timeline_at initial operations deq d at_d) [
        | inl early ↦ let clash : Enqueue early.value ≡ Dequeue is.value = ap (λ (x : Operation). x.kind) early.is ∙ is.dequeues.1 in absurd (cc)
        | inr later ↦ let ret : later.operation.ret + ORIGIN ≡ d.ret = ap (λ (x : Operation). x.ret) later.is in omega arith
      ]

      too_late : (v : ℕ) → e.kind ≡ Enqueue v → e.call < ORIGIN → ⊥
      too_late v enq early = elim is.enqueues [
        | inl failed ↦ let clash : EnqueueFailed is.value ≡ Enqueue v = sym failed.1 ∙ enq in cc
        | inr accepted ↦ let after = accepted.1 in omega (arith, late)
      ]
  call_told _ _ _ _ _ at_e _ = absurd at_e

  -- the chosen phantom dequeue, at its translated places
  pub fresh_told : (found : FreshPlaces) → AreChosenFresh (timeline initial operations) found
      → NamesChosenFresh initial operations
      (violation.Fresh (history_place (length initial) found.deq)
      (option_map (history_place (length initial)) found.enq))
  fresh_told found (deq, enq, at_deq, at_enq, chosen) = (
    deq,
    enq,
    (
      dequeue_told found.deq deq (fresh_dequeues (timeline initial operations) deq enq chosen.violates).0 at_deq
          (fresh_dequeues (timeline initial operations) deq enq chosen.violates).1,
      call_told found.deq deq found.enq enq at_deq at_enq chosen.violates,
    ),
    chosen_of (on (timeline initial operations)) (course initial operations) (course_back initial operations) (fresh deq enq) chosen,
  )

  -- the chosen value that is dequeued twice, at its translated places
  pub repeat_told : (found : RepeatPlaces) → AreChosenRepeat (timeline initial operations) found
      → NamesChosenRepeat initial operations
      (violation.Repeat (history_source (length initial) found.enq) (history_place (length initial) found.first) (history_place (length initial) found.second))
  repeat_told found (enq, first, second, at_enq, at_first, at_second, none, chosen) =
      let is = chosen.violates in (
        enq,
        first,
        second,
        (
          source_told found.enq enq at_enq,
          dequeue_told found.first first is.value at_first is.dequeues.1,
          dequeue_told found.second second is.value at_second is.dequeues_again.1,
        ),
        chosen_of (on (timeline initial operations)) (course initial operations) (course_back initial operations) (repeat enq first second) (none, chosen),
      )

  told_lives : (pairs : List Pair)
      → map (λ m. m.life) (map (history_value (length initial) (timeline initial operations)) pairs)
      ≡ map (λ m. m.life) (map (value_at (timeline initial operations)) pairs)
  told_lives [] = refl
  told_lives (pair ∷ pairs) = ap (λ lives. (value_at (timeline initial operations) pair).life ∷ lives) (told_lives pairs)

  -- the values of a matching are those of its history
  pub values_told : (pairs : List Pair)
      → HoldsLives (timeline initial operations) (map (value_at (timeline initial operations)) pairs)
      → HoldsValues (record { initial = initial; operations = operations })
      (map (history_value (length initial) (timeline initial operations)) pairs)
  values_told pairs holds = record {
    lives = told_lives pairs ∙ holds.0 ∙ same_lives initial operations;
    named = λ i d within.
        let (pair, among, is) = mapped_from (history_value (length initial) (timeline initial operations)) pairs
        (get_or (map (history_value (length initial) (timeline initial operations)) pairs) i d) (Contains-get_or _ i d within) in
        let placed = mapped_to (value_at (timeline initial operations)) pairs pair among in
        subst (λ m. IsNamed initial operations m.source m.dequeue m.life) is
        (value_told (value_at (timeline initial operations) pair)
        (places_of_value (timeline initial operations) (map (value_at (timeline initial operations)) pairs)
        (value_at (timeline initial operations) pair) holds placed)
        (value_is_life (timeline initial operations) (map (value_at (timeline initial operations)) pairs) (value_at (timeline initial operations) pair) holds placed));
  }

  -- ---- lists of places

  -- operations of the history, found in the timeline, are at their translated places
  places_told : (places : List ℕ) (listed : List Operation)
      → ArePlacesOf (timeline initial operations) places (map (later_by ORIGIN) listed)
      → ArePlacesOf operations (map (history_place (length initial)) places) listed
  places_told [] [] at = refl
  places_told (p ∷ places) (o ∷ listed) at =
      let first : slice_get (timeline initial operations) p ≡ Some (later_by ORIGIN o) = cc in
      let later : map (slice_get (timeline initial operations)) places ≡ map (λ o. Some o) (map (later_by ORIGIN) listed) = cc in
      let here : slice_get operations (p - (length initial)) ≡ Some o = elim (timeline_at initial operations p (later_by ORIGIN o) first) [
        | inl early ↦
            let call : initial_time (length initial) p ≡ o.call + ORIGIN = ap (λ (x : Operation). x.call) early.is in
            let within = early.within in
            absurd (omega arith)
        | inr late ↦ late.stands ∙ ap (λ x. Some x) (one_later ORIGIN late.operation o late.is)
      ] in
      ap₂ (λ (x : Option Operation) (xs : List (Option Operation)). x ∷ xs) here (places_told places listed later)
  places_told _ _ at = absurd (cc)

  -- operations of the timeline that pass a test, which no enqueue passes, are those of the history
  filter_timeline : (test : Operation → Bool) → ((o : Operation) (v : ℕ) → o.kind ≡ Enqueue v → test o ≡ false)
      → ((o : Operation) → test (later_by ORIGIN o) ≡ test o)
      → filter test (timeline initial operations) ≡ map (later_by ORIGIN) (filter test operations)
  filter_timeline test none same =
      filter-append test (initial_enqueues initial) (map (later_by ORIGIN) operations)
      ∙ ap (λ xs. xs ++ filter test (map (later_by ORIGIN) operations)) (no_enqueue (ORIGIN - length initial) initial)
      ∙ filter_timed test same operations
    where
      no_enqueue : (time : ℕ) (values : List ℕ) → filter test (enqueues_from time values) ≡ []
      no_enqueue time [] = refl
      no_enqueue time (v ∷ values) = rw (none (enqueue_at time v) v refl) (no_enqueue (time + 1) values)

  -- the translated places of the empty dequeues
  pub empties_told : (places : List ℕ) → HoldsPlaces (timeline initial operations) is_empty_answer places
      → HoldsPlaces operations is_empty_answer (map (history_place (length initial)) places)
  empties_told places holds = places_told places (filter is_empty_answer operations)
      (subst (ArePlacesOf (timeline initial operations) places) (filter_timeline is_empty_answer (λ o v is. rw is refl) (λ o. refl)) holds)

  -- the translated places of the failed enqueues
  pub failed_told : (places : List ℕ) → HoldsPlaces (timeline initial operations) is_failed places
      → HoldsPlaces operations is_failed (map (history_place (length initial)) places)
  failed_told places holds = places_told places (filter is_failed operations)
      (subst (ArePlacesOf (timeline initial operations) places) (filter_timeline is_failed (λ o v is. rw is refl) (λ o. refl)) holds)

-- ---- a history is complete if and only if its timeline is, and has the timeline's lives

-- the timeline of a history is complete
pub timeline_of_history : (initial : List ℕ) (operations : List Operation) → IsOfHistory initial operations
    → (length initial ≤ MAX_INITIAL) × AreComplete (timeline initial operations)
timeline_of_history initial operations (events, is, complete, few) =
    (few, subst (λ os. AreComplete (timeline initial os)) (sym is) (timeline_is_complete initial events complete few))

module _ (initial : List ℕ) (operations : List Operation) (clear : IsClear (course initial operations)) where
  -- the same happens on the timeline
  pub clear_course : Agree (course initial operations) (on (timeline initial operations))
  clear_course = course_on initial operations

  -- the timeline has neither of the first two kinds of violation
  pub clear_on : IsClear (on (timeline initial operations))
  clear_on = record {
    complete = (timeline_of_history initial operations clear.complete).1;
    no_fresh = no_fresh_of (course initial operations) (on (timeline initial operations)) clear_course clear.no_fresh;
    no_repeat = no_repeat_of (course initial operations) (on (timeline initial operations)) clear_course clear.no_repeat;
  }

  -- a life of the history is one of the timeline
  pub clear_life : (life : Life) → IsLife (course initial operations) life
      → IsLife (on (timeline initial operations)) life
  clear_life = life_of (course initial operations) (on (timeline initial operations)) clear_course

  -- the listed lives are the lives of the history
  pub lists_its_lives : ListsItsLives (course initial operations)
  lists_its_lives life = (
    λ is. subst (λ lives. Contains lives life) (same_lives initial operations)
        (life_is_contained (timeline initial operations) life clear_on (clear_life life is)),
    λ listed. life_of (on (timeline initial operations)) (course initial operations) (agree_back _ _ clear_course) life
        (life_of_contained (timeline initial operations) life (subst (λ lives. Contains lives life) (sym (same_lives initial operations)) listed)),
  )

  module _ (values : List MatchedValue)
      (holds : HoldsValues (record { initial = initial; operations = operations }) values) where
    -- each value is a life
    pub value_lives : (value : MatchedValue) → Contains values value → IsLife (course initial operations) value.life
    value_lives value among =
        (lists_its_lives value.life).1 (subst (λ lives. Contains lives value.life) holds.lives (mapped_to (λ m. m.life) values value among))

    -- each life is that of a value
    pub life_value : (life : Life) → IsLife (course initial operations) life
        → (value : MatchedValue) × Contains values value × (value.life ≡ life)
    life_value life is =
        mapped_from (λ m. m.life) values life (subst (λ lives. Contains lives life) (sym holds.lives) ((lists_its_lives life).0 is))
