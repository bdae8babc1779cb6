-- The lines of a violation of a timeline, as lines of a history at the places that it names; the places of a
-- violation whose lines are operations.
use Rattle.verdicts.proofs.Common.{[], All, All-cons, All-map, All-nil, all_formed, AllZip, AllZip-long, ap}
use Rattle.verdicts.proofs.Common.{AreComplete, AreLives, ArePartOf, ArePlacesOf, arith, Bool, call_before_return}
use Rattle.verdicts.proofs.Common.{call_in, cases_lt, chosen_of, ClaimLine, cond, cons_option, Contains}
use Rattle.verdicts.proofs.Common.{Contains-append_cases, Contains-append_left, Contains-append_right}
use Rattle.verdicts.proofs.Common.{Contains-permutation, contains_at, contains_cons, course, course_on}
use Rattle.verdicts.proofs.Common.{covers_are_lives, CoverStep, Dequeue, dequeue_call, dequeue_of, dequeued_if_called}
use Rattle.verdicts.proofs.Common.{dequeues, Did, DequeueEmpty, Enqueue, enqueue_of, enqueue_place, Event, false}
use Rattle.verdicts.proofs.Common.{few_initial}
use Rattle.verdicts.proofs.Common.{filter, flat_map, fresh, FullViolation, initial_enqueue, initial_enqueues}
use Rattle.verdicts.proofs.Common.{initial_time, inl, inr, is_operation, IsChosenCoverFrom}
use Rattle.verdicts.proofs.Common.{IsChosenFullViolation, IsChosenViolation, IsClear, IsCompleteHistory, IsCovered}
use Rattle.verdicts.proofs.Common.{IsDecided, IsMaybeAt, IsMaybeOperation, IsNamed, IsOperation, IsPlaceWithin}
use Rattle.verdicts.proofs.Common.{IsSource, IsVerdict, IsViolationOf, IsWitnessAnswer, later_by, le-ltb, length}
use Rattle.verdicts.proofs.Common.{length-map, length_permutation, Life, line_at, LinePlace, lines_at, lines_of}
use Rattle.verdicts.proofs.Common.{lines_of_history, List, lt-ltb, ltb-false, map, mapped_option, mapped_to}
use Rattle.verdicts.proofs.Common.{MatchOption, MAX_INITIAL, MAX_OPERATIONS, MAX_TICKET, maybe_place, Names}
use Rattle.verdicts.proofs.Common.{NamesCover, nat_lt, nat_tests, NEVER, No, no_enqueue, None, NoOrderViolation, not}
use Rattle.verdicts.proofs.Common.{not-true, not_in_none, on, one_deeper, Operation, operation_on, operations_named}
use Rattle.verdicts.proofs.Common.{operations_of, operations_of_life, OpKind, Option, option_map, option_to_list}
use Rattle.verdicts.proofs.Common.{order, OrderPair, ORIGIN, passed_filter, place_of, place_of_source, places_of_step}
use Rattle.verdicts.proofs.Common.{refl, repeat, same_operation, slice_get, slice_get-map, slice_get_within, Some}
use Rattle.verdicts.proofs.Common.{Source, source_on, subst, sym, timed, timeline, timeline_is_complete}
use Rattle.verdicts.proofs.Common.{true, value_in, value_of, verdict_places, Violation, violation_places, witness, Yes}
use Rattle.verdicts.proofs.Common.{zero, ℕ, ⊤, ◌++◌, ◌+◌, ◌<◌, ◌∙◌, ◌∷◌, ◌≡◌, ◌≤◌, ◌⊎◌}
use Rattle.std.proofs.Common.{count_by}
use Rattle.verdicts.proofs.Retiming.{lifted, lifted_late, lifted_rises, retimed, start}
use Rattle.history_merge.specs.Inner.Timeline.{earlier_by}
use Rattle.linearizer.proofs.Elements.{none_twice-filter, NoneTwice, zip_joined}
use Rattle.claims.specs.declared.shown.LinePlace.TheVariants.{Initial, Op}
use Rattle.value_match.proofs.HistoryPlaces.{call_told, dequeue_told, empty_told, fresh_dequeues, maybe_told}
use Rattle.value_match.proofs.HistoryPlaces.{source_told}
use Rattle.value_match.specs.Inner.HistoryPlaces.{history_place, history_source}
use Rattle.order_violation.specs.Pairs.{IsChosenPair}
use Rattle.linearizer.specs.Order.{AreChosenAndLegal}
use Rattle.verdicts.specs.Laws.{VerdictHasFewLines}
use Rattle.verdicts.proofs.Chosen.{chosen_is_violation}
use Rattle.history_merge.specs.Events.{events_of}
use Rattle.history_merge.proofs.Formed.{run_of_complete}
use Rattle.history_merge.proofs.TheirEvents.{has_returned, length-events_of, told_of_run}
use Rattle.std.specs.List.{remove}
use Rattle.std.proofs.lemmas.List.Elements.{All-head, All-tail}
use Rattle.std.proofs.lemmas.List.Sorted.{IsPermutation-remove}
use Rattle.std.proofs.lemmas.List.Sums.{sum_by-cons}
use Rattle.history_merge.proofs.Distinct.{each_timed}
use Rattle.claims.specs.declared.verdict.Verdict.{Verdict}
use Rattle.verdicts.proofs.CoverGaps.{all_stay, chosen_are_lives, handover, IsCalledInside}
use Rattle.history_merge.proofs.Timelines.{length_timeline}
use Rattle.verdicts.proofs.NamedLines.{cover_lines, line_of_a, line_of_b, lines_are_operations}
use Rattle.history_merge.proofs.Lists.{no_longer}
use Rattle.linearizer.proofs.OneOrder.{none_twice_in_lives}
use Rattle.value_match.specs.declared.life.Source.TheVariants as source
use Rattle.value_match.specs.declared.violation.Violation.TheVariants as violation
use Rattle.claims.specs.declared.claimed.ClaimLine.TheVariants as line
use Rattle.empty_witness.specs.declared.answer.WitnessAnswer.TheVariants as found
use Rattle.claims.specs.declared.shown.LinePlace.TheVariants as place

-- the value of a successful enqueue
abbrev pub accepted_value : OpKind → ℕ
accepted_value (Enqueue v) = v
accepted_value _ = 0

-- the line of an operation of a timeline, where initial values are enqueued before the time of ticket 0
abbrev pub line_of : Operation → ClaimLine
line_of o = cond (nat_lt o.call ORIGIN) (line.Initial (accepted_value o.kind)) (line.Op (earlier_by ORIGIN o))

-- the line of the enqueue of an initial value is that of the value
pub early_line : (o : Operation) → o.call < ORIGIN → line_of o ≡ line.Initial (accepted_value o.kind)
early_line o early = rw (lt-ltb o.call ORIGIN early) refl

-- the line of any other operation is that operation, by its tickets
pub late_line : (o : Operation) → ORIGIN ≤ o.call → line_of o ≡ line.Op (earlier_by ORIGIN o)
late_line o late = rw (le-ltb o.call ORIGIN late) refl

-- the line of an operation at the times of its tickets
pub later_line : (o : Operation) → line_of (later_by ORIGIN o) ≡ line.Op o
later_line o = late_line (later_by ORIGIN o) (omega arith) ∙ ap line.Op (same_operation _ o (omega arith) (omega arith) refl refl)

-- the call of a line's operation, at its time
pub call_of_line : (o : Operation) (call : ℕ) → call_in (line_of o) ≡ Some call → o.call ≡ call + ORIGIN
call_of_line o call is = grind (arith, nat_tests)

-- the line of an operation has its call
pub line_of_call : (o : Operation) (call : ℕ) → o.call ≡ call + ORIGIN → call_in (line_of o) ≡ Some call
line_of_call o call is = grind (arith, nat_tests)

-- the value of an operation's line, if the operations before the first ticket are successful enqueues
pub value_of_line : (o : Operation) → (o.call < ORIGIN → (v : ℕ) × (o.kind ≡ Enqueue v))
    → value_in (line_of o) ≡ value_of o.kind
value_of_line o enqueues = elim (cases_lt o.call ORIGIN) [
  | inl early ↦ let found = (enqueues early).1 in grind (arith, nat_tests)
  | inr late ↦ ap value_in (late_line o late)
]

-- an operation of a selection's timeline has the same line as at its time in the whole
pub same_line : (keeps : ℕ → Bool) (initial : List ℕ) → length initial ≤ MAX_INITIAL → (o : Operation)
    → start (filter keeps initial) ≤ o.call
    → o.call ≤ o.ret → line_of (retimed (lifted keeps initial) o) ≡ line_of o
same_line keeps initial few o from called = grind (
  arith,
  nat_tests,
  lifted_rises keeps initial few o.call ORIGIN from,
  lifted_late keeps initial ORIGIN,
  lifted_late keeps initial o.call,
  lifted_late keeps initial o.ret,
)

-- ---- lists, element by element

-- operations at some places
pub in_range : (operations : List Operation) (places : List ℕ) (listed : List Operation)
    → ArePlacesOf operations places listed
    → All (λ place. place < length operations) places
in_range operations [] listed named = All-nil (λ place. place < length operations)
in_range operations (p ∷ places) [] named = cc
in_range operations (p ∷ places) (o ∷ listed) named =
    let here : slice_get operations p ≡ Some o = cc in
    let later : map (slice_get operations) places ≡ map (λ o. Some o) listed = cc in
    All-cons (λ place. place < length operations) p places (slice_get_within operations p o here) (in_range operations places listed later)

-- the line at this place is that of this operation of the timeline
abbrev pub IsShownAt : List ℕ → List Operation → LinePlace → Operation → Type 0
IsShownAt initial operations place o = (line_at initial operations place ≡ Some (line_of o)) × Contains (timeline initial operations) o

module _ (initial : List ℕ) (operations : List Operation) (few : length initial ≤ MAX_INITIAL) where
  abbrev k : ℕ
  k = length initial

  abbrev all : List Operation
  all = timeline initial operations

  shown_at : (p : ℕ) (o : Operation) → IsOperation operations p o → IsShownAt initial operations (Op p) o
  shown_at p o at =
      let (x, stands, is) = mapped_option (later_by ORIGIN) (slice_get operations p) o (sym (slice_get-map (later_by ORIGIN) operations p) ∙ at) in
      let same : line_of o ≡ line.Op x = ap line_of (sym is) ∙ later_line x in
      (ap (option_map line.Op) stands ∙ ap (λ l. Some l) (sym same), contains_at all (k + p) o (operation_on initial operations p o at))

  source_shown : (s : Source) (o : Operation) → IsSource initial operations s o
      → IsShownAt initial operations (place_of_source s) o
  source_shown (source.Enq p) o at = shown_at p o at
  source_shown (source.Initial p) o at =
      let (v, stands, is) = mapped_option (initial_enqueue k p) (slice_get initial p) o at in
      let within = slice_get_within initial p v stands in
      let call : initial_time k p ≡ o.call = ap (λ (x : Operation). x.call) is in
      let value : v ≡ accepted_value o.kind = ap (λ (x : Operation). accepted_value x.kind) is in
      let same : line_of o ≡ line.Initial v = early_line o (omega arith) ∙ ap line.Initial (sym value) in
      (ap (option_map line.Initial) stands ∙ ap (λ l. Some l) (sym same), contains_at all p o (source_on initial operations (source.Initial p) o at))

  maybe_shown : (p : Option ℕ) (o : Option Operation) → IsMaybeOperation operations p o
      → AllZip (IsShownAt initial operations) (maybe_place p) (option_to_list o)
  maybe_shown None None at = tt
  maybe_shown (Some p) (Some o) at = (shown_at p o at, tt)
  maybe_shown _ _ at = absurd at

  cover_shown : (steps : List CoverStep) (cover : List Life) → NamesCover initial operations steps cover
      → AllZip (IsShownAt initial operations) (flat_map places_of_step steps) (flat_map operations_of_life cover)
  cover_shown [] [] names = tt
  cover_shown (step ∷ steps) (life ∷ cover) names = (
    source_shown step.source (enqueue_of life) names.0.0,
    zip_joined (IsShownAt initial operations) (maybe_place step.dequeue) (flat_map places_of_step steps) (option_to_list (dequeue_of life))
        (flat_map operations_of_life cover)
        (maybe_shown step.dequeue (dequeue_of life) names.0.1) (cover_shown steps cover names.1),
  )
  cover_shown _ _ names = absurd names

  -- the places of a violation are those of its operations' lines, one by one
  pub each_shown : (named : Violation) (full : FullViolation) → Names initial operations named full
      → AllZip (IsShownAt initial operations) (violation_places named) (lines_of full)
  each_shown (violation.Fresh deq enq) (fresh d e) names = (shown_at deq d names.0, maybe_shown enq e names.1)
  each_shown (violation.Repeat enq first second) (repeat e d f) names =
      (source_shown enq e names.0, (shown_at first d names.1, (shown_at second f names.2, tt)))
  each_shown (violation.Order enq_a enq_b deq_b deq_a) (order a b) names = (
    source_shown enq_a (enqueue_of a) names.0.0,
    (
      source_shown enq_b (enqueue_of b) names.1.0,
      zip_joined (IsShownAt initial operations) (maybe_place (Some deq_b)) (maybe_place deq_a) (option_to_list (dequeue_of b))
          (option_to_list (dequeue_of a)) (maybe_shown (Some deq_b) (dequeue_of b) names.1.1) (maybe_shown deq_a (dequeue_of a) names.0.1),
    ),
  )
  each_shown (violation.Witness empty cover) (witness o lives) names = (shown_at empty o names.0, cover_shown cover lives names.1)
  each_shown _ _ names = absurd names

  -- the lines at the places are those of the operations
  pub shown_lines : (places : List LinePlace) (listed : List Operation)
      → AllZip (IsShownAt initial operations) places listed
      → lines_at initial operations places ≡ map line_of listed
  shown_lines [] [] each = refl
  shown_lines (p ∷ places) (o ∷ listed) each =
      ap (λ l. cons_option l (lines_at initial operations places)) each.0.0
      ∙ ap (λ ls. line_of o ∷ ls) (shown_lines places listed each.1)
  shown_lines _ _ each = absurd each

  -- if there is a line at a place, there is an operation or an initial value
  place_within : (place : LinePlace) (l : ClaimLine) → line_at initial operations place ≡ Some l
      → IsPlaceWithin initial operations place
  place_within (Op p) l at = let o = mapped_option line.Op (slice_get operations p) l at in slice_get_within operations p o.0 o.1
  place_within (Initial p) l at = let v = mapped_option line.Initial (slice_get initial p) l at in slice_get_within initial p v.0 v.1

  -- the places of lines that are shown are within the history
  pub all_within : (places : List LinePlace) (listed : List Operation)
      → AllZip (IsShownAt initial operations) places listed → All (IsPlaceWithin initial operations) places
  all_within [] [] each = All-nil (IsPlaceWithin initial operations)
  all_within (p ∷ places) (o ∷ listed) each =
      All-cons (IsPlaceWithin initial operations) p places (place_within p (line_of o) each.0.0) (all_within places listed each.1)
  all_within _ _ each = absurd each

  line_held : {A : Type 0} (as_line : A → ClaimLine) (xs : List A) (p : ℕ) (l : ClaimLine)
      → option_map as_line (slice_get xs p) ≡ Some l
      → Contains (map as_line xs) l
  line_held as_line xs p l at =
      let x = mapped_option as_line (slice_get xs p) l at in
      subst (Contains (map as_line xs)) x.2 (mapped_to as_line xs x.0 (contains_at xs p x.0 x.1))

  -- the line at a place is one of the history
  pub line_there : (place : LinePlace) (l : ClaimLine) → line_at initial operations place ≡ Some l
      → Contains (lines_of_history initial operations) l
  line_there (Op p) l at = Contains-append_right (map line.Initial initial) (map line.Op operations) l (line_held line.Op operations p l at)
  line_there (Initial p) l at = Contains-append_left (map line.Initial initial) (map line.Op operations) l (line_held line.Initial initial p l at)

  -- all listed operations are in the timeline
  abbrev pub AreAmong : List Operation → Type 0
  AreAmong listed = (o : Operation) → Contains listed o → Contains (timeline initial operations) o

  maybe_at : (d : Option Operation) → AreAmong (option_to_list d) → (place : Option ℕ) × IsMaybeAt all place d
  maybe_at None among = (None, tt)
  maybe_at (Some d) among = let at = place_of all d (among d (zero, omega arith, refl)) in (Some at.0, at.1)

  life_at : (life : Life) → MatchOption (dequeue_of life) ⊤ (λ d. (v : ℕ) × (d.kind ≡ Dequeue v))
      → AreAmong (operations_of_life life)
      → (step : CoverStep) × IsNamed initial operations step.source step.dequeue life
  life_at life ends among =
      let enqueue = place_of all (enqueue_of life) (among (enqueue_of life) (zero, omega arith, refl)) in
      let dequeue = maybe_at (dequeue_of life) (λ o at. among o (one_deeper (enqueue_of life) (option_to_list (dequeue_of life)) o at)) in (
        record { source = history_source k enqueue.0; dequeue = option_map (history_place k) dequeue.0 },
        (
          source_told initial operations few enqueue.0 (enqueue_of life) enqueue.1,
          maybe_told initial operations few dequeue.0 (dequeue_of life) dequeue.1 ends,
        ),
      )

  cover_at : (cover : List Life) → AreLives cover → AreAmong (flat_map operations_of_life cover)
      → (steps : List CoverStep) × NamesCover initial operations steps cover
  cover_at [] are among = ([], tt)
  cover_at (life ∷ cover) are among =
      let first = life_at life are.1 (λ o at. among o (Contains-append_left (operations_of_life life) (flat_map operations_of_life cover) o at)) in
      let rest = cover_at cover are.2 (λ o at. among o (Contains-append_right (operations_of_life life) (flat_map operations_of_life cover) o at)) in
      (first.0 ∷ rest.0, (first.1, rest.1))

  -- a dequeued value has a place of its dequeue
  dequeued_at : (step : CoverStep) (life : Life) → IsNamed initial operations step.source step.dequeue life
      → dequeue_call life < NEVER
      → (p : ℕ) × IsNamed initial operations step.source (Some p) life
  dequeued_at step life names called =
      let d = dequeued_if_called life called in
      let found = place_there step.dequeue (dequeue_of life) d.0 names.1 d.1 in
      (found.0, (names.0, subst (λ p. IsMaybeOperation operations p (dequeue_of life)) found.1 names.1))
    where
      place_there : (place : Option ℕ) (o : Option Operation) (d : Operation) → IsMaybeOperation operations place o
          → o ≡ Some d
          → (p : ℕ) × (place ≡ Some p)
      place_there (Some p) o d at is = (p, refl)
      place_there None None d at is = cc
      place_there None (Some e) d at is = absurd at

  -- a violation has places
  pub violation_at : (full : FullViolation) → IsViolationOf (on (timeline initial operations)) full
      → AreAmong (lines_of full)
      → (found : Violation) × Names initial operations found full
  violation_at (fresh deq enq) is among =
      let d = place_of all deq (among deq (zero, omega arith, refl)) in
      let e = maybe_at enq (λ o at. among o (one_deeper deq (option_to_list enq) o at)) in
      let dequeues = fresh_dequeues all deq enq is in (
        violation.Fresh (history_place k d.0) (option_map (history_place k) e.0),
        (dequeue_told initial operations few d.0 deq dequeues.0 d.1 dequeues.1, call_told initial operations few d.0 deq e.0 enq d.1 e.1 is),
      )
  violation_at (repeat enq first second) is among =
      let e = place_of all enq (among enq (zero, omega arith, refl)) in
      let d = place_of all first (among first (1, omega arith, refl)) in
      let f = place_of all second (among second (2, omega arith, refl)) in (
        violation.Repeat (history_source k e.0) (history_place k d.0) (history_place k f.0),
        (
          source_told initial operations few e.0 enq e.1,
          dequeue_told initial operations few d.0 first is.value d.1 is.dequeues.1,
          dequeue_told initial operations few f.0 second is.value f.1 is.dequeues_again.1,
        ),
      )
  violation_at (order a b) is among =
      let at_a = life_at a (dequeues all is.is_a.0 (dequeue_of a) is.is_a.2) (λ o at. among o (line_of_a a b o at)) in
      let at_b = life_at b (dequeues all is.is_b.0 (dequeue_of b) is.is_b.2) (λ o at. among o (line_of_b a b o at)) in
      let named = dequeued_at at_b.0 b at_b.1 is.is_dequeued in
      (violation.Order at_a.0.source at_b.0.source named.0 at_a.0.dequeue, (at_a.1, named.1))
  violation_at (witness empty cover) is among =
      let o = place_of all empty (among empty (zero, omega arith, refl)) in
      let are = covers_are_lives all empty empty.call cover is.covers in
      let steps = cover_at cover are (λ x at. among x (one_deeper empty (flat_map operations_of_life cover) x at)) in
      (violation.Witness (history_place k o.0) steps.0, (empty_told initial operations few o.0 empty o.1 is.answers_empty.1, steps.1))

-- ---- a chosen violation decides a history, and so does a chosen order that is legal

-- a chosen order decides
pub yes_is_decided : (initial : List ℕ) (operations : List Operation) (places : List ℕ)
    → AreChosenAndLegal initial operations places
    → IsDecided initial operations (Yes places)
yes_is_decided initial operations places chosen = record {
  chosen = (chosen.0, chosen.1, chosen.2);
  evidence = (chosen.0, chosen.1, chosen.3);
  exact = (chosen.0, chosen.3);
  places = All-map (IsPlaceWithin initial operations) place.Op places (in_range operations places chosen.0 chosen.1);
}

-- the chosen pair is the chosen violation if the first two kinds are absent
pub pair_is_chosen : (initial : List ℕ) (operations : List Operation) (pair : OrderPair)
    → IsClear (course initial operations)
    → IsChosenPair initial operations pair
    → IsChosenViolation initial operations (violation.Order pair.enq_a pair.enq_b pair.deq_b pair.deq_a)
pair_is_chosen initial operations pair clear is =
    (order is.a is.b, is.names, (clear.no_fresh, clear.no_repeat, is.is_chosen))

-- the chosen empty dequeue with its cover is the chosen violation if the first three kinds are absent
pub witness_is_chosen : (initial : List ℕ) (operations : List Operation) (empty : ℕ) (cover : List CoverStep)
    → IsClear (course initial operations)
    → NoOrderViolation (course initial operations) → IsWitnessAnswer initial operations (found.Covered empty cover)
    → IsChosenViolation initial operations (violation.Witness empty cover)
witness_is_chosen initial operations empty cover clear none is = (witness is.0 is.1, (is.2, is.3), (clear.no_fresh, clear.no_repeat, none, is.4))

-- ---- the operations of a complete history determine its events

-- the events of a complete history are those of its operations
pub events_told : (events : List Event) → IsCompleteHistory events → events_of (operations_of events) ≡ events
events_told events complete =
    ap events_of (sym (all_formed events complete)) ∙ told_of_run events _ (run_of_complete events complete)

-- parts of one complete history are equal if they are complete and have the same operations
pub part_is_one : (events xs ys : List Event) → IsCompleteHistory events → ArePartOf events xs → ArePartOf events ys
    → IsCompleteHistory xs
    → IsCompleteHistory ys → operations_of xs ≡ operations_of ys → xs ≡ ys
part_is_one events xs ys complete part_x part_y complete_x complete_y same =
    sym (events_told xs complete_x) ∙ ap events_of same ∙ events_told ys complete_y

-- ---- lists without repetition

-- a list without repetition is no longer than a list that has its elements
no_more : {X : Type 0} (xs ys : List X) → NoneTwice xs → ((x : X) → Contains xs x → Contains ys x)
    → length xs ≤ length ys
no_more [] ys once among = omega arith
no_more {X} (x ∷ xs) ys once among =
    let at = among x (zero, omega arith, refl) in
    let moved = IsPermutation-remove ys at.0 x at.1 (sym at.2) in
    let fewer = no_more xs (remove ys at.0) once.1 (λ z later. elim (contains_cons x (remove ys at.0) z
    (Contains-permutation ys (x ∷ remove ys at.0) z moved (among z (one_deeper x xs z later)))) [
      | inl same ↦ absurd (once.0 (subst (Contains xs) (sym same) later))
      | inr left ↦ left
    ]) in
    omega (arith, length_permutation ys (x ∷ remove ys at.0) moved)

all_returned : (operations : List Operation) → All (λ o. (o.call < o.ret) × (o.ret ≤ MAX_TICKET)) operations
    → count_by has_returned operations ≡ length operations
all_returned [] timed = refl
all_returned (o ∷ rest) timed = grind (
  arith,
  nat_tests,
  sum_by-cons (λ x. cond (has_returned x) 1 0) o rest,
  All-head (λ o. (o.call < o.ret) × (o.ret ≤ MAX_TICKET)) o rest timed,
  all_returned rest (All-tail (λ o. (o.call < o.ret) × (o.ret ≤ MAX_TICKET)) o rest timed),
)

-- a history has two events for each operation
two_events : (events : List Event) → IsCompleteHistory events
    → length events ≡ length (operations_of events) + length (operations_of events)
two_events events complete =
    let told = ap length (events_told events complete) in
    let each = length-events_of (operations_of events) in
    let returned = all_returned (operations_of events) (each_timed events complete) in
    omega arith

-- ---- the lines of a violation

module _ (operations : List Operation) (empty : Operation) (clear : IsClear (on operations)) (did : Did operations empty DequeueEmpty)
    (covered : IsCovered (on operations) empty) where
  -- no value is in a chosen cover twice, since each leaves before the later ones
  cover_once : (cover : List Life) (before : Operation) → IsCalledInside operations empty clear did covered before
      → IsChosenCoverFrom (on operations) empty before.call cover → NoneTwice cover
  cover_once [] before inside chosen = absurd chosen
  cover_once (life ∷ []) before inside chosen = (not_in_none life, tt)
  cover_once (life ∷ next ∷ rest) before inside chosen =
      let after = handover operations empty clear did covered before life (next ∷ rest) next inside chosen (zero, omega arith, refl) in (
        λ among. let stays = all_stay operations empty clear did covered (next ∷ rest) after.0 life after.1.inside after.1.further among in
            omega (arith, after.1.calls),
        cover_once (next ∷ rest) after.0 after.1.inside after.1.further,
      )

-- a chosen violation has at most four lines, or its lines have no repetition
few_or_once : (operations : List Operation) (full : FullViolation) → AreComplete operations
    → IsChosenFullViolation (on operations) full
    → (length (lines_of full) ≤ 4) ⊎ NoneTwice (lines_of full)
few_or_once operations (fresh deq None) complete chosen = inl (omega arith)
few_or_once operations (fresh deq (Some enq)) complete chosen = inl (omega arith)
few_or_once operations (repeat enq first second) complete chosen = inl (omega arith)
few_or_once operations (order a b) complete chosen = inl (two_lives (dequeue_of a) (dequeue_of b))
  where
    two_lives : (d e : Option Operation)
        → length (enqueue_of a ∷ enqueue_of b ∷ (option_to_list e ++ option_to_list d)) ≤ 4
    two_lives None None = omega arith
    two_lives None (Some e) = omega arith
    two_lives (Some d) None = omega arith
    two_lives (Some d) (Some e) = omega arith
few_or_once operations (witness empty cover) complete chosen =
    let clear : IsClear (on operations) = record { complete = complete; no_fresh = chosen.0; no_repeat = chosen.1 } in
    let did = chosen.3.answers_empty in
    let other = no_enqueue empty DequeueEmpty did.1 refl in
    let window = call_before_return operations empty complete did.0 other in inr (
      λ among.
          let line = cover_lines operations cover (λ y in_cover. chosen_are_lives operations empty cover empty.call y chosen.3.cover_is_chosen in_cover)
          empty among in
          let clash : None ≡ Some line.is_life.0 = sym (ap value_of did.1) ∙ line.is_of.1 in
          cc,
      none_twice_in_lives operations clear cover (cover_once operations empty clear did chosen.3.is_covered cover empty
          (record { among = did.0; after_call = omega arith; before_return = window; is_other = other }) chosen.3.cover_is_chosen)
          (λ y in_cover. chosen_are_lives operations empty cover empty.call y chosen.3.cover_is_chosen in_cover),
    )

-- ---- the operations among the lines

-- the operation isn't the enqueue of an initial value
abbrev is_own : Operation → Bool
is_own o = not (nat_lt o.call ORIGIN)

-- the line is that of an operation
abbrev line_is_operation : ClaimLine → Bool
line_is_operation (line.Op o) = true
line_is_operation (line.Initial v) = false

module _ (initial : List ℕ) (operations : List Operation) where
  of_place : (p : LinePlace) (l : ClaimLine) → line_at initial operations p ≡ Some l
      → is_operation p ≡ line_is_operation l
  of_place (place.Op p) l at = ap line_is_operation (mapped_option line.Op (slice_get operations p) l at).2
  of_place (place.Initial p) l at = ap line_is_operation (mapped_option line.Initial (slice_get initial p) l at).2

  of_line : (o : Operation) → line_is_operation (line_of o) ≡ is_own o
  of_line o = grind arith

  -- the places of operations are those of the history's own operations
  counted : (places : List LinePlace) (listed : List Operation) → AllZip (IsShownAt initial operations) places listed
      → length (filter is_operation places) ≡ length (filter is_own listed)
  counted [] [] each = refl
  counted (p ∷ places) (o ∷ listed) each =
      let same = of_place p (line_of o) each.0.0 ∙ of_line o in grind (arith, counted places listed each.1)
  counted _ _ each = absurd each

-- the operations of a timeline other than the enqueues of initial values are the history's
own_is_later : (initial : List ℕ) (operations : List Operation) (o : Operation) → length initial ≤ MAX_INITIAL
    → Contains (timeline initial operations) o
    → is_own o ≡ true → Contains (map (later_by ORIGIN) operations) o
own_is_later initial operations o few among own =
    elim (Contains-append_cases (initial_enqueues initial) (map (later_by ORIGIN) operations) o among) [
      | inl here ↦
          let found = enqueue_place initial o here in
          let call : initial_time (length initial) found.0 ≡ o.call = ap (λ (x : Operation). x.call) found.3 in
          let within = slice_get_within initial found.0 found.1 found.2 in
          let late = ltb-false o.call ORIGIN (not-true (nat_lt o.call ORIGIN) own) in
          absurd (omega (arith, call, within, late))
      | inr there ↦ there
    ]

-- the chosen verdict on a history names few operations, and has few lines
pub verdict_has_few_lines : VerdictHasFewLines
verdict_has_few_lines initial events verdict whole few_initial few_events chosen = by_verdict verdict chosen
  where
    operations : List Operation
    operations = operations_of events

    all : List Operation
    all = timeline initial operations

    complete : AreComplete all
    complete = timeline_is_complete initial events whole few_initial

    few : length operations ≤ MAX_OPERATIONS
    few = let half = two_events events whole.complete in omega (arith, few_events, half)

    by_verdict : (verdict : Verdict) → IsVerdict initial operations verdict
        → (length (operations_named verdict) ≤ MAX_OPERATIONS)
        × (length (verdict_places verdict) ≤ MAX_OPERATIONS + length initial)
    by_verdict (Yes places) is =
        let moved = length_permutation (timed operations) (timed is.0) is.2.holds_each_once in
        let long = length-map operations (later_by ORIGIN) in
        let long' = length-map is.0 (later_by ORIGIN) in
        let many : length places ≡ length is.0 = simp length-map at (ap length is.1) in
        let shown : length (map (λ p. place.Op p) places) ≡ length places = simp length-map in
        let named = no_longer is_operation (map (λ p. place.Op p) places) in
        (omega (arith, few, moved), omega (arith, few, moved))
    by_verdict (No violation) is =
        let shown = each_shown initial operations few_initial violation is.0 is.1 in
        let many = AllZip-long (IsShownAt initial operations) (violation_places violation) (lines_of is.0) shown in
        let named = counted initial operations (violation_places violation) (lines_of is.0) shown in
        let own = few_own in
        let lines = few_shown in
        (omega (arith, named, own), omega (arith, many, lines))
      where
        chosen' : IsChosenFullViolation (on all) is.0
        chosen' = chosen_of (course initial operations) (on all) (course_on initial operations) is.0 is.2

        among : (o : Operation) → Contains (lines_of is.0) o → Contains all o
        among = lines_are_operations all is.0 (chosen_is_violation all is.0 complete chosen')

        few_shown : length (lines_of is.0) ≤ MAX_OPERATIONS + length initial
        few_shown = elim (few_or_once all is.0 complete chosen') [
          | inl short ↦ omega arith
          | inr once ↦
              let each = no_more (lines_of is.0) all once among in
              let long = length_timeline initial operations in
              omega (arith, few)
        ]

        few_own : length (filter is_own (lines_of is.0)) ≤ MAX_OPERATIONS
        few_own = elim (few_or_once all is.0 complete chosen') [
          | inl short ↦ let less = no_longer is_own (lines_of is.0) in omega arith
          | inr once ↦
              let each = no_more (filter is_own (lines_of is.0)) (map (later_by ORIGIN) operations) (none_twice-filter is_own (lines_of is.0) once)
              (λ o at. let passed = passed_filter is_own (lines_of is.0) o at in own_is_later initial operations o few_initial (among o passed.0) passed.1) in
              let long : length (map (later_by ORIGIN) operations) ≡ length operations = simp length-map in
              omega (arith, few)
        ]
