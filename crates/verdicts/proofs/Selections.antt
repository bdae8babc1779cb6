-- Lives, covers and violations carried from one list of operations to another by mapping each operation. A chosen
-- cover is a shortest one.
use Rattle.verdicts.proofs.Common.{[], All, All-contains, All-filter, all_formed, AllPairs, AllPairs-cons}
use Rattle.verdicts.proofs.Common.{AllPairs-filter, AllPairs-tail, AllZip-long, answers, Any-from_list_any, ap, ap₂}
use Rattle.verdicts.proofs.Common.{AreComplete, AreDistinct, arith, Bool, call_or_never, called_value}
use Rattle.verdicts.proofs.Common.{called_values, chosen_cover_is_shortest, cond, cons_option, Contains}
use Rattle.verdicts.proofs.Common.{Contains-append_cases, Contains-append_left, Contains-append_right, Contains-get_or}
use Rattle.verdicts.proofs.Common.{contains_cons, course, CoversFrom, CoverStep, Dequeue, dequeue_of, Did}
use Rattle.verdicts.proofs.Common.{DequeueEmpty, Enqueue}
use Rattle.verdicts.proofs.Common.{enqueue_of, eqb-true, Event, false, filter, filter_map, find, flat_map, fresh}
use Rattle.verdicts.proofs.Common.{FullViolation, get_or, holds_ticket, inl, inr, is_call, IsChosenViolation}
use Rattle.verdicts.proofs.Common.{IsCompleteFrom, IsCompleteHistory, IsLife, IsNamed, IsShortestCover, IsTrue}
use Rattle.verdicts.proofs.Common.{IsViolationOf, IsWitnessViolation, keeps, kept, kind_of, length, Life, lines_of}
use Rattle.verdicts.proofs.Common.{List, list_any-from_Any, map, map-append, MatchOption, MAX_INITIAL, MAX_THREAD}
use Rattle.verdicts.proofs.Common.{MAX_TICKET, Names, nat_eq, nat_tests, NEVER, None, NoneDid, EnqueueFailed}
use Rattle.verdicts.proofs.Common.{not_in_none}
use Rattle.verdicts.proofs.Common.{on, one_at, one_deeper, Operation, operations_are_complete, operations_of}
use Rattle.verdicts.proofs.Common.{operations_of_life, OpKind, Option, option_map, option_to_list, order}
use Rattle.verdicts.proofs.Common.{passed_filter, passes_filter, Precedes, projection, refl, repeat, return_or_never}
use Rattle.verdicts.proofs.Common.{returns_at_call, same_call, same_return, slice_get, Some, subst, suc, sym}
use Rattle.verdicts.proofs.Common.{TakesTurns, timed, timeline, timeline_is_complete, true, value_of, Violation}
use Rattle.verdicts.proofs.Common.{witness, zero, ℕ, ◌++◌, ◌<◌, ◌||◌, ◌∙◌, ◌∷◌, ◌≡◌, ◌≢◌, ◌≤◌, ◌⊎◌}
use Rattle.verdicts.proofs.NamedLines.{line_of_a, line_of_b}
use Rattle.history_merge.proofs.TheirEvents.{next_is_first}
use Rattle.history_merge.specs.Forming.{operation_so_far, operations_so_far}
use Rattle.history_merge.specs.Inner.History.{next_of}
use Rattle.history_merge.proofs.Turns.{answered_is_call}
use Rattle.std.proofs.lemmas.Bool.Decides.{same_from_decides}
use Rattle.history_merge.proofs.Lists.{no_longer}
use Rattle.value_match.specs.declared.violation.Violation.TheVariants as violation

-- a life with its operations mapped
abbrev pub mapped_life : (Operation → Operation) → Life → Life
mapped_life g life = record { enqueue = g (enqueue_of life); dequeue = option_map g (dequeue_of life) }

-- a violation with its operations mapped
abbrev pub mapped_violation : (Operation → Operation) → FullViolation → FullViolation
mapped_violation g (fresh deq enq) = fresh (g deq) (option_map g enq)
mapped_violation g (repeat enq first second) = repeat (g enq) (g first) (g second)
mapped_violation g (order a b) = order (mapped_life g a) (mapped_life g b)
mapped_violation g (witness empty cover) = witness (g empty) (map (mapped_life g) cover)

module _ (g : Operation → Operation) where
  maybe_line : (d : Option Operation) → option_to_list (option_map g d) ≡ map g (option_to_list d)
  maybe_line None = refl
  maybe_line (Some d) = refl

  cover_lines : (cover : List Life)
      → flat_map operations_of_life (map (mapped_life g) cover) ≡ map g (flat_map operations_of_life cover)
  cover_lines [] = refl
  cover_lines (life ∷ cover) =
      ap (λ os. g (enqueue_of life) ∷ (os ++ flat_map operations_of_life (map (mapped_life g) cover))) (maybe_line (dequeue_of life))
      ∙ ap (λ os. map g (operations_of_life life) ++ os) (cover_lines cover)
      ∙ sym (map-append g (operations_of_life life) (flat_map operations_of_life cover))

  -- the lines of a mapped violation are the mapped lines
  pub mapped_lines : (full : FullViolation) → lines_of (mapped_violation g full) ≡ map g (lines_of full)
  mapped_lines (fresh deq enq) = ap (λ os. g deq ∷ os) (maybe_line enq)
  mapped_lines (repeat enq first second) = refl
  mapped_lines (order a b) =
      ap (λ os. g (enqueue_of a) ∷ g (enqueue_of b) ∷ os)
      (ap₂ (λ (ds es : List Operation). ds ++ es) (maybe_line (dequeue_of b)) (maybe_line (dequeue_of a))
      ∙ sym (map-append g (option_to_list (dequeue_of b)) (option_to_list (dequeue_of a))))
  mapped_lines (witness empty cover) = ap (λ os. g empty ∷ os) (cover_lines cover)

  -- a mapped violation has the same kind
  pub mapped_kind : (full : FullViolation) → kind_of (mapped_violation g full) ≡ kind_of full
  mapped_kind (fresh deq enq) = refl
  mapped_kind (repeat enq first second) = refl
  mapped_kind (order a b) = refl
  mapped_kind (witness empty cover) = refl

-- the consequences for an optional operation and its image
mapped_then : {P Q : Type 0} (R S : Operation → Type 0) (g : Operation → Operation) (d : Option Operation)
    → MatchOption d P R → (P → Q)
    → ((x : Operation) → Contains (option_to_list d) x → R x → S (g x)) → MatchOption (option_map g d) Q S
mapped_then R S g None is none some = none is
mapped_then R S g (Some x) is none some = some x (zero, omega arith, refl) is

-- each taken operation has an image of the same kind, in the same order; a kind that no operation has, with a value
-- that one has, has none among the images
pub record Carries (from to : List Operation) (g : Operation → Operation) (IsTaken : Operation → Type 0) : Type 0 where
  pub did : (o : Operation) (kind : OpKind) → IsTaken o → Did from o kind → Did to (g o) kind
  pub none_did : (o : Operation) (v : ℕ) (own kind : OpKind) → Did from o own → value_of own ≡ Some v
      → value_of kind ≡ Some v
      → NoneDid from kind → NoneDid to kind
  pub precedes : (x y : Operation) → IsTaken x → IsTaken y → Precedes x y → Precedes (g x) (g y)
  pub in_turn : (x y : Operation) → IsTaken x → IsTaken y → x.ret < y.ret → (g x).ret < (g y).ret
  pub in_range : (x : Operation) → IsTaken x → ((g x).call < NEVER) × ((g x).ret < NEVER)

module _ {from to : List Operation} {g : Operation → Operation} {IsTaken : Operation → Type 0}
    (c : Carries from to g IsTaken) where
  -- all listed operations are taken
  abbrev AreTaken : List Operation → Type 0
  AreTaken listed = (o : Operation) → Contains listed o → IsTaken o

  -- a life is carried over
  pub life_carried : (life : Life) → AreTaken (operations_of_life life) → IsLife (on from) life
      → IsLife (on to) (mapped_life g life)
  life_carried life taken is = (
    is.0,
    c.did (enqueue_of life) (Enqueue is.0) (taken (enqueue_of life) (zero, omega arith, refl)) is.1,
    mapped_then _ _ g (dequeue_of life) is.2 (c.none_did (enqueue_of life) is.0 (Enqueue is.0) (Dequeue is.0) is.1 refl refl)
        (λ d at. c.did d (Dequeue is.0) (taken d (one_deeper (enqueue_of life) (option_to_list (dequeue_of life)) d at))),
  )

  -- an operation that returns before an optional call does so after mapping
  before_call : (x : Operation) (d : Option Operation) → IsTaken x → AreTaken (option_to_list d)
      → x.ret < call_or_never d
      → (g x).ret < call_or_never (option_map g d)
  before_call x None is_x are less = (c.in_range x is_x).1
  before_call x (Some d) is_x are less = c.precedes x d is_x (are d (zero, omega arith, refl)) less

  -- a value dequeued before another is, or never, is so after mapping
  left_before : (x d : Option Operation) → AreTaken (option_to_list x) → AreTaken (option_to_list d)
      → call_or_never x < NEVER
      → return_or_never x < call_or_never d → return_or_never (option_map g x) < call_or_never (option_map g d)
  left_before None d are_x are called less = absurd (omega arith)
  left_before (Some x) d are_x are called less = before_call x d (are_x x (zero, omega arith, refl)) are less

  called_there : (x : Option Operation) → AreTaken (option_to_list x) → call_or_never x < NEVER
      → call_or_never (option_map g x) < NEVER
  called_there None are called = called
  called_there (Some x) are called = (c.in_range x (are x (zero, omega arith, refl))).0

  cover_carried : (empty : Operation) (before : Option Operation) (cover : List Life) → IsTaken empty
      → AreTaken (option_to_list before)
      → AreTaken (flat_map operations_of_life cover) → CoversFrom (on from) empty (call_or_never before) cover
      → CoversFrom (on to) (g empty) (call_or_never (option_map g before)) (map (mapped_life g) cover)
  cover_carried empty before [] is_empty are_before taken covers = covers
  cover_carried empty before (life ∷ []) is_empty are_before taken covers =
      let own : AreTaken (operations_of_life life) = λ o at. taken o (Contains-append_left (operations_of_life life) [] o at) in (
        life_carried life own covers.0,
        before_call (enqueue_of life) before (own (enqueue_of life) (zero, omega arith, refl)) are_before covers.1,
        before_call empty (dequeue_of life) is_empty (λ o at. own o (one_deeper (enqueue_of life) (option_to_list (dequeue_of life)) o at)) covers.2,
      )
  cover_carried empty before (life ∷ next ∷ rest) is_empty are_before taken covers =
      let own : AreTaken (operations_of_life life) = λ o at. taken o
      (Contains-append_left (operations_of_life life) (flat_map operations_of_life (next ∷ rest)) o at) in
      let last : AreTaken (option_to_list (dequeue_of life)) = λ o at. own o (one_deeper (enqueue_of life) (option_to_list (dequeue_of life)) o at) in (
        life_carried life own covers.0,
        before_call (enqueue_of life) before (own (enqueue_of life) (zero, omega arith, refl)) are_before covers.1,
        called_there (dequeue_of life) last covers.2,
        cover_carried empty (dequeue_of life) (next ∷ rest) is_empty last
            (λ o later. taken o (Contains-append_right (operations_of_life life) (flat_map operations_of_life (next ∷ rest)) o later)) covers.3,
      )

  -- a violation is carried over
  pub violation_carried : (full : FullViolation) → AreTaken (lines_of full) → IsViolationOf (on from) full
      → IsViolationOf (on to) (mapped_violation g full)
  violation_carried (fresh deq enq) taken is =
      let first = taken deq (zero, omega arith, refl) in
      mapped_then _ _ g enq is
      (λ never. record {
        value = never.value;
        dequeues = c.did deq (Dequeue never.value) first never.dequeues;
        not_accepted = λ enq did. c.none_did deq never.value (Dequeue never.value) (Enqueue never.value) never.dequeues refl refl
            (λ o among is. never.not_accepted o (among, is)) enq did.0 did.1;
        not_failed = c.none_did deq never.value (Dequeue never.value) (EnqueueFailed never.value) never.dequeues refl refl never.not_failed;
      })
      (λ e at late.
      let taken_e = taken e (one_deeper deq (option_to_list enq) e at) in record {
        value = late.value;
        dequeues = c.did deq (Dequeue late.value) first late.dequeues;
        enqueues = elim late.enqueues [
          | inl failed ↦ inl (c.did e (EnqueueFailed late.value) taken_e failed)
          | inr accepted ↦ inr (c.did e (Enqueue late.value) taken_e accepted.0, c.precedes deq e first taken_e accepted.1)
        ];
      })
  violation_carried (repeat enq first second) taken is =
      let sooner = taken first (1, omega arith, refl) in let later = taken second (2, omega arith, refl) in record {
        value = is.value;
        enqueues = c.did enq (Enqueue is.value) (taken enq (zero, omega arith, refl)) is.enqueues;
        dequeues = c.did first (Dequeue is.value) sooner is.dequeues;
        dequeues_again = c.did second (Dequeue is.value) later is.dequeues_again;
        in_order = c.in_turn first second sooner later is.in_order;
      }
  violation_carried (order a b) taken is =
      let own_a : AreTaken (operations_of_life a) = λ o at. taken o (line_of_a a b o at) in
      let own_b : AreTaken (operations_of_life b) = λ o at. taken o (line_of_b a b o at) in
      let last_b : AreTaken (option_to_list (dequeue_of b)) = λ o at. own_b o (one_deeper (enqueue_of b) (option_to_list (dequeue_of b)) o at) in record {
        is_a = life_carried a own_a is.is_a;
        is_b = life_carried b own_b is.is_b;
        is_dequeued = called_there (dequeue_of b) last_b is.is_dequeued;
        overtakes = (
          c.precedes (enqueue_of a) (enqueue_of b) (own_a (enqueue_of a) (zero, omega arith, refl)) (own_b (enqueue_of b) (zero, omega arith, refl))
              is.overtakes.0,
          left_before (dequeue_of b) (dequeue_of a) last_b (λ o at. own_a o (one_deeper (enqueue_of a) (option_to_list (dequeue_of a)) o at))
              is.is_dequeued is.overtakes.1,
        );
      }
  violation_carried (witness empty cover) taken is =
      let first = taken empty (zero, omega arith, refl) in record {
        answers_empty = c.did empty DequeueEmpty first is.answers_empty;
        covers = cover_carried empty (Some empty) cover first
            (λ o at. elim (contains_cons empty [] o at) [ inl same ↦ subst IsTaken same first | inr none ↦ absurd (not_in_none o none) ])
            (λ o at. taken o (one_deeper empty (flat_map operations_of_life cover) o at)) is.covers;
      }

-- the chosen violation has a shortest cover
pub has_shortest_cover : (initial : List ℕ) (operations : List Operation) (named : Violation)
    → IsChosenViolation initial operations named
    → (full : FullViolation) → Names initial operations named full → IsShortestCover (course initial operations) full
has_shortest_cover initial operations named chosen (fresh deq enq) names = tt
has_shortest_cover initial operations named chosen (repeat enq first second) names = tt
has_shortest_cover initial operations named chosen (order a b) names = tt
has_shortest_cover initial operations (violation.Witness place steps) (witness empty' cover', names', chosen) (witness empty cover) names =
    λ other is.
    let same = one_at (timed operations) place empty empty' names.0 names'.0 in
    let shortest = chosen_cover_is_shortest (course initial operations) empty' cover' other
    chosen.3.cover_is_chosen
    (subst (λ o. IsWitnessViolation (course initial operations) o other) same is) in
    let long = AllZip-long (λ (step : CoverStep) life. IsNamed initial operations step.source step.dequeue life) steps cover names.1 in
    let long' = AllZip-long (λ (step : CoverStep) life. IsNamed initial operations step.source step.dequeue life) steps cover' names'.1 in
    omega arith
has_shortest_cover initial operations (violation.Witness place steps) (_, names', chosen) (witness empty cover) names = absurd names'
has_shortest_cover initial operations _ chosen (witness empty cover) names = absurd names

-- two filters commute
pub filters_swap : {X : Type 0} (p q : X → Bool) (xs : List X) → filter p (filter q xs) ≡ filter q (filter p xs)
filters_swap p q [] = refl
filters_swap p q (x ∷ xs) = grind (arith, filters_swap p q xs)

-- an element found in the whole list is found in the kept part, if it is kept
find_kept : {X : Type 0} (p keeps : X → Bool) (xs : List X) (r : X) → find p xs ≡ Some r → keeps r ≡ true
    → find p (filter keeps xs) ≡ Some r
find_kept p keeps [] r found is = cc
find_kept p keeps (x ∷ xs) r found is = grind (arith, find_kept p keeps xs r)

-- if no element is found in the whole list, none is found in a part
find_none_kept : {X : Type 0} (p keeps : X → Bool) (xs : List X) → find p xs ≡ None → find p (filter keeps xs) ≡ None
find_none_kept p keeps [] none = none
find_none_kept p keeps (x ∷ xs) none = grind (arith, find_none_kept p keeps xs)

-- both tickets of each operation are kept, or neither
abbrev pub KeepsBoth : (ℕ → Bool) → (Operation → Bool) → List Operation → Type 0
KeepsBoth keeps test operations = (o : Operation) → Contains operations o → (keeps o.call ≡ test o) × (keeps o.ret ≡ test o)

module _ (keeps : ℕ → Bool) (test : Operation → Bool) where
  abbrev kept_events : List Event → List Event
  kept_events events = filter (λ e. keeps e.ticket) events

  -- the operations of the kept events are those that pass the test
  kept_operations : (events : List Event) → KeepsBoth keeps test (operations_so_far events)
      → operations_so_far (kept_events events) ≡ filter test (operations_so_far events)
  kept_operations [] both = refl
  kept_operations (e ∷ later) both = join (is_call e.what) refl (next_of e.thread later) refl both (kept_operations later)
    where
      join : (b : Bool) → is_call e.what ≡ b → (next : Option Event) → next_of e.thread later ≡ next
          → KeepsBoth keeps test (cond b (operation_so_far e next ∷ operations_so_far later) (operations_so_far later))
          → (KeepsBoth keeps test (operations_so_far later)
          → operations_so_far (kept_events later) ≡ filter test (operations_so_far later))
          → operations_so_far (cond (keeps e.ticket) (e ∷ kept_events later) (kept_events later))
          ≡ filter test (cond b (operation_so_far e next ∷ operations_so_far later) (operations_so_far later))
      join false is next found both' rest = let more = rest both' in grind arith
      join true is None found both' rest =
          let own = both' (operation_so_far e None) (zero, omega arith, refl) in
          let more = rest (λ o among. both' o (one_deeper (operation_so_far e None) (operations_so_far later) o among)) in
          grind (arith, find_none_kept (λ r. nat_eq r.thread e.thread) (λ r. keeps r.ticket) later found)
      join true is (Some a) found both' rest =
          let own = both' (operation_so_far e (Some a)) (zero, omega arith, refl) in
          let more = rest (λ o among. both' o (one_deeper (operation_so_far e (Some a)) (operations_so_far later) o among)) in
          grind (arith, find_kept (λ r. nat_eq r.thread e.thread) (λ r. keeps r.ticket) later a found)

  -- kept events take turns if each call is kept together with its return
  kept_turns : (events : List Event) → TakesTurns events
      → ((before : List Event) (c a : Event) (rest : List Event) → events ≡ before ++ c ∷ a ∷ rest
      → IsTrue (answers c.what a.what)
      → keeps c.ticket ≡ keeps a.ticket) → TakesTurns (kept_events events)
  kept_turns [] turns alike = tt
  kept_turns (c ∷ []) turns alike = elim turns [ ]
  kept_turns (c ∷ a ∷ rest) turns alike = pick (keeps c.ticket) (keeps a.ticket) (alike [] c a rest refl turns.0) (kept_turns rest turns.1
      (λ before c' a' rest' same. alike (c ∷ a ∷ before) c' a' rest' (ap (λ xs. c ∷ a ∷ xs) same)))
    where
      pick : (k l : Bool) → k ≡ l → TakesTurns (kept_events rest)
          → TakesTurns (cond k (c ∷ cond l (a ∷ kept_events rest) (kept_events rest))
          (cond l (a ∷ kept_events rest) (kept_events rest)))
      pick true true same more = (turns.0, more)
      pick false false same more = more
      pick _ _ same more = cc

-- a call and the return that follows it in its thread make an operation
made_in : (thread : ℕ) (events before : List Event) (c a : Event) (rest : List Event)
    → projection thread events ≡ before ++ c ∷ a ∷ rest
    → IsTrue (answers c.what a.what) → Contains (operations_so_far events) (operation_so_far c (Some a))
made_in thread [] [] c a rest same is = cc
made_in thread [] (b ∷ before) c a rest same is = cc
made_in thread (e ∷ later) before c a rest same is =
    pick (nat_eq e.thread thread) refl before same (λ before' same'. made_in thread later before' c a rest same' is)
  where
    o : Operation
    o = operation_so_far c (Some a)

    deeper : (b : Bool) → Contains (operations_so_far later) o
        → Contains (cond b (operation_so_far e (next_of e.thread later) ∷ operations_so_far later)
        (operations_so_far later)) o
    deeper true among = one_deeper (operation_so_far e (next_of e.thread later)) (operations_so_far later) o among
    deeper false among = among

    pick : (b : Bool) → nat_eq e.thread thread ≡ b → (before : List Event)
        → cond b (e ∷ projection thread later) (projection thread later) ≡ before ++ c ∷ a ∷ rest
        → ((before : List Event) → projection thread later ≡ before ++ c ∷ a ∷ rest
        → Contains (operations_so_far later) o)
        → Contains (operations_so_far (e ∷ later)) o
    pick false test before same more = deeper (is_call e.what) (more before same)
    pick true test (x ∷ before) same more =
        let others : projection thread later ≡ before ++ c ∷ a ∷ rest = cc in deeper (is_call e.what) (more before others)
    pick true test [] same more =
        let here : e ≡ c = cc in
        let others : projection thread later ≡ a ∷ rest = cc in
        let found : next_of e.thread later ≡ Some a = ap (λ t. next_of t later) (eqb-true e.thread thread test) ∙ next_is_first thread later
        ∙ ap (λ es. slice_get es 0) others in
        let calls : is_call e.what ≡ true = ap (λ (x : Event). is_call x.what) here ∙ answered_is_call c.what a.what is in
        rw calls (zero, omega arith, ap (operation_so_far e) found ∙ ap (λ (x : Event). operation_so_far x (Some a)) here)

-- a fact about all values of a list holds of those of its kept elements
All-kept : {X Y : Type 0} (P : Y → Type 0) (f : X → Option Y) (keeps : X → Bool) (xs : List X)
    → All P (filter_map f xs)
    → All P (filter_map f (filter keeps xs))
All-kept P f passes xs all k d below =
    let y = get_or (filter_map f (filter passes xs)) k d in
    let from = kept f (filter passes xs) y (Contains-get_or (filter_map f (filter passes xs)) k d below) in
    All-contains P (filter_map f xs) y all (keeps f xs from.0 y (passed_filter passes xs from.0 from.1).0 from.2)

pairs_after_first : {Y : Type 0} (R : Y → Y → Type 0) (y : Y) (ys : List Y) → AllPairs R (y ∷ ys) → All (R y) ys
pairs_after_first R y ys pairs k d below = pairs zero (suc k) d (omega arith) (omega arith)

AllPairs-kept : {X Y : Type 0} (R : Y → Y → Type 0) (f : X → Option Y) (keeps : X → Bool) (xs : List X)
    → AllPairs R (filter_map f xs)
    → AllPairs R (filter_map f (filter keeps xs))
AllPairs-kept R f keeps [] pairs = pairs
AllPairs-kept {X} {Y} R f keeps (x ∷ xs) pairs = pick (f x) refl (keeps x) pairs (AllPairs-kept R f keeps xs)
  where
    pick : (o : Option Y) → f x ≡ o → (k : Bool) → AllPairs R (cons_option o (filter_map f xs))
        → (AllPairs R (filter_map f xs) → AllPairs R (filter_map f (filter keeps xs)))
        → AllPairs R (filter_map f (cond k (x ∷ filter keeps xs) (filter keeps xs)))
    pick None is false pairs' rest = rest pairs'
    pick None is true pairs' rest = rw is (rest pairs')
    pick (Some y) is false pairs' rest = rest (AllPairs-tail R y (filter_map f xs) pairs')
    pick (Some y) is true pairs' rest =
        rw is (AllPairs-cons R y (filter_map f (filter keeps xs)) (All-kept (R y) f keeps xs (pairs_after_first R y (filter_map f xs) pairs'))
        (rest (AllPairs-tail R y (filter_map f xs) pairs')))

-- the kept events are a complete history if each operation keeps both of its events or neither
pub kept_is_complete : (keeps : ℕ → Bool) (test : Operation → Bool) (events : List Event) → IsCompleteHistory events
    → KeepsBoth keeps test (operations_so_far events) → IsCompleteHistory (filter (λ e. keeps e.ticket) events)
kept_is_complete keeps test events complete both = record {
  tickets_rise = AllPairs-filter (λ x y. x.ticket < y.ticket) (λ e. keeps e.ticket) events complete.tickets_rise;
  tickets_in_range = All-filter (λ e. keeps e.ticket) (λ e. e.ticket ≤ MAX_TICKET) events complete.tickets_in_range;
  threads_in_range = All-filter (λ e. keeps e.ticket) (λ e. e.thread ≤ MAX_THREAD) events complete.threads_in_range;
  threads_take_turns = λ thread. subst TakesTurns (filters_swap (λ e. keeps e.ticket) (λ e. nat_eq e.thread thread) events)
      (kept_turns keeps test (projection thread events) (complete.threads_take_turns thread) (λ before c a rest same is.
      let own = both (operation_so_far c (Some a)) (made_in thread events before c a rest same is) in own.0 ∙ sym own.1));
  values_are_distinct = AllPairs-kept (λ v w. v ≢ w) (λ e. called_value e.what) (λ e. keeps e.ticket) events complete.values_are_distinct;
}

-- the ticket of a call or a return is held
held : (operations : List Operation) (o : Operation) (ticket : ℕ) → Contains operations o
    → (o.call ≡ ticket) ⊎ (o.ret ≡ ticket)
    → holds_ticket operations ticket ≡ true
held operations o ticket among is =
    list_any-from_Any (λ o. nat_eq o.call ticket || nat_eq o.ret ticket) operations (among.0, o, among.1, among.2, grind (arith, nat_tests))

holder : (operations : List Operation) (ticket : ℕ) → holds_ticket operations ticket ≡ true
    → (o : Operation) × Contains operations o × ((o.call ≡ ticket) ⊎ (o.ret ≡ ticket))
holder operations ticket holds =
    let found = Any-from_list_any (λ o. nat_eq o.call ticket || nat_eq o.ret ticket) operations holds in
    let test = found.4 in
    (found.1, (found.0, found.2, found.3), grind (arith, nat_tests))

module _ (operations : List Operation) (complete : AreComplete operations) (test : Operation → Bool) where
  -- each ticket belongs to one operation
  one_holder : (x o : Operation) (ticket : ℕ) → Contains operations x → Contains operations o
      → (x.call ≡ ticket) ⊎ (x.ret ≡ ticket)
      → (o.call ≡ ticket) ⊎ (o.ret ≡ ticket) → x ≡ o
  one_holder x o ticket in_x in_o (inl is_x) (inl is_o) = same_call operations x o complete in_x in_o (is_x ∙ sym is_o)
  one_holder x o ticket in_x in_o (inl is_x) (inr is_o) = sym (returns_at_call operations o x complete in_o in_x (is_o ∙ sym is_x))
  one_holder x o ticket in_x in_o (inr is_x) (inl is_o) = returns_at_call operations x o complete in_x in_o (is_x ∙ sym is_o)
  one_holder x o ticket in_x in_o (inr is_x) (inr is_o) = same_return operations x o complete in_x in_o (is_x ∙ sym is_o)

  held_as_tested : (o : Operation) (ticket : ℕ) → Contains operations o → (o.call ≡ ticket) ⊎ (o.ret ≡ ticket)
      → holds_ticket (filter test operations) ticket ≡ test o
  held_as_tested o ticket among is = same_from_decides (holds_ticket (filter test operations) ticket) (test o) (
    λ holds.
        let found = holder (filter test operations) ticket holds in
        let passed = passed_filter test operations found.0 found.1 in
        subst (λ x. test x ≡ true) (one_holder found.0 o ticket passed.0 among found.2 is) passed.1,
    λ passes. held (filter test operations) o ticket (passes_filter test operations o passes among) is,
  ) (λ passes. passes, λ passes. passes)

  -- exactly the tickets of operations that pass are kept
  pub tickets_keep_both : KeepsBoth (holds_ticket (filter test operations)) test operations
  tickets_keep_both o among = (held_as_tested o o.call among (inl refl), held_as_tested o o.ret among (inr refl))

-- the events at the tickets of some operations
abbrev pub events_at_tickets_of : List Operation → List Event → List Event
events_at_tickets_of selected events = filter (λ e. holds_ticket selected e.ticket) events

module _ (test : Operation → Bool) (events : List Event) (complete : IsCompleteHistory events) where
  keep_both : KeepsBoth (holds_ticket (filter test (operations_of events))) test (operations_so_far events)
  keep_both = subst (KeepsBoth (holds_ticket (filter test (operations_of events))) test) (sym (all_formed events complete))
      (tickets_keep_both (operations_of events) (operations_are_complete events complete) test)

  -- the events of selected operations are a complete history
  pub selected_events_are_complete : IsCompleteHistory
      (events_at_tickets_of (filter test (operations_of events)) events)
  selected_events_are_complete = kept_is_complete (holds_ticket (filter test (operations_of events))) test events complete keep_both

  -- the operations of these events are the selected ones
  pub operations_of_selected : operations_of (events_at_tickets_of (filter test (operations_of events)) events)
      ≡ filter test (operations_of events)
  operations_of_selected =
      sym (all_formed (events_at_tickets_of (filter test (operations_of events)) events) selected_events_are_complete)
      ∙ kept_operations (holds_ticket (filter test (operations_of events))) test events keep_both ∙ ap (filter test) (all_formed events complete)

-- values stay distinct when some of those before, and some of those after, are left out
distinct_kept : (p : ℕ → Bool) (initial calls fewer : List ℕ) → AreDistinct (initial ++ calls) → AreDistinct fewer
    → ((v : ℕ) → Contains fewer v → Contains calls v) → AreDistinct (filter p initial ++ fewer)
distinct_kept p [] calls fewer distinct others among = others
distinct_kept p (v ∷ rest) calls fewer distinct others among =
    pick (p v) (distinct_kept p rest calls fewer (λ i j d below within. distinct (suc i) (suc j) d (omega arith) (omega arith)) others among)
  where
    in_whole : (w : ℕ) → Contains (filter p rest ++ fewer) w → Contains (rest ++ calls) w
    in_whole w at = elim (Contains-append_cases (filter p rest) fewer w at) [
      | inl early ↦ Contains-append_left rest calls w (passed_filter p rest w early).0
      | inr late ↦ Contains-append_right rest calls w (among w late)
    ]

    differs : (w : ℕ) → Contains (rest ++ calls) w → v ≢ w
    differs w at same = distinct zero (suc at.0) w (omega arith) (omega (arith, at.1)) (same ∙ sym at.2)

    pick : (b : Bool) → AreDistinct (filter p rest ++ fewer)
        → AreDistinct (cond b (v ∷ filter p rest) (filter p rest) ++ fewer)
    pick false later = later
    pick true later = AllPairs-cons (λ x y. x ≢ y) v (filter p rest ++ fewer)
        (λ k d below. differs (get_or (filter p rest ++ fewer) k d)
        (in_whole (get_or (filter p rest ++ fewer) k d) (Contains-get_or (filter p rest ++ fewer) k d below))) later

module _ (initial : List ℕ) (events : List Event) (whole : IsCompleteFrom initial events)
    (values : ℕ → Bool) (test : Operation → Bool) where
  -- the events of the operations that pass a test
  abbrev pub events_kept : List Event
  events_kept = events_at_tickets_of (filter test (operations_of events)) events

  -- the operations of the kept events are those that pass the test
  pub operations_kept : operations_of events_kept ≡ filter test (operations_of events)
  operations_kept = operations_of_selected test events whole.complete

  -- the kept events are a complete history from the kept initial values
  pub kept_is_complete_from : IsCompleteFrom (filter values initial) events_kept
  kept_is_complete_from =
      let complete = selected_events_are_complete test events whole.complete in
      record {
        complete = complete;
        values_are_distinct = distinct_kept values initial (called_values events) (called_values events_kept) whole.values_are_distinct
            complete.values_are_distinct in_whole;
      }
    where
      in_whole : (v : ℕ) → Contains (called_values events_kept) v → Contains (called_values events) v
      in_whole v at =
          let found = kept (λ (e : Event). called_value e.what) events_kept v at in
          let passed = passed_filter _ events found.0 found.1 in
          keeps (λ (e : Event). called_value e.what) events found.0 v passed.0 found.2

  -- the timeline of the selected values and operations is complete
  pub kept_timeline_are_complete : length initial ≤ MAX_INITIAL
      → AreComplete (timeline (filter values initial) (filter test (operations_of events)))
  kept_timeline_are_complete few =
      let shorter = no_longer values initial in
      subst (λ os. AreComplete (timeline (filter values initial) os)) operations_kept
      (timeline_is_complete (filter values initial) events_kept kept_is_complete_from (omega arith))
