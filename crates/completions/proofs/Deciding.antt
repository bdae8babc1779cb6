-- Each violation of the chosen completion is one of every completion. So the chosen one decides.
use Rattle.std.proofs.Common.{◌≡◌, ℕ, zero, suc, ◌<◌, ◌≤◌, ◌⊎◌, inl, inr, List, [], ◌∷◌, length, Option, Some, None}
use Rattle.std.proofs.Common.{refl, ap, sym, subst, ◌∙◌, arith}
use Rattle.std.specs.Prelude.{AllPairs, Contains, MatchOption, find, slice_get}
use Rattle.std.proofs.lemmas.Bool.{cases_lt, cases_eq}
use Rattle.std.proofs.lemmas.Option.{slice_get_within}
use Rattle.history_merge.specs.declared.operation.Operation.{Operation}
use Rattle.history_merge.specs.declared.operation.OpKind.{OpKind}
use Rattle.history_merge.specs.declared.operation.OpKind.TheVariants.{Enqueue, Dequeue, DequeueEmpty, EnqueueFailed}
use Rattle.history_merge.specs.Complete.{AreComplete}
use Rattle.history_merge.specs.Operations.{Did, NoneDid}
use Rattle.history_merge.proofs.Distinct.{call_by_return, CallsFor, contains_at, contains_cons, not_in_none, one_at}
use Rattle.history_merge.proofs.Distinct.{one_by_key, pairs_at, place_of}
use Rattle.history_merge.proofs.Distinct.{no_enqueue, return_in_range, same_call, same_enqueue, same_value_call}
use Rattle.value_match.specs.declared.life.Life.{Life}
use Rattle.value_match.specs.declared.life.TheConstants.{NEVER}
use Rattle.value_match.specs.Inner.Courses.{on}
use Rattle.value_match.specs.Lives.{call_or_never, return_or_never, Covers, dequeue_call, dequeue_of, dequeue_return}
use Rattle.value_match.specs.Lives.{enqueue_of}
use Rattle.value_match.specs.Lives.{is_dequeue_of, IsFreeGap, IsLife}
use Rattle.value_match.specs.Violations.{CoversFrom, fresh, FullViolation, IsClear, IsEnqueuedTooLate, IsNeverEnqueued}
use Rattle.value_match.specs.Violations.{IsOrderViolation, IsRepeatViolation}
use Rattle.value_match.specs.Violations.{IsViolationOf, IsWitnessViolation, order, repeat, witness}
use Rattle.value_match.proofs.Lives.{dequeued_if_called, found_dequeue}
use Rattle.order_violation.proofs.Chosen.{did_dequeue}
use Rattle.empty_witness.proofs.Covers.{chosen_cover}
use Rattle.empty_witness.proofs.FreeGaps.{free_gap_or_covered}
use Rattle.completions.proofs.Counting.{at_most}

-- no violation of these operations
abbrev pub NoViolation : List Operation → Type 0
NoViolation operations = (violation : FullViolation) → ¬ (IsViolationOf (on operations) violation)

-- an operation of this kind calls to enqueue the value, or doesn't
calls_or_not : (v : ℕ) (k : OpKind)
    → ((k ≡ Enqueue v) ⊎ (k ≡ EnqueueFailed v)) ⊎ ¬ ((k ≡ Enqueue v) ⊎ (k ≡ EnqueueFailed v))
calls_or_not v (Enqueue w) = elim (cases_eq w v) [
  | inl same ↦ inl (inl (ap (λ u. Enqueue u) same))
  | inr other ↦ inr (λ is. elim is [ inl e ↦ other (cc e) | inr e ↦ cc e ])
]
calls_or_not v (EnqueueFailed w) = elim (cases_eq w v) [
  | inl same ↦ inl (inr (ap (λ u. EnqueueFailed u) same))
  | inr other ↦ inr (λ is. elim is [ inl e ↦ cc e | inr e ↦ other (cc e) ])
]
calls_or_not v (Dequeue w) = inr (λ is. elim is [ inl e ↦ cc e | inr e ↦ cc e ])
calls_or_not v DequeueEmpty = inr (λ is. elim is [ inl e ↦ cc e | inr e ↦ cc e ])

pub call_for : (operations : List Operation) (v : ℕ)
    → ((o : Operation) × Contains operations o × CallsFor o v)
    ⊎ ((o : Operation) → Contains operations o → ¬ (CallsFor o v))
call_for [] v = inr (λ o among. absurd (not_in_none o among))
call_for (x ∷ rest) v = elim (calls_or_not v x.kind) [
  | inl is ↦ inl (x, (zero, omega arith, refl), is)
  | inr differs ↦ elim (call_for rest v) [
    | inl found ↦ inl (found.0, (suc found.1.0, omega (arith, found.1.1), found.1.2), found.2)
    | inr none ↦ inr (λ o among. elim (contains_cons x rest o among) [
      | inl here ↦ subst (λ (y : Operation). ¬ (CallsFor y v)) here differs
      | inr there ↦ none o there
    ])
  ]
]

-- ---- lists

found_at : {X : Type 0} (xs : List X) (k : ℕ) → k < length xs → (y : X) × (slice_get xs k ≡ Some y)
found_at [] k below = absurd (omega arith)
found_at (y ∷ xs) zero below = (y, refl)
found_at (y ∷ xs) (suc k) below = found_at xs k (omega arith)

within_none : (cs : List ℕ) (i q c : ℕ) → slice_get cs i ≡ None → slice_get cs q ≡ Some c → q < i
within_none [] i q c none at = let clash : None ≡ Some c = at in cc
within_none (d ∷ cs) zero q c none at = let clash : Some d ≡ None = none in cc
within_none (d ∷ cs) (suc i) zero c none at = omega arith
within_none (d ∷ cs) (suc i) (suc q) c none at = let less = within_none cs i q c none at in omega arith

by_place : {X : Type 0} (key : X → ℕ) (xs : List X) (i k : ℕ) (x y : X) → AllPairs (λ a b. key a < key b) xs
    → slice_get xs i ≡ Some x
    → slice_get xs k ≡ Some y → k ≤ i → key y ≤ key x
by_place key xs i k x y rise at_x at_y near = elim (cases_eq k i) [
  | inl same ↦ let one = ap key (one_at xs i y x (subst (λ n. slice_get xs n ≡ Some y) same at_y) at_x) in omega (arith, one)
  | inr other ↦ let less = pairs_at (λ a b. key a < key b) xs k i y x rise (omega arith) at_y at_x in omega (arith, less)
]

same_value : (u w : ℕ) (c d : Operation) → c ≡ d → c.kind ≡ Dequeue u → d.kind ≡ Dequeue w → u ≡ w
same_value u w c d one is_c is_d = let e : Dequeue u ≡ Dequeue w = sym is_c ∙ ap (λ (o : Operation). o.kind) one ∙ is_d in cc

-- at each gap from the frontier on, some value of a cover is in the queue
covered_at : (operations : List Operation) (empty : Operation) (cover : List Life) (frontier gap : ℕ)
    → CoversFrom (on operations) empty frontier cover
    → frontier ≤ gap → gap < empty.ret → (life : Life) × IsLife (on operations) life × Covers life gap
covered_at operations empty [] frontier gap covers from before = absurd covers
covered_at operations empty (life ∷ []) frontier gap covers from before =
    (life, covers.0, (omega (arith, covers.1, from), omega (arith, covers.2, before)))
covered_at operations empty (life ∷ next ∷ rest) frontier gap covers from before = elim (cases_lt gap (dequeue_call life)) [
  | inl there ↦ (life, covers.0, (omega (arith, covers.1, from), there))
  | inr gone ↦ covered_at operations empty (next ∷ rest) (dequeue_call life) gap covers.3 gone before
]

-- ---- the completion of a history with pending calls: `done` are its completed operations, after enqueues of the
-- initial values; a pending enqueue has its call and its value, a pending dequeue its call

module _ (done : List Operation) (Enqueuing : ℕ → ℕ → Type 0) (dequeuing : List ℕ) where
  -- a pending call that has a return, with any answer
  abbrev pub Ends : Operation → Type 0
  Ends o = ((v : ℕ) × Enqueuing o.call v × ((o.kind ≡ Enqueue v) ⊎ (o.kind ≡ EnqueueFailed v)))
      ⊎ (Contains dequeuing o.call × (((v : ℕ) × (o.kind ≡ Dequeue v)) ⊎ (o.kind ≡ DequeueEmpty)))

  -- the completed operations, and some pending calls that have returns
  pub record Completes (full : List Operation) : Type 0 where
    pub complete : AreComplete full
    pub keeps : (o : Operation) → Contains done o → Contains full o
    pub from : (o : Operation) → Contains full o → Contains done o ⊎ Ends o

  -- a pending enqueue whose value a completed dequeue gave
  abbrev pub EnqueuesGiven : Operation → Type 0
  EnqueuesGiven o = (v : ℕ) × Enqueuing o.call v × (o.kind ≡ Enqueue v) × ((d : Operation) × Did done d (Dequeue v))

  -- the i-th pending dequeue, which gives the i-th value that is left
  abbrev pub GivesLeft : List Operation → Operation → ℕ → Type 0
  GivesLeft left o v = (i : ℕ) × (x : Operation) × (slice_get dequeuing i ≡ Some o.call) × (slice_get left i ≡ Some x) × (x.kind ≡ Enqueue v) × (o.kind ≡ Dequeue v)

  -- the chosen completion: the enqueues of the values that are left, by their returns, and the calls that end after
  -- the last ticket
  pub record Chosen (left : List Operation) (last : ℕ) (ours : List Operation) : Type 0 where
    pub complete : AreComplete ours
    pub keeps : (o : Operation) → Contains done o → Contains ours o
    pub from : (o : Operation) → Contains ours o
        → Contains done o ⊎ ((last < o.ret) × (EnqueuesGiven o ⊎ ((v : ℕ) × GivesLeft left o v)))
    pub has_enqueue : (call v : ℕ) (d : Operation) → Enqueuing call v → Did done d (Dequeue v)
        → (o : Operation) × Did ours o (Enqueue v) × (o.call ≡ call)
    pub has_dequeue : (i call v : ℕ) (x : Operation) → slice_get dequeuing i ≡ Some call → slice_get left i ≡ Some x
        → x.kind ≡ Enqueue v
        → (o : Operation) × Did ours o (Dequeue v) × (o.call ≡ call)
    pub returned : (o : Operation) → Contains done o → o.ret ≤ last
    pub enqueue_called : (call v : ℕ) → Enqueuing call v → call ≤ last
    pub dequeue_called : (call : ℕ) → Contains dequeuing call → call ≤ last
    pub left_is : (x : Operation) → Contains left x → (v : ℕ) × Did done x (Enqueue v) × NoneDid done (Dequeue v)
    pub left_has : (x : Operation) (v : ℕ) → Did done x (Enqueue v) → NoneDid done (Dequeue v) → Contains left x
    pub left_rises : AllPairs (λ x y. x.ret < y.ret) left
    pub calls_rise : AllPairs (λ c d. c < d) dequeuing

  module _ (full : List Operation) (is : Completes full) (none : NoViolation full) (left : List Operation) (last : ℕ) (ours : List Operation)
      (chosen : Chosen left last ours) where
    clear : IsClear (on full)
    clear = record {
      complete = is.complete;
      no_fresh = λ deq enq. none (fresh deq enq);
      no_repeat = λ enq first second. none (repeat enq first second);
    }

    -- no call comes after the last ticket
    called_by_last : (o : Operation) → Contains ours o → o.call ≤ last
    called_by_last o among = elim (chosen.from o among) [
      | inl old ↦ let by = call_by_return ours o chosen.complete among in omega (arith, by, chosen.returned o old)
      | inr (late, inl given) ↦ chosen.enqueue_called o.call given.0 given.1
      | inr (late, inr gives) ↦ chosen.dequeue_called o.call (contains_at dequeuing gives.1.0 o.call gives.1.2)
    ]

    -- an operation that returned before a call is completed
    is_done : (o : Operation) → Contains ours o → o.ret ≤ last → Contains done o
    is_done o among early = elim (chosen.from o among) [ inl old ↦ old | inr (late, _) ↦ absurd (omega (arith, late, early)) ]

    -- a value that is left has one place
    left_once : (i j v : ℕ) (x y : Operation) → slice_get left i ≡ Some x → slice_get left j ≡ Some y
        → x.kind ≡ Enqueue v → y.kind ≡ Enqueue v → i ≡ j
    left_once i j v x y at_x at_y is_x is_y =
        let in_x = (chosen.left_is x (contains_at left i x at_x)).1.0 in
        let in_y = (chosen.left_is y (contains_at left j y at_y)).1.0 in
        let one = same_enqueue full x y v is.complete (is.keeps x in_x, is_x) (is.keeps y in_y, is_y) in
        (one_by_key (λ (o : Operation). o.ret) left i j x y chosen.left_rises at_x at_y (ap (λ (o : Operation). o.ret) one)).0

    -- a value that is left is given by one dequeue
    one_gives : (o p : Operation) (v : ℕ) → Contains ours o → Contains ours p → GivesLeft left o v → GivesLeft left p v
        → o ≡ p
    one_gives o p v in_o in_p gives_o gives_p =
        let same = left_once gives_o.0 gives_p.0 v gives_o.1 gives_p.1 gives_o.3 gives_p.3 gives_o.4 gives_p.4 in
        let calls = one_at dequeuing gives_p.0 o.call p.call (subst (λ i. slice_get dequeuing i ≡ Some o.call) same gives_o.2) gives_p.2 in
        same_call ours o p chosen.complete in_o in_p calls

    -- a dequeue of a value that was left when the calls were pending
    gives_it : (d : Operation) (v : ℕ) → Did ours d (Dequeue v)
        → (Did done d (Dequeue v)) ⊎ ((last < d.ret) × GivesLeft left d v)
    gives_it d v did = elim (chosen.from d did.0) [
      | inl old ↦ inl (old, did.1)
      | inr (late, inl given) ↦ let e = given.2 in let f = did.1 in let clash : Enqueue given.0 ≡ Dequeue v = sym e ∙ f in cc
      | inr (late, inr (w, g)) ↦
          let same : w ≡ v = let e : Dequeue w ≡ Dequeue v = sym g.5 ∙ did.1 in cc in
          inr (late, (g.0, g.1, g.2, g.3, subst (λ (u : ℕ). g.1.kind ≡ Enqueue u) same g.4, did.1))
    ]

    -- a dequeue of a value that is left ends a pending call, in each completion
    ends_pending : (d : Operation) (v : ℕ) → Did full d (Dequeue v) → NoneDid done (Dequeue v)
        → (q : ℕ) × (slice_get dequeuing q ≡ Some d.call)
    ends_pending d v did not_done = elim (is.from d did.0) [
      | inl old ↦ absurd (not_done d old did.1)
      | inr (inl (w, enqueuing, inl e)) ↦ let f = did.1 in let clash : Enqueue w ≡ Dequeue v = sym e ∙ f in cc
      | inr (inl (w, enqueuing, inr e)) ↦ let f = did.1 in let clash : EnqueueFailed w ≡ Dequeue v = sym e ∙ f in cc
      | inr (inr (among, answer)) ↦ place_of dequeuing d.call among
    ]

    -- the life of a value in this completion
    abbrev life_of : (x : Operation) (v : ℕ) → Life
    life_of x v = record { enqueue = x; dequeue = find (is_dequeue_of v) full }

    abbrev is_life : (x : Operation) (v : ℕ) → Did full x (Enqueue v) → IsLife (on full) (life_of x v)
    is_life x v did = (v, did, found_dequeue full v (find (is_dequeue_of v) full) refl)

    -- each value that is left and was returned no later than x is given by a dequeue called by this time
    abbrev GoneBy : ℕ → Operation → Type 0
    GoneBy time x = (y : Operation) (w : ℕ) → Did done y (Enqueue w) → NoneDid done (Dequeue w) → y.ret ≤ x.ret → dequeue_call (life_of y w) ≤ time

    -- so a pending dequeue gives x, and was called by then, since there are as many pending dequeues as values
    module _ (x : Operation) (v time : ℕ) (did_x : Did done x (Enqueue v)) (not_taken : NoneDid done (Dequeue v)) (low : time < NEVER)
        (gone : GoneBy time x) where
      -- the k-th value that is left is given by the q-th pending dequeue, by that time
      abbrev IsGivenBy : ℕ → ℕ → Type 0
      IsGivenBy k q = (y : Operation) × (w : ℕ) × (d : Operation) × (slice_get left k ≡ Some y) × Did done y (Enqueue w) × Did full d (Dequeue w)
          × (slice_get dequeuing q ≡ Some d.call) × (d.call ≤ time)

      each : (i : ℕ) → slice_get left i ≡ Some x → (k : ℕ) → k < suc i → (q : ℕ) × IsGivenBy k q
      each i at k below =
          let y = found_at left k (omega (arith, slice_get_within left i x at)) in
          let known = chosen.left_is y.0 (contains_at left k y.0 y.1) in
          let early = by_place (λ (o : Operation). o.ret) left i k x y.0 chosen.left_rises at y.1 (omega arith) in
          let left_by = gone y.0 known.0 known.1 known.2 early in
          let life = is_life y.0 known.0 (is.keeps y.0 known.1.0, known.1.1) in
          let dequeue = dequeued_if_called (life_of y.0 known.0) (omega (arith, left_by, low)) in
          let did = did_dequeue full (life_of y.0 known.0) dequeue.0 life dequeue.1 in
          let call : dequeue_call (life_of y.0 known.0) ≡ dequeue.0.call = ap call_or_never dequeue.1 in
          let from = ends_pending dequeue.0 known.0 did known.2 in
          (from.0, (y.0, known.0, dequeue.0, y.1, known.1, did, from.1, omega (arith, left_by, call)))

      once : (j k q : ℕ) → IsGivenBy j q → IsGivenBy k q → j ≡ k
      once j k q a b =
          let calls = one_at dequeuing q a.2.call b.2.call a.6 b.6 in
          let one = same_call full a.2 b.2 is.complete a.5.0 b.5.0 calls in
          let values = same_value a.1 b.1 a.2 b.2 one a.5.1 b.5.1 in
          left_once j k b.1 a.0 b.0 a.3 b.3 (subst (λ (u : ℕ). a.0.kind ≡ Enqueue u) values a.4.1) b.4.1

      before_late : (i q call c : ℕ) → time < call → slice_get dequeuing i ≡ Some call → slice_get dequeuing q ≡ Some c
          → c ≤ time → q < i
      before_late i q call c late here at by = elim (cases_lt q i) [
        | inl below ↦ below
        | inr near ↦ let less = by_place (λ (n : ℕ). n) dequeuing q i c call chosen.calls_rise at here near in absurd (omega (arith, less))
      ]

      given : (i : ℕ) → slice_get left i ≡ Some x → (found : Option ℕ) → slice_get dequeuing i ≡ found
          → (o : Operation) × Did ours o (Dequeue v) × GivesLeft left o v × (o.call ≤ time)
      given i at None past =
          let few : suc i ≤ i = at_most (suc i) i IsGivenBy (each i at) (λ k q below g. within_none dequeuing i q g.2.call past g.6) once in
          absurd (omega arith)
      given i at (Some call) here = elim (cases_lt time call) [
        | inl late ↦
            let few : suc i ≤ i = at_most (suc i) i IsGivenBy (each i at) (λ k q below g. before_late i q call g.2.call late here g.6 g.7) once in
            absurd (omega arith)
        | inr by ↦
            let o = chosen.has_dequeue i call v x here at did_x.1 in
            let at_call : slice_get dequeuing i ≡ Some o.0.call = here ∙ ap (λ (c : ℕ). Some c) (sym o.2) in
            (o.0, o.1, (i, x, at_call, at, did_x.1, o.1.1), omega (arith, o.2, by))
      ]

      taken_by : (o : Operation) × Did ours o (Dequeue v) × GivesLeft left o v × (o.call ≤ time)
      taken_by =
          let place = place_of left x (chosen.left_has x v did_x not_taken) in
          given place.0 place.1 (slice_get dequeuing place.0) refl

    -- ---- a value of the chosen completion, and its enqueue in another

    -- a value that the other completion enqueues, and a completed dequeue gave, is enqueued by the same call in the
    -- chosen one
    ours_enqueues : (e d : Operation) (v : ℕ) → Did done d (Dequeue v) → Did full e (Enqueue v)
        → (o : Operation) × Did ours o (Enqueue v) × (o.call ≡ e.call)
    ours_enqueues e d v did_d did_e = elim (is.from e did_e.0) [
      | inl old ↦ (e, (chosen.keeps e old, did_e.1), refl)
      | inr (inl (w, enqueuing, inl k)) ↦
          let values : w ≡ v = let f : Enqueue w ≡ Enqueue v = sym k ∙ did_e.1 in cc in
          chosen.has_enqueue e.call v d (subst (Enqueuing e.call) values enqueuing) did_d
      | inr (inl (w, enqueuing, inr k)) ↦ let f : EnqueueFailed w ≡ Enqueue v = sym k ∙ did_e.1 in cc
      | inr (inr (among, inl (w, k))) ↦ let f : Dequeue w ≡ Enqueue v = sym k ∙ did_e.1 in cc
      | inr (inr (among, inr k)) ↦ let f : DequeueEmpty ≡ Enqueue v = sym k ∙ did_e.1 in cc
    ]

    called_at_once : (enq e d : Operation) (v : ℕ) → Did done d (Dequeue v) → Did ours enq (Enqueue v)
        → Did full e (Enqueue v) → e.call ≡ enq.call
    called_at_once enq e d v did_d did_enq did_e =
        let o = ours_enqueues e d v did_d did_e in
        let one = same_enqueue ours o.0 enq v chosen.complete o.1 did_enq in
        sym o.2 ∙ ap (λ (o : Operation). o.call) one

    -- a completed dequeue gives a value that the other completion enqueues
    enqueued_for : (v : ℕ) (d : Operation) → Did done d (Dequeue v) → (e : Operation) × Did full e (Enqueue v)
    enqueued_for v d did_d = elim (call_for full v) [
      | inl (e, among, inl k) ↦ (e, (among, k))
      | inl (e, among, inr k) ↦ absurd (none (fresh d (Some e)) (record { value = v; dequeues = (is.keeps d did_d.0, did_d.1); enqueues = inl (among, k) }))
      | inr never ↦ absurd (none (fresh d None) (record {
        value = v;
        dequeues = (is.keeps d did_d.0, did_d.1);
        not_accepted = λ enq did. never enq did.0 (inl did.1);
        not_failed = λ o among k. never o among (inr k);
      }))
    ]

    -- a value that is left was enqueued, and no completed dequeue gave it
    untaken : (i v : ℕ) (x : Operation) → slice_get left i ≡ Some x → x.kind ≡ Enqueue v
        → Did done x (Enqueue v) × NoneDid done (Dequeue v)
    untaken i v x at is_x =
        let known = chosen.left_is x (contains_at left i x at) in
        let values : known.0 ≡ v = let e : Enqueue known.0 ≡ Enqueue v = sym known.1.1 ∙ is_x in cc in
        ((known.1.0, is_x), subst (λ (u : ℕ). NoneDid done (Dequeue u)) values known.2)

    -- a value that is left isn't that of a failed enqueue
    not_refused : (x o : Operation) (v : ℕ) → Did ours x (Enqueue v) → Did ours o (EnqueueFailed v) → ⊥
    not_refused x o v did_x did_o =
        let one = same_value_call ours x o v chosen.complete did_x.0 did_o.0 (inl did_x.1) (inr did_o.1) in
        let clash : Enqueue v ≡ EnqueueFailed v = sym did_x.1 ∙ ap (λ (o : Operation). o.kind) one ∙ did_o.1 in cc

    -- ---- the chosen completion has no violation

    never_enqueued : (deq : Operation) → IsNeverEnqueued (on ours) deq → ⊥
    never_enqueued deq bad = elim (gives_it deq bad.value bad.dequeues) [
      | inl old ↦
          let e = enqueued_for bad.value deq old in
          let o = ours_enqueues e.0 deq bad.value old e.1 in
          bad.not_accepted o.0 o.1
      | inr (late, g) ↦
          let known = untaken g.0 bad.value g.1 g.3 g.4 in
          bad.not_accepted g.1 (chosen.keeps g.1 known.0.0, g.4)
    ]

    enqueued_too_late : (deq enq : Operation) → IsEnqueuedTooLate (on ours) deq enq → ⊥
    enqueued_too_late deq enq bad = elim (gives_it deq bad.value bad.dequeues) [
      | inl old ↦
          let e = enqueued_for bad.value deq old in
          let o = ours_enqueues e.0 deq bad.value old e.1 in
          elim bad.enqueues [
            | inl refused ↦ not_refused o.0 enq bad.value o.1 refused
            | inr (enters, precedes) ↦
                let call = called_at_once enq e.0 deq bad.value old enters e.1 in
                none (fresh deq (Some e.0)) (record { value = bad.value; dequeues = (is.keeps deq old.0, old.1); enqueues = inr (e.1, omega (arith, precedes, call)) })
          ]
      | inr (late, g) ↦
          let known = untaken g.0 bad.value g.1 g.3 g.4 in
          elim bad.enqueues [
            | inl refused ↦ not_refused g.1 enq bad.value (chosen.keeps g.1 known.0.0, g.4) refused
            | inr (enters, precedes) ↦ absurd (omega (arith, precedes, late, called_by_last enq enters.0))
          ]
    ]

    repeated : (enq first second : Operation) → IsRepeatViolation (on ours) enq first second → ⊥
    repeated enq first second bad = elim (gives_it first bad.value bad.dequeues) [
      | inl old ↦ elim (gives_it second bad.value bad.dequeues_again) [
        | inl again ↦
            let e = enqueued_for bad.value first old in
            none (repeat e.0 first second) (record {
              value = bad.value;
              enqueues = e.1;
              dequeues = (is.keeps first old.0, old.1);
              dequeues_again = (is.keeps second again.0, again.1);
              in_order = bad.in_order;
            })
        | inr (late, g) ↦ (untaken g.0 bad.value g.1 g.3 g.4).1 first old.0 old.1
      ]
      | inr (late, g) ↦ elim (gives_it second bad.value bad.dequeues_again) [
        | inl again ↦ (untaken g.0 bad.value g.1 g.3 g.4).1 second again.0 again.1
        | inr (later, h) ↦
            let one = one_gives first second bad.value bad.dequeues.0 bad.dequeues_again.0 g h in
            let rets = ap (λ (o : Operation). o.ret) one in
            let less = bad.in_order in
            absurd (omega (arith, rets, less))
      ]
    ]

    module _ (a b : Life) (bad : IsOrderViolation (on ours) a b) (d : Operation) (is_d : dequeue_of b ≡ Some d) where
      did_d : Did ours d (Dequeue bad.is_b.0)
      did_d = did_dequeue ours b d bad.is_b is_d

      before : (enqueue_of a).ret < (enqueue_of b).call
      before = bad.overtakes.0

      old_a : Contains done (enqueue_of a)
      old_a = is_done (enqueue_of a) bad.is_a.1.0 (omega (arith, before, called_by_last (enqueue_of b) bad.is_b.1.0))

      dequeued_later : (o : Operation) → dequeue_of a ≡ Some o → d.ret < o.call
      dequeued_later o is_o =
          let less = bad.overtakes.1 in
          let ret : dequeue_return b ≡ d.ret = ap return_or_never is_d in
          let call : dequeue_call a ≡ o.call = ap call_or_never is_o in
          omega (arith, less, ret, call)

      -- a completed dequeue gave b
      module _ (old : Did done d (Dequeue bad.is_b.0)) where
        enqueue : (e : Operation) × Did full e (Enqueue bad.is_b.0)
        enqueue = enqueued_for bad.is_b.0 d old

        abbrev there : Life
        there = record { enqueue = enqueue.0; dequeue = Some d }

        is_there : IsLife (on full) there
        is_there = (bad.is_b.0, enqueue.1, (is.keeps d old.0, old.1))

        low : d.ret < NEVER
        low = let most = return_in_range full d is.complete (is.keeps d old.0) in omega arith

        called : d.call < NEVER
        called = let by = call_by_return full d is.complete (is.keeps d old.0) in omega (arith, by, low)

        called_as_ours : enqueue.0.call ≡ (enqueue_of b).call
        called_as_ours = called_at_once (enqueue_of b) enqueue.0 d bad.is_b.0 old bad.is_b.1 enqueue.1

        -- each value that was enqueued before b is gone when b is
        gone_by_then : GoneBy d.ret (enqueue_of a)
        gone_by_then y w did_y not_taken early = elim (cases_lt d.ret (dequeue_call (life_of y w))) [
          | inl later ↦ absurd (none (order (life_of y w) there) (record {
            is_a = is_life y w (is.keeps y did_y.0, did_y.1);
            is_b = is_there;
            is_dequeued = called;
            overtakes = (omega (arith, early, before, called_as_ours), later);
          }))
          | inr by ↦ by
        ]

        pending_gave : NoneDid done (Dequeue bad.is_a.0)
            → (o : Operation) × Did ours o (Dequeue bad.is_a.0) × GivesLeft left o bad.is_a.0 × (o.call ≤ d.ret)
        pending_gave not_taken = taken_by (enqueue_of a) bad.is_a.0 d.ret (old_a, bad.is_a.1.1) not_taken low gone_by_then

        overtaken_by_old : (found : Option Operation) → dequeue_of a ≡ found
            → MatchOption found (NoneDid ours (Dequeue bad.is_a.0)) (λ o. Did ours o (Dequeue bad.is_a.0)) → ⊥
        overtaken_by_old None is_found none_a =
            let o = pending_gave (λ o among k. none_a o (chosen.keeps o among) k) in
            none_a o.0 o.1.0 o.1.1
        overtaken_by_old (Some o) is_found did_o = elim (gives_it o bad.is_a.0 did_o) [
          | inl old_o ↦ none (order (record { enqueue = enqueue_of a; dequeue = Some o }) there) (record {
            is_a = (bad.is_a.0, (is.keeps (enqueue_of a) old_a, bad.is_a.1.1), (is.keeps o old_o.0, old_o.1));
            is_b = is_there;
            is_dequeued = called;
            overtakes = (omega (arith, before, called_as_ours), dequeued_later o is_found);
          })
          | inr (late, g) ↦
              let known = untaken g.0 bad.is_a.0 g.1 g.3 g.4 in
              let p = pending_gave known.1 in
              let one = ap (λ (o : Operation). o.call) (one_gives o p.0 bad.is_a.0 did_o.0 p.1.0 g p.2) in
              absurd (omega (arith, dequeued_later o is_found, one, p.3))
        ]

      -- a pending dequeue gives b
      module _ (late : last < d.ret) (g : GivesLeft left d bad.is_b.0) where
        overtaken_by_left : (found : Option Operation) → dequeue_of a ≡ found
            → MatchOption found (NoneDid ours (Dequeue bad.is_a.0)) (λ o. Did ours o (Dequeue bad.is_a.0)) → ⊥
        overtaken_by_left (Some o) is_found did_o = absurd (omega (arith, dequeued_later o is_found, late, called_by_last o did_o.0))
        overtaken_by_left None is_found none_a =
            let place = place_of left (enqueue_of a) (chosen.left_has (enqueue_of a) bad.is_a.0 (old_a, bad.is_a.1.1)
            (λ o among k. none_a o (chosen.keeps o among) k)) in
            let known = untaken g.0 bad.is_b.0 g.1 g.3 g.4 in
            let one = ap (λ (o : Operation). o.ret) (same_enqueue ours g.1 (enqueue_of b) bad.is_b.0 chosen.complete
            (chosen.keeps g.1 known.0.0, known.0.1) bad.is_b.1) in
            let by = call_by_return ours (enqueue_of b) chosen.complete bad.is_b.1.0 in
            elim (cases_lt place.0 g.0) [
              | inl below ↦
                  let call = found_at dequeuing place.0 (omega (arith, below, slice_get_within dequeuing g.0 d.call g.2)) in
                  let o = chosen.has_dequeue place.0 call.0 bad.is_a.0 (enqueue_of a) call.1 place.1 bad.is_a.1.1 in
                  none_a o.0 o.1.0 o.1.1
              | inr behind ↦
                  let less = by_place (λ (o : Operation). o.ret) left place.0 g.0 (enqueue_of a) g.1 chosen.left_rises place.1 g.3 behind in
                  absurd (omega (arith, less, one, by, before))
            ]

      overtaken : ⊥
      overtaken = elim (gives_it d bad.is_b.0 did_d) [
        | inl old ↦ overtaken_by_old old (dequeue_of a) refl bad.is_a.2
        | inr (late, g) ↦ overtaken_by_left late g (dequeue_of a) refl bad.is_a.2
      ]

    module _ (empty : Operation) (cover : List Life) (bad : IsWitnessViolation (on ours) empty cover) where
      old_empty : Contains done empty
      old_empty = elim (chosen.from empty bad.answers_empty.0) [
        | inl old ↦ old
        | inr (late, inl given) ↦ let e : Enqueue given.0 ≡ DequeueEmpty = sym given.2 ∙ bad.answers_empty.1 in cc
        | inr (late, inr (v, g)) ↦ let e : Dequeue v ≡ DequeueEmpty = sym g.5 ∙ bad.answers_empty.1 in cc
      ]

      -- no gap of the window that is free in the other completion is covered in the chosen one
      module _ (gap : ℕ) (from : empty.call ≤ gap) (to : gap < empty.ret) (free : IsFreeGap (on full) gap) (life : Life) (life_is : IsLife (on ours) life)
          (covers : Covers life gap) where
        old_life : Contains done (enqueue_of life)
        old_life = is_done (enqueue_of life) life_is.1.0 (omega (arith, covers.0, to, chosen.returned empty old_empty))

        low_gap : gap < NEVER
        low_gap = let most = return_in_range full empty is.complete (is.keeps empty old_empty) in omega arith

        gone_at_gap : GoneBy gap (enqueue_of life)
        gone_at_gap y w did_y not_taken early = elim (cases_lt gap (dequeue_call (life_of y w))) [
          | inl later ↦ absurd (free (life_of y w) (is_life y w (is.keeps y did_y.0, did_y.1)) (omega (arith, early, covers.0), later))
          | inr by ↦ by
        ]

        given_by_gap : NoneDid done (Dequeue life_is.0)
            → (o : Operation) × Did ours o (Dequeue life_is.0) × GivesLeft left o life_is.0 × (o.call ≤ gap)
        given_by_gap not_taken = taken_by (enqueue_of life) life_is.0 gap (old_life, life_is.1.1) not_taken low_gap gone_at_gap

        not_covered : (found : Option Operation) → dequeue_of life ≡ found
            → MatchOption found (NoneDid ours (Dequeue life_is.0)) (λ o. Did ours o (Dequeue life_is.0)) → ⊥
        not_covered None is_found none_left =
            let o = given_by_gap (λ o among k. none_left o (chosen.keeps o among) k) in
            none_left o.0 o.1.0 o.1.1
        not_covered (Some o) is_found did_o =
            let call : dequeue_call life ≡ o.call = ap call_or_never is_found in
            elim (gives_it o life_is.0 did_o) [
              | inl old_o ↦ free (record { enqueue = enqueue_of life; dequeue = Some o })
                  (life_is.0, (is.keeps (enqueue_of life) old_life, life_is.1.1), (is.keeps o old_o.0, old_o.1))
                  (covers.0, omega (arith, covers.1, call))
              | inr (late, g) ↦
                  let known = untaken g.0 life_is.0 g.1 g.3 g.4 in
                  let p = given_by_gap known.1 in
                  let one = ap (λ (o : Operation). o.call) (one_gives o p.0 life_is.0 did_o.0 p.1.0 g p.2) in
                  absurd (omega (arith, covers.1, call, one, p.3))
            ]

      in_no_window : ⊥
      in_no_window = elim (free_gap_or_covered full empty clear (is.keeps empty old_empty) (no_enqueue empty DequeueEmpty bad.answers_empty.1 refl)) [
        | inl least ↦
            let window = least.1.in_window in
            let found = covered_at ours empty cover empty.call least.0 bad.covers window.0 window.1 in
            not_covered least.0 window.0 window.1 least.1.is_free found.0 found.1 found.2 (dequeue_of found.0) refl found.1.2
        | inr covered ↦
            let shown = chosen_cover full empty clear (is.keeps empty old_empty, bad.answers_empty.1) covered in
            none (witness empty shown.0) shown.2
      ]

    -- so the chosen completion has no violation
    pub ours_has_none : NoViolation ours
    ours_has_none (fresh deq None) bad = never_enqueued deq bad
    ours_has_none (fresh deq (Some enq)) bad = enqueued_too_late deq enq bad
    ours_has_none (repeat enq first second) bad = repeated enq first second bad
    ours_has_none (order a b) bad = let dequeue = dequeued_if_called b bad.is_dequeued in overtaken a b bad dequeue.0 dequeue.1
    ours_has_none (witness empty cover) bad = in_no_window empty cover bad
