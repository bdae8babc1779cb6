-- Lines of a history stand for operations of its timeline, and show a violation if and only if these are one.
use Rattle.verdicts.proofs.Common.{[], AllZip, answers, ap}
use Rattle.verdicts.proofs.Common.{AreComplete, arith, call_or_never, ClaimLine, Contains, Contains-append_left}
use Rattle.verdicts.proofs.Common.{Contains-append_right, contains_at, CoversFrom, Dequeue, dequeue_call, dequeue_of}
use Rattle.verdicts.proofs.Common.{dequeued_if_called, dequeues, Did, did_dequeue, DequeueEmpty, Enqueue, enqueue_of}
use Rattle.verdicts.proofs.Common.{enqueue_return, enqueue_stands, flat_map, fresh, FullViolation, initial_enqueue}
use Rattle.verdicts.proofs.Common.{initial_enqueues, initial_time, inl, inr, IsLife, IsOrderViolation, IsViolationOf}
use Rattle.verdicts.proofs.Common.{kind_of, later_by, LeavesAfter, length, Life, LineDid, LinePrecedes, lines_of}
use Rattle.verdicts.proofs.Common.{LinesCover, List, map, mapped_to, MatchOption, MAX_INITIAL, NEVER}
use Rattle.verdicts.proofs.Common.{NoLineDid, None, NoneDid, EnqueueFailed, on, Operation, operations_of_life, OpKind}
use Rattle.verdicts.proofs.Common.{Option}
use Rattle.verdicts.proofs.Common.{option_to_list, order, ORIGIN, place_of, refl, repeat, return_or_never}
use Rattle.verdicts.proofs.Common.{ReturnsFirst, same_enqueue, Shows, slice_get, slice_get_within, Some, subst, sym}
use Rattle.verdicts.proofs.Common.{timeline, timeline_at, VFresh, ViolationKind, VOrd, VRepeat, VWit, witness, ℕ, ◌++◌}
use Rattle.verdicts.proofs.Common.{◌+◌, ◌-◌, ◌<◌, ◌↔◌, ◌∙◌, ◌∷◌, ◌≡◌, ◌≤◌, ◌⊎◌}
use Rattle.verdicts.proofs.NamedPlaces.{accepted_value, early_line, later_line, line_of}
use Rattle.verdicts.proofs.Retiming.{times_in_range}
use Rattle.claims.specs.declared.claimed.ClaimLine.TheVariants.{Initial, Op}

-- the line is that of this operation of the timeline
abbrev pub StandsFor : List ℕ → List Operation → ClaimLine → Operation → Type 0
StandsFor initial operations l o = Contains (timeline initial operations) o × (line_of o ≡ l)

module _ (initial : List ℕ) (operations : List Operation) (few : length initial ≤ MAX_INITIAL) where
  abbrev k : ℕ
  k = length initial

  abbrev all : List Operation
  all = timeline initial operations

  -- the operation is the enqueue of an initial value
  record IsInitialLine (o : Operation) : Type 0 where
    place : ℕ
    value : ℕ
    stands : slice_get initial place ≡ Some value
    is : initial_enqueue k place value ≡ o
    line : line_of o ≡ Initial value

  -- the operation is one of the history, moved later
  record IsOperationLine (o : Operation) : Type 0 where
    operation : Operation
    among : Contains operations operation
    is : later_by ORIGIN operation ≡ o
    line : line_of o ≡ Op operation

  line_told : (o : Operation) → Contains all o → IsInitialLine o ⊎ IsOperationLine o
  line_told o among =
      let at = place_of all o among in
      elim (timeline_at initial operations at.0 o at.1) [
        | inl early ↦
            let call : initial_time k at.0 ≡ o.call = ap (λ (x : Operation). x.call) early.is in
            let within = early.within in inl (record {
              place = at.0;
              value = early.value;
              stands = early.stands;
              is = early.is;
              line = early_line o (omega arith) ∙ ap (λ (x : Operation). Initial (accepted_value x.kind)) (sym early.is);
            })
        | inr late ↦ inr (record {
          operation = late.operation;
          among = contains_at operations (at.0 - k) late.operation late.stands;
          is = late.is;
          line = ap line_of (sym late.is) ∙ later_line late.operation;
        })
      ]

  -- a line of this kind stands for an operation of the kind
  stood_for : (l : ClaimLine) (kind : OpKind) → LineDid initial operations l kind
      → (o : Operation) × StandsFor initial operations l o × (o.kind ≡ kind)
  stood_for (Op x) kind did = (
    later_by ORIGIN x,
    (Contains-append_right (initial_enqueues initial) (map (later_by ORIGIN) operations) _ (mapped_to (later_by ORIGIN) operations x did.0), later_line x),
    did.1,
  )
  stood_for (Initial v) kind (among, is) =
      let at = place_of initial v among in
      let within = slice_get_within initial at.0 v at.1 in (
        initial_enqueue k at.0 v,
        (
          Contains-append_left (initial_enqueues initial) (map (later_by ORIGIN) operations) _ (enqueue_stands initial at.0 v at.1),
          early_line (initial_enqueue k at.0 v) (omega arith),
        ),
        sym is,
      )

  -- a line is of the kind of the operation that it stands for
  line_did : (l : ClaimLine) (o : Operation) (kind : OpKind) → StandsFor initial operations l o → o.kind ≡ kind
      → LineDid initial operations l kind
  line_did l o kind (among, same) is = elim (line_told o among) [
    | inl early ↦ subst (λ m. LineDid initial operations m kind) (sym early.line ∙ same)
        (contains_at initial early.place early.value early.stands, sym is ∙ sym (ap (λ (x : Operation). x.kind) early.is))
    | inr late ↦ subst (λ m. LineDid initial operations m kind) (sym late.line ∙ same) (late.among, ap (λ (x : Operation). x.kind) late.is ∙ is)
  ]

  -- no operation of the timeline is of a kind if and only if no line is
  pub none_exactly : (kind : OpKind) → NoneDid all kind ↔ NoLineDid initial operations kind
  none_exactly kind = (
    λ none l did. let s = stood_for l kind did in none s.0 s.1.0 s.2,
    λ none o among is. none (line_of o) (line_did (line_of o) o kind (among, refl) is),
  )

  -- dequeues return in the order of their lines
  returns_exactly : (l m : ClaimLine) (o p : Operation) (v w : ℕ) → StandsFor initial operations l o
      → StandsFor initial operations m p
      → o.kind ≡ Dequeue v → p.kind ≡ Dequeue w → (o.ret < p.ret) ↔ ReturnsFirst l m
  returns_exactly l m o p v w (in_o, is_l) (in_p, is_m) dequeues dequeues' = both (line_told o in_o) (line_told p in_p)
    where
      no_dequeue : (x : Operation) (u : ℕ) → IsInitialLine x → x.kind ≡ Dequeue u → ⊥
      no_dequeue x u early is = let clash : Enqueue early.value ≡ Dequeue u = ap (λ (y : Operation). y.kind) early.is ∙ is in cc

      both : IsInitialLine o ⊎ IsOperationLine o → IsInitialLine p ⊎ IsOperationLine p
          → (o.ret < p.ret) ↔ ReturnsFirst l m
      both (inl early) _ = absurd (no_dequeue o v early dequeues)
      both _ (inl early) = absurd (no_dequeue p w early dequeues')
      both (inr x) (inr y) =
          let ret_x : x.operation.ret + ORIGIN ≡ o.ret = ap (λ (z : Operation). z.ret) x.is in
          let ret_y : y.operation.ret + ORIGIN ≡ p.ret = ap (λ (z : Operation). z.ret) y.is in
          subst (λ n. (o.ret < p.ret) ↔ ReturnsFirst n m) (sym x.line ∙ is_l)
          (subst (λ n. (o.ret < p.ret) ↔ ReturnsFirst (Op x.operation) n) (sym y.line ∙ is_m) (λ less. omega arith, λ less. omega arith))

  -- lines precede each other as their operations do
  line_precedes : (l m : ClaimLine) (o p : Operation) → StandsFor initial operations l o
      → StandsFor initial operations m p → o.ret < p.call
      → LinePrecedes initial l m
  line_precedes l m o p (in_o, is_l) (in_p, is_m) less = by_told (line_told o in_o) (line_told p in_p)
    where
      lines : (x y : ClaimLine) → line_of o ≡ x → line_of p ≡ y → LinePrecedes initial x y → LinePrecedes initial l m
      lines x y is_x is_y before = subst (λ n. LinePrecedes initial n m) (sym is_x ∙ is_l) (subst (LinePrecedes initial x) (sym is_y ∙ is_m) before)

      by_told : IsInitialLine o ⊎ IsOperationLine o → IsInitialLine p ⊎ IsOperationLine p → LinePrecedes initial l m
      by_told (inl x) (inl y) =
          let ret : initial_time k x.place ≡ o.ret = ap (λ (z : Operation). z.ret) x.is in
          let call : initial_time k y.place ≡ p.call = ap (λ (z : Operation). z.call) y.is in
          lines (Initial x.value) (Initial y.value) x.line y.line (x.place, y.place, omega arith, x.stands, y.stands)
      by_told (inl x) (inr y) = lines (Initial x.value) (Op y.operation) x.line y.line tt
      by_told (inr x) (inl y) =
          let ret : x.operation.ret + ORIGIN ≡ o.ret = ap (λ (z : Operation). z.ret) x.is in
          let call : initial_time k y.place ≡ p.call = ap (λ (z : Operation). z.call) y.is in
          let within = slice_get_within initial y.place y.value y.stands in
          absurd (omega arith)
      by_told (inr x) (inr y) =
          let ret : x.operation.ret + ORIGIN ≡ o.ret = ap (λ (z : Operation). z.ret) x.is in
          let call : y.operation.call + ORIGIN ≡ p.call = ap (λ (z : Operation). z.call) y.is in
          lines (Op x.operation) (Op y.operation) x.line y.line (omega arith)

  -- ---- from a violation of the timeline to lines that show it

  abbrev AreFor : List ClaimLine → List Operation → Type 0
  AreFor lines listed = AllZip (StandsFor initial operations) lines listed

  leaves_after : (line : ClaimLine) (o : Operation) (v : ℕ) (d : Option Operation) (lines : List ClaimLine)
      → StandsFor initial operations line o
      → MatchOption d (NoneDid all (Dequeue v)) (λ x. Did all x (Dequeue v)) → o.ret < call_or_never d
      → AreFor lines (option_to_list d)
      → LeavesAfter initial operations line v lines
  leaves_after line o v None [] at none later each = (none_exactly (Dequeue v)).0 none
  leaves_after line o v (Some d) (l ∷ []) at did later each = (line_did l d (Dequeue v) each.0 did.1, line_precedes line l o d at each.0 later)
  leaves_after line o v None (l ∷ lines) at none later each = absurd each
  leaves_after line o v (Some d) [] at did later each = absurd each
  leaves_after line o v (Some d) (l ∷ m ∷ lines) at did later each = absurd each.1

  order_shows : (a b : Life) (lines : List ClaimLine) → AreFor lines (lines_of (order a b))
      → IsOrderViolation (on all) a b
      → Shows initial operations VOrd lines
  order_shows a b lines each is =
      let (d, dequeues) = dequeued_if_called b is.is_dequeued in
      named d dequeues (did_dequeue all b d is.is_b dequeues).1 lines (subst (λ o. AreFor lines (enqueue_of a ∷ enqueue_of b
      ∷ (option_to_list o ++ option_to_list (dequeue_of a)))) dequeues each)
    where
      named : (d : Operation) → dequeue_of b ≡ Some d → d.kind ≡ Dequeue is.is_b.0 → (lines : List ClaimLine)
          → AreFor lines (enqueue_of a ∷ enqueue_of b ∷ d ∷ option_to_list (dequeue_of a))
          → Shows initial operations VOrd lines
      named d dequeues kind (l ∷ m ∷ n ∷ rest) each = (
        is.is_a.0,
        is.is_b.0,
        line_did l (enqueue_of a) (Enqueue is.is_a.0) each.0 is.is_a.1.1,
        line_did m (enqueue_of b) (Enqueue is.is_b.0) each.1.0 is.is_b.1.1,
        line_did n d (Dequeue is.is_b.0) each.1.1.0 kind,
        line_precedes l m (enqueue_of a) (enqueue_of b) each.0 each.1.0 is.overtakes.0,
        leaves_after n d is.is_a.0 (dequeue_of a) rest each.1.1.0 is.is_a.2 (omega (arith, is.overtakes.1, ap return_or_never dequeues)) each.1.1.1,
      )
      named d dequeues kind [] each = absurd each
      named d dequeues kind (l ∷ []) each = absurd each.1
      named d dequeues kind (l ∷ m ∷ []) each = absurd each.1.1

  cover_shows : (empty line : ClaimLine) (o before : Operation) (frontier : ℕ) (cover : List Life)
      (lines : List ClaimLine)
      → StandsFor initial operations empty o → StandsFor initial operations line before → before.call ≡ frontier
      → AreFor lines (flat_map operations_of_life cover) → CoversFrom (on all) o frontier cover → LinesCover initial operations empty line lines
  cover_shows empty line o before frontier [] lines at_o at same each covers = absurd covers
  cover_shows empty line o before frontier (life ∷ []) lines at_o at same each covers = ends (dequeue_of life) covers.0.2 covers.2 lines each
    where
      ends : (d : Option Operation)
          → MatchOption d (NoneDid all (Dequeue covers.0.0)) (λ x. Did all x (Dequeue covers.0.0))
          → o.ret < call_or_never d
          → (lines : List ClaimLine) → AreFor lines (enqueue_of life ∷ (option_to_list d ++ []))
          → LinesCover initial operations empty line lines
      ends None none later (l ∷ []) each = (
        covers.0.0,
        (line_did l (enqueue_of life) (Enqueue covers.0.0) each.0 covers.0.1.1, line_precedes l line (enqueue_of life) before each.0 at (omega (arith, covers.1))),
        leaves_after empty o covers.0.0 None [] at_o none later tt,
      )
      ends (Some d) did later (l ∷ m ∷ []) each = (
        covers.0.0,
        (line_did l (enqueue_of life) (Enqueue covers.0.0) each.0 covers.0.1.1, line_precedes l line (enqueue_of life) before each.0 at (omega (arith, covers.1))),
        leaves_after empty o covers.0.0 (Some d) (m ∷ []) at_o did later each.1,
      )
      ends None none later [] each = absurd each
      ends None none later (l ∷ m ∷ lines) each = absurd each.1
      ends (Some d) did later [] each = absurd each
      ends (Some d) did later (l ∷ []) each = absurd each.1
      ends (Some d) did later (l ∷ m ∷ n ∷ lines) each = absurd each.1.1
  cover_shows empty line o before frontier (life ∷ next ∷ rest) lines at_o at same each covers =
      let (d, dequeues) = dequeued_if_called life covers.2 in
      goes_on d (did_dequeue all life d covers.0 dequeues).1 lines
      (subst (λ x. AreFor lines (enqueue_of life ∷ (option_to_list x ++ flat_map operations_of_life (next ∷ rest)))) dequeues each)
      (λ m later at_m each'. cover_shows empty m o d (dequeue_call life) (next ∷ rest) later at_o at_m (sym (ap call_or_never dequeues)) each' covers.3)
    where
      goes_on : (d : Operation) → d.kind ≡ Dequeue covers.0.0 → (lines : List ClaimLine)
          → AreFor lines (enqueue_of life ∷ d ∷ flat_map operations_of_life (next ∷ rest))
          → ((m : ClaimLine) (later : List ClaimLine) → StandsFor initial operations m d
          → AreFor later (flat_map operations_of_life (next ∷ rest))
          → LinesCover initial operations empty m later) → LinesCover initial operations empty line lines
      goes_on d kind (l ∷ m ∷ n ∷ lines) each more = (
        covers.0.0,
        (line_did l (enqueue_of life) (Enqueue covers.0.0) each.0 covers.0.1.1, line_precedes l line (enqueue_of life) before each.0 at (omega (arith, covers.1))),
        line_did m d (Dequeue covers.0.0) each.1.0 kind,
        more m (n ∷ lines) each.1.0 each.1.1,
      )
      goes_on d kind [] each more = absurd each
      goes_on d kind (l ∷ []) each more = absurd each.1
      goes_on d kind (l ∷ m ∷ []) each more = absurd each.1.1

  -- the lines of a violation show it
  pub violation_shows : (full : FullViolation) (lines : List ClaimLine) → AreFor lines (lines_of full)
      → IsViolationOf (on all) full
      → Shows initial operations (kind_of full) lines
  violation_shows (fresh d None) (l ∷ []) each is = (
    is.value,
    line_did l d (Dequeue is.value) each.0 is.dequeues.1,
    (none_exactly (Enqueue is.value)).0 (λ o among did. is.not_accepted o (among, did)),
    (none_exactly (EnqueueFailed is.value)).0 is.not_failed,
  )
  violation_shows (fresh d (Some e)) (l ∷ m ∷ []) each is = (
    is.value,
    line_did l d (Dequeue is.value) each.0 is.dequeues.1,
    elim is.enqueues [
      | inl failed ↦ inl (line_did m e (EnqueueFailed is.value) each.1.0 failed.1)
      | inr late ↦ inr (line_did m e (Enqueue is.value) each.1.0 late.0.1, line_precedes l m d e each.0 each.1.0 late.1)
    ],
  )
  violation_shows (repeat x y z) (l ∷ m ∷ n ∷ []) each is = (
    is.value,
    line_did l x (Enqueue is.value) each.0 is.enqueues.1,
    line_did m y (Dequeue is.value) each.1.0 is.dequeues.1,
    line_did n z (Dequeue is.value) each.1.1.0 is.dequeues_again.1,
    (returns_exactly m n y z is.value is.value each.1.0 each.1.1.0 is.dequeues.1 is.dequeues_again.1).0 is.in_order,
  )
  violation_shows (order a b) lines each is = order_shows a b lines each is
  violation_shows (witness o cover) (l ∷ lines) each is =
      (line_did l o DequeueEmpty each.0 is.answers_empty.1, cover_shows l l o o o.call cover lines each.0 each.0 refl each.1 is.covers)
  violation_shows (fresh d None) [] each is = absurd each
  violation_shows (fresh d None) (l ∷ m ∷ lines) each is = absurd each.1
  violation_shows (fresh d (Some e)) [] each is = absurd each
  violation_shows (fresh d (Some e)) (l ∷ []) each is = absurd each.1
  violation_shows (fresh d (Some e)) (l ∷ m ∷ n ∷ lines) each is = absurd each.1.1
  violation_shows (repeat x y z) [] each is = absurd each
  violation_shows (repeat x y z) (l ∷ []) each is = absurd each.1
  violation_shows (repeat x y z) (l ∷ m ∷ []) each is = absurd each.1.1
  violation_shows (repeat x y z) (l ∷ m ∷ n ∷ p ∷ lines) each is = absurd each.1.1.1
  violation_shows (witness o cover) [] each is = absurd each

  -- ---- from lines that show a violation to the violation

  module _ (complete : AreComplete all) where
    -- the operation of a line that precedes another returns before that of the other is called
    precedes_line : (l m : ClaimLine) (o p : Operation) → StandsFor initial operations l o
        → StandsFor initial operations m p → LinePrecedes initial l m
        → o.ret < p.call
    precedes_line l m o p (in_o, is_l) (in_p, is_m) before = by_told (line_told o in_o) (line_told p in_p)
      where
        lines : (x y : ClaimLine) → line_of o ≡ x → line_of p ≡ y → LinePrecedes initial x y
        lines x y is_x is_y = subst (λ n. LinePrecedes initial n y) (sym is_l ∙ is_x) (subst (LinePrecedes initial l) (sym is_m ∙ is_y) before)

        one_place : (i j v : ℕ) → slice_get initial i ≡ Some v → slice_get initial j ≡ Some v → i ≡ j
        one_place i j v at_i at_j =
            let did = λ (n : ℕ) (at : slice_get initial n ≡ Some v). Contains-append_left (initial_enqueues initial) (map (later_by ORIGIN) operations)
            (initial_enqueue k n v) (enqueue_stands initial n v at) in
            let one = same_enqueue all (initial_enqueue k i v) (initial_enqueue k j v) v complete (did i at_i, refl) (did j at_j, refl) in
            let calls : initial_time k i ≡ initial_time k j = ap (λ (x : Operation). x.call) one in
            omega arith

        by_told : IsInitialLine o ⊎ IsOperationLine o → IsInitialLine p ⊎ IsOperationLine p → o.ret < p.call
        by_told (inl x) (inl y) =
            let (i, j, less, at_i, at_j) = lines (Initial x.value) (Initial y.value) x.line y.line in
            let ret : initial_time k x.place ≡ o.ret = ap (λ (z : Operation). z.ret) x.is in
            let call : initial_time k y.place ≡ p.call = ap (λ (z : Operation). z.call) y.is in
            omega (arith, one_place i x.place x.value at_i x.stands, one_place j y.place y.value at_j y.stands)
        by_told (inl x) (inr y) =
            let ret : initial_time k x.place ≡ o.ret = ap (λ (z : Operation). z.ret) x.is in
            let call : y.operation.call + ORIGIN ≡ p.call = ap (λ (z : Operation). z.call) y.is in
            let within = slice_get_within initial x.place x.value x.stands in
            omega arith
        by_told (inr x) (inl y) = absurd (lines (Op x.operation) (Initial y.value) x.line y.line)
        by_told (inr x) (inr y) =
            let less : x.operation.ret < y.operation.call = lines (Op x.operation) (Op y.operation) x.line y.line in
            let ret : x.operation.ret + ORIGIN ≡ o.ret = ap (λ (z : Operation). z.ret) x.is in
            let call : y.operation.call + ORIGIN ≡ p.call = ap (λ (z : Operation). z.call) y.is in
            omega arith

    -- a violation of this kind with these lines
    pub record IsShown (kind : ViolationKind) (lines : List ClaimLine) : Type 0 where
      pub full : FullViolation
      pub same_kind : kind_of full ≡ kind
      pub each : AreFor lines (lines_of full)
      pub violates : IsViolationOf (on all) full

    -- the dequeue of a value, or none
    dequeue_shown : (line : ClaimLine) (o : Operation) (v : ℕ) (lines : List ClaimLine)
        → StandsFor initial operations line o
        → LeavesAfter initial operations line v lines
        → (d : Option Operation) × AreFor lines (option_to_list d)
        × MatchOption d (NoneDid all (Dequeue v)) (λ x. Did all x (Dequeue v))
        × (o.ret < call_or_never d)
    dequeue_shown line o v [] at none = (None, tt, (none_exactly (Dequeue v)).1 none, (times_in_range all o complete at.0).1)
    dequeue_shown line o v (l ∷ []) at (did, before) =
        let (d, at_d, is) = stood_for l (Dequeue v) did in (Some d, (at_d, tt), (at_d.0, is), precedes_line line l o d at at_d before)
    dequeue_shown line o v (l ∷ m ∷ lines) at leaves = absurd leaves

    cover_shown : (empty line : ClaimLine) (o before : Operation) (frontier : ℕ) (lines : List ClaimLine)
        → StandsFor initial operations empty o
        → StandsFor initial operations line before → before.call ≡ frontier
        → LinesCover initial operations empty line lines
        → (cover : List Life) × AreFor lines (flat_map operations_of_life cover) × CoversFrom (on all) o frontier cover
    cover_shown empty line o before frontier [] at_o at same covers = absurd covers
    cover_shown empty line o before frontier (l ∷ []) at_o at same (v, enters, leaves) =
        let (e, at_e, is) = stood_for l (Enqueue v) enters.0 in (
          record { enqueue = e; dequeue = None } ∷ [],
          (at_e, tt),
          ((v, (at_e.0, is), (none_exactly (Dequeue v)).1 leaves), omega (arith, precedes_line l line e before at_e at enters.1), (times_in_range all o complete at_o.0).1),
        )
    cover_shown empty line o before frontier (l ∷ m ∷ []) at_o at same (v, enters, (did, later)) =
        let (e, at_e, is) = stood_for l (Enqueue v) enters.0 in
        let (d, at_d, is_d) = stood_for m (Dequeue v) did in (
          record { enqueue = e; dequeue = Some d } ∷ [],
          (at_e, (at_d, tt)),
          ((v, (at_e.0, is), (at_d.0, is_d)), omega (arith, precedes_line l line e before at_e at enters.1), precedes_line empty m o d at_o at_d later),
        )
    cover_shown empty line o before frontier (l ∷ m ∷ n ∷ lines) at_o at same (v, enters, did, covers) =
        let (e, at_e, is) = stood_for l (Enqueue v) enters.0 in
        let (d, at_d, is_d) = stood_for m (Dequeue v) did in
        let (cover, each, rest) = cover_shown empty m o d d.call (n ∷ lines) at_o at_d refl covers in (
          record { enqueue = e; dequeue = Some d } ∷ cover,
          (at_e, (at_d, each)),
          with_first (record { enqueue = e; dequeue = Some d }) (v, (at_e.0, is), (at_d.0, is_d))
              (omega (arith, precedes_line l line e before at_e at enters.1)) (times_in_range all d complete at_d.0).0 cover rest,
        )
      where
        with_first : (life : Life) → IsLife (on all) life → enqueue_return life < frontier → dequeue_call life < NEVER
            → (cover : List Life)
            → CoversFrom (on all) o (dequeue_call life) cover → CoversFrom (on all) o frontier (life ∷ cover)
        with_first life is enters called [] covers = absurd covers
        with_first life is enters called (next ∷ rest) covers = (is, enters, called, covers)

    -- lines that show a violation are the lines of one
    pub shown_violation : (kind : ViolationKind) (lines : List ClaimLine) → Shows initial operations kind lines
        → IsShown kind lines
    shown_violation VFresh (l ∷ []) (v, did, not_accepted, not_failed) =
        let (d, at, is) = stood_for l (Dequeue v) did in record {
          full = fresh d None;
          same_kind = refl;
          each = (at, tt);
          violates = record {
            value = v;
            dequeues = (at.0, is);
            not_accepted = λ o did. (none_exactly (Enqueue v)).1 not_accepted o did.0 did.1;
            not_failed = (none_exactly (EnqueueFailed v)).1 not_failed;
          };
        }
    shown_violation VFresh (l ∷ m ∷ []) (v, did, inl failed) =
        let (d, at, is) = stood_for l (Dequeue v) did in
        let (e, at_e, is_e) = stood_for m (EnqueueFailed v) failed in record {
          full = fresh d (Some e);
          same_kind = refl;
          each = (at, (at_e, tt));
          violates = record { value = v; dequeues = (at.0, is); enqueues = inl (at_e.0, is_e) };
        }
    shown_violation VFresh (l ∷ m ∷ []) (v, did, inr late) =
        let (d, at, is) = stood_for l (Dequeue v) did in
        let (e, at_e, is_e) = stood_for m (Enqueue v) late.0 in record {
          full = fresh d (Some e);
          same_kind = refl;
          each = (at, (at_e, tt));
          violates = record { value = v; dequeues = (at.0, is); enqueues = inr ((at_e.0, is_e), precedes_line l m d e at at_e late.1) };
        }
    shown_violation VRepeat (l ∷ m ∷ n ∷ []) (v, enqueues, dequeues, again, in_order) =
        let (x, at_x, is_x) = stood_for l (Enqueue v) enqueues in
        let (y, at_y, is_y) = stood_for m (Dequeue v) dequeues in
        let (z, at_z, is_z) = stood_for n (Dequeue v) again in record {
          full = repeat x y z;
          same_kind = refl;
          each = (at_x, (at_y, (at_z, tt)));
          violates = record {
            value = v;
            enqueues = (at_x.0, is_x);
            dequeues = (at_y.0, is_y);
            dequeues_again = (at_z.0, is_z);
            in_order = (returns_exactly m n y z v v at_y at_z is_y is_z).1 in_order;
          };
        }
    shown_violation VOrd (l ∷ m ∷ n ∷ rest) (v, w, enqueues, enqueues', dequeues, before, leaves) =
        let (x, at_x, is_x) = stood_for l (Enqueue v) enqueues in
        let (y, at_y, is_y) = stood_for m (Enqueue w) enqueues' in
        let (d, at_d, is_d) = stood_for n (Dequeue w) dequeues in
        let (c, each, ends, later) = dequeue_shown n d v rest at_d leaves in record {
          full = order (record { enqueue = x; dequeue = c }) (record { enqueue = y; dequeue = Some d });
          same_kind = refl;
          each = (at_x, (at_y, (at_d, each)));
          violates = record {
            is_a = (v, (at_x.0, is_x), ends);
            is_b = (w, (at_y.0, is_y), (at_d.0, is_d));
            is_dequeued = (times_in_range all d complete at_d.0).0;
            overtakes = (precedes_line l m x y at_x at_y before, later);
          };
        }
    shown_violation VWit (l ∷ lines) (answers, covers) =
        let (o, at, is) = stood_for l DequeueEmpty answers in
        let (cover, each, covers') = cover_shown l l o o o.call lines at at refl covers in record {
          full = witness o cover;
          same_kind = refl;
          each = (at, each);
          violates = record { answers_empty = (at.0, is); covers = covers' };
        }
    shown_violation _ _ shows = absurd shows
