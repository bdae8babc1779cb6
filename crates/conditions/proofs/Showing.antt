-- Lines that show a violation in a selection of a history show it in the whole.
use Rattle.std.proofs.Common.{◌≡◌, ℕ, zero, suc, ◌<◌, inl, inr, Bool, true, false, cond, List, [], ◌∷◌, Some, refl, ap}
use Rattle.std.proofs.Common.{sym, subst, ◌∙◌, arith}
use Rattle.std.specs.Prelude.{Contains, filter, slice_get}
use Rattle.history_merge.specs.declared.operation.Operation.{Operation}
use Rattle.history_merge.specs.declared.operation.OpKind.{OpKind}
use Rattle.history_merge.specs.declared.operation.OpKind.TheVariants.{Dequeue, DequeueEmpty, Enqueue, EnqueueFailed}
use Rattle.history_merge.specs.Initial.{Contents}
use Rattle.history_merge.proofs.Distinct.{contains_at, place_of}
use Rattle.value_match.proofs.Lists.{passed_filter, passes_filter}
use Rattle.claims.specs.declared.claimed.ClaimLine.{ClaimLine}
use Rattle.claims.specs.declared.claimed.ClaimLine.TheVariants.{Initial, Op}
use Rattle.claims.specs.declared.claimed.ViolationKind.{ViolationKind}
use Rattle.claims.specs.declared.claimed.ViolationKind.TheVariants.{VFresh, VOrd, VRepeat, VWit}
use Rattle.verdicts.specs.Selection.{select, selects, value_of}
use Rattle.claims.specs.Showing.{EnqueuedBefore, LeavesAfter, LineDid, LinePrecedes, LinesCover, NoLineDid}
use Rattle.claims.specs.Showing.{ShowsFresh, ShowsOrder, ShowsRepeat, ShowsWitness}
use Rattle.verdicts.proofs.NamedLines.{selects_as_value}
use Rattle.conditions.specs.Laws.{ShowsIn, ViolationsAreOfTheWhole}

-- elements that are kept come in the order that they have among all
pub kept_in_order : {X : Type 0} (p : X → Bool) (xs : List X) (i j : ℕ) (x y : X) → i < j
    → slice_get (filter p xs) i ≡ Some x
    → slice_get (filter p xs) j ≡ Some y
    → (k : ℕ) × (l : ℕ) × (k < l) × (slice_get xs k ≡ Some x) × (slice_get xs l ≡ Some y)
kept_in_order p [] i j x y less at_i at_j = cc
kept_in_order {X} p (z ∷ xs) i j x y less at_i at_j = by_test (p z) i j less at_i at_j (λ i j. kept_in_order p xs i j x y)
  where
    by_test : (b : Bool) (i j : ℕ) → i < j → slice_get (cond b (z ∷ filter p xs) (filter p xs)) i ≡ Some x
        → slice_get (cond b (z ∷ filter p xs) (filter p xs)) j ≡ Some y
        → ((i j : ℕ) → i < j → slice_get (filter p xs) i ≡ Some x → slice_get (filter p xs) j ≡ Some y
        → (k : ℕ) × (l : ℕ) × (k < l) × (slice_get xs k ≡ Some x) × (slice_get xs l ≡ Some y))
        → (k : ℕ) × (l : ℕ) × (k < l) × (slice_get (z ∷ xs) k ≡ Some x) × (slice_get (z ∷ xs) l ≡ Some y)
    by_test false i j less at_i at_j more =
        let found = more i j less at_i at_j in (suc found.0, suc found.1, omega (arith, found.2), found.3, found.4)
    by_test true zero zero less at_i at_j more = absurd (omega arith)
    by_test true zero (suc j) less at_i at_j more =
        let there = place_of xs y (passed_filter p xs y (contains_at (filter p xs) j y at_j)).0 in
        (zero, suc there.0, omega arith, at_i, there.1)
    by_test true (suc i) zero less at_i at_j more = absurd (omega arith)
    by_test true (suc i) (suc j) less at_i at_j more =
        let found = more i j (omega arith) at_i at_j in (suc found.0, suc found.1, omega (arith, found.2), found.3, found.4)

module _ (values empties : ℕ → Bool) (whole : Contents) where
  abbrev part : Contents
  part = select values empties whole

  in_whole : (o : Operation) → Contains part.operations o → Contains whole.operations o
  in_whole o among = (passed_filter (selects values empties) whole.operations o among).0

  -- a line of this kind in the selection is one of this kind in the whole
  did_in_whole : (line : ClaimLine) (kind : OpKind) → LineDid part.initial part.operations line kind
      → LineDid whole.initial whole.operations line kind
  did_in_whole (Op o) kind did = (in_whole o did.0, did.1)
  did_in_whole (Initial v) kind did = ((passed_filter values whole.initial v did.0).0, did.1)

  -- the value of such a line is selected
  value_selected : (line : ClaimLine) (kind : OpKind) (v : ℕ) → value_of kind ≡ Some v
      → LineDid part.initial part.operations line kind → values v ≡ true
  value_selected (Op o) kind v is did =
      sym (selects_as_value values empties o v (ap value_of did.1 ∙ is)) ∙ (passed_filter (selects values empties) whole.operations o did.0).1
  value_selected (Initial w) kind v is did =
      let same : Some w ≡ Some v = sym (ap value_of did.1) ∙ is in
      let one : w ≡ v = cc in
      subst (λ u. values u ≡ true) one (passed_filter values whole.initial w did.0).1

  -- if no line of the selection is of this kind, with a selected value, none of the whole is
  none_in_whole : (kind : OpKind) (v : ℕ) → value_of kind ≡ Some v → values v ≡ true
      → NoLineDid part.initial part.operations kind
      → NoLineDid whole.initial whole.operations kind
  none_in_whole kind v is selected none (Op o) did =
      none (Op o) (passes_filter (selects values empties) whole.operations o (selects_as_value values empties o v (ap value_of did.1 ∙ is) ∙ selected) did.0, did.1)
  none_in_whole kind v is selected none (Initial w) did =
      let same : Some w ≡ Some v = sym (ap value_of did.1) ∙ is in
      let one : v ≡ w = cc in
      none (Initial w) (passes_filter values whole.initial w (subst (λ u. values u ≡ true) one selected) did.0, did.1)

  precedes_in_whole : (x y : ClaimLine) → LinePrecedes part.initial x y → LinePrecedes whole.initial x y
  precedes_in_whole (Op x) (Op y) before = before
  precedes_in_whole (Op x) (Initial w) before = before
  precedes_in_whole (Initial v) (Op y) before = before
  precedes_in_whole (Initial v) (Initial w) before = kept_in_order values whole.initial before.0 before.1 v w before.2 before.3 before.4

  leaves_in_whole : (line : ClaimLine) (v : ℕ) (deq : List ClaimLine) → values v ≡ true
      → LeavesAfter part.initial part.operations line v deq
      → LeavesAfter whole.initial whole.operations line v deq
  leaves_in_whole line v [] selected leaves = none_in_whole (Dequeue v) v refl selected leaves
  leaves_in_whole line v (deq ∷ []) selected leaves = (did_in_whole deq (Dequeue v) leaves.0, precedes_in_whole line deq leaves.1)
  leaves_in_whole line v (deq ∷ next ∷ rest) selected leaves = absurd leaves

  fresh_in_whole : (lines : List ClaimLine) → ShowsFresh part.initial part.operations lines
      → ShowsFresh whole.initial whole.operations lines
  fresh_in_whole [] shown = absurd shown
  fresh_in_whole (deq ∷ []) shown =
      let v = shown.0 in
      let selected = value_selected deq (Dequeue v) v refl shown.1 in
      (v, did_in_whole deq (Dequeue v) shown.1, none_in_whole (Enqueue v) v refl selected shown.2, none_in_whole (EnqueueFailed v) v refl selected shown.3)
  fresh_in_whole (deq ∷ enq ∷ []) shown =
      let v = shown.0 in (
        v,
        did_in_whole deq (Dequeue v) shown.1,
        elim shown.2 [
          | inl refused ↦ inl (did_in_whole enq (EnqueueFailed v) refused)
          | inr late ↦ inr (did_in_whole enq (Enqueue v) late.0, precedes_in_whole deq enq late.1)
        ],
      )
  fresh_in_whole (deq ∷ enq ∷ next ∷ rest) shown = absurd shown

  repeat_in_whole : (lines : List ClaimLine) → ShowsRepeat part.initial part.operations lines
      → ShowsRepeat whole.initial whole.operations lines
  repeat_in_whole [] shown = absurd shown
  repeat_in_whole (enq ∷ []) shown = absurd shown
  repeat_in_whole (enq ∷ first ∷ []) shown = absurd shown
  repeat_in_whole (enq ∷ first ∷ second ∷ []) shown =
      let v = shown.0 in
      (v, did_in_whole enq (Enqueue v) shown.1, did_in_whole first (Dequeue v) shown.2, did_in_whole second (Dequeue v) shown.3, shown.4)
  repeat_in_whole (enq ∷ first ∷ second ∷ next ∷ rest) shown = absurd shown

  order_in_whole : (lines : List ClaimLine) → ShowsOrder part.initial part.operations lines
      → ShowsOrder whole.initial whole.operations lines
  order_in_whole [] shown = absurd shown
  order_in_whole (enq_a ∷ []) shown = absurd shown
  order_in_whole (enq_a ∷ enq_b ∷ []) shown = absurd shown
  order_in_whole (enq_a ∷ enq_b ∷ deq_b ∷ deq_a) shown =
      let a = shown.0 in
      let b = shown.1 in (
        a,
        b,
        did_in_whole enq_a (Enqueue a) shown.2,
        did_in_whole enq_b (Enqueue b) shown.3,
        did_in_whole deq_b (Dequeue b) shown.4,
        precedes_in_whole enq_a enq_b shown.5,
        leaves_in_whole deq_b a deq_a (value_selected enq_a (Enqueue a) a refl shown.2) shown.6,
      )

  entered_in_whole : (line enq : ClaimLine) (v : ℕ) → EnqueuedBefore part.initial part.operations line enq v
      → EnqueuedBefore whole.initial whole.operations line enq v
  entered_in_whole line enq v entered = (did_in_whole enq (Enqueue v) entered.0, precedes_in_whole enq line entered.1)

  cover_in_whole : (empty line : ClaimLine) (lines : List ClaimLine)
      → LinesCover part.initial part.operations empty line lines
      → LinesCover whole.initial whole.operations empty line lines
  cover_in_whole empty line [] covers = absurd covers
  cover_in_whole empty line (enq ∷ []) covers = (
    covers.0,
    entered_in_whole line enq covers.0 covers.1,
    leaves_in_whole empty covers.0 [] (value_selected enq (Enqueue covers.0) covers.0 refl covers.1.0) covers.2,
  )
  cover_in_whole empty line (enq ∷ deq ∷ []) covers = (
    covers.0,
    entered_in_whole line enq covers.0 covers.1,
    leaves_in_whole empty covers.0 (deq ∷ []) (value_selected enq (Enqueue covers.0) covers.0 refl covers.1.0) covers.2,
  )
  cover_in_whole empty line (enq ∷ deq ∷ next ∷ rest) covers = (
    covers.0,
    entered_in_whole line enq covers.0 covers.1,
    did_in_whole deq (Dequeue covers.0) covers.2,
    cover_in_whole empty deq (next ∷ rest) covers.3,
  )

  witness_in_whole : (lines : List ClaimLine) → ShowsWitness part.initial part.operations lines
      → ShowsWitness whole.initial whole.operations lines
  witness_in_whole [] shown = absurd shown
  witness_in_whole (empty ∷ cover) shown = (did_in_whole empty DequeueEmpty shown.0, cover_in_whole empty empty cover shown.1)

  shown_in_whole : (kind : ViolationKind) (lines : List ClaimLine) → ShowsIn part kind lines → ShowsIn whole kind lines
  shown_in_whole VFresh lines shown = fresh_in_whole lines shown
  shown_in_whole VRepeat lines shown = repeat_in_whole lines shown
  shown_in_whole VOrd lines shown = order_in_whole lines shown
  shown_in_whole VWit lines shown = witness_in_whole lines shown

pub violations_are_of_the_whole : ViolationsAreOfTheWhole
violations_are_of_the_whole values empties whole kind lines shown = shown_in_whole values empties whole kind lines shown
