-- A complete history has a text, and so has the claim of a verdict on a history that has one. Lines at places.
use Rattle.history_text.proofs.Common.{All, All-contains, All-from_recursion, AllByRecursion, ap, append-nil, ap₂}
use Rattle.history_text.proofs.Common.{arith, Asked, Bool, claim_line, claim_of, ClaimLine, common_steps, cons_option}
use Rattle.history_text.proofs.Common.{Contains, Dequeue, DequeueEmpty, Event, filter_map, flat_map, flat_map-append}
use Rattle.history_text.proofs.Common.{greatest_value, HasClaimLine, HasEventLine, HasHistoryText, HasOperationLine}
use Rattle.history_text.proofs.Common.{HasText, HasValueInRange, HasVerdictText, HaveValueLines, HistoryText}
use Rattle.history_text.proofs.Common.{IsErrAnd, IsKindInRange, length, length-map, line_at, line_text, List, map}
use Rattle.history_text.proofs.Common.{MatchOption, MAX_CLAIM_LINES, MAX_EVENTS, MAX_INITIAL, maybe_place, nat_tests}
use Rattle.history_text.proofs.Common.{None, One, Op, Operation, operation_line, OpKind, Option, option_map}
use Rattle.history_text.proofs.Common.{option_to_list, puts_then, PutsText, recursion_from_All, refl, Result}
use Rattle.history_text.proofs.Common.{slice_get, Some, stops_before, subst, sym, TakesFront, TakesSome, Two}
use Rattle.history_text.proofs.Common.{verdict_places, Version, violation_places, [], ℕ, ◌++◌, ◌∙◌, ◌∷◌, ◌≡◌, ◌≤◌}
use Rattle.history_merge.specs.Complete.{IsCompleteHistory}
use Rattle.history_merge.specs.Operations.{operations_of}
use Rattle.history_merge.proofs.Distinct.{contains_at}
use Rattle.recorder_core.specs.Laws.{operation_call, operation_return, call_of_kind, return_of_kind}
use Rattle.recorder_core.proofs.Ticketed.{operation_events}
use Rattle.claims.specs.declared.verdict.Verdict.{Verdict}
use Rattle.claims.specs.declared.verdict.Verdict.TheVariants as found
use Rattle.claims.specs.declared.shown.LinePlace.{LinePlace}
use Rattle.history_merge.proofs.Lists.{some_of}
use Rattle.claims.specs.declared.shown.LinePlace.TheVariants as place

-- a complete history has a text
pub complete_has_text : (events : List Event) → IsCompleteHistory events → All (λ e. HasValueInRange e.what) events
    → length events ≤ MAX_EVENTS
    → HasHistoryText events
complete_has_text events complete values few = grind (arith, recursion_from_All)

-- a complete history has a text of this version, if its values and events fit
pub written_has_text : (version : Version) (initial : List ℕ) (events : List Event) → (version ≡ One → initial ≡ [])
    → length initial ≤ MAX_INITIAL
    → IsCompleteHistory events → length events ≤ MAX_EVENTS → (version ≡ Two → All (λ v. v ≤ greatest_value) initial)
    → All (λ e. HasValueInRange e.what) events
    → HasText (record { version = version; initial = initial; events = events })
written_has_text One initial events none few_initial complete few values_fit events_fit =
    assumption (none refl, complete_has_text events complete events_fit few)
written_has_text Two initial events none few_initial complete few values_fit events_fit =
    assumption (complete_has_text events complete events_fit few, recursion_from_All (λ v. v ≤ greatest_value) initial (values_fit refl))

-- ---- claims

all_of : {X : Type 0} (P : X → Type 0) (xs : List X) (x : X) → AllByRecursion P xs → Contains xs x → P x
all_of P xs x all among = All-contains P xs x (All-from_recursion P xs all) among

value_by : (kind : OpKind) → HasValueInRange (call_of_kind kind) → HasValueInRange (return_of_kind kind)
    → IsKindInRange kind
value_by DequeueEmpty call answer = tt
value_by (Dequeue v) call answer = answer
value_by _ call answer = call

-- each operation of events that have lines has a line
has_line : (events : List Event) (o : Operation) → AllByRecursion HasEventLine events
    → Contains (operations_of events) o → HasOperationLine o
has_line events o all among =
    let made = operation_events events o among in
    let call = all_of HasEventLine events (operation_call o) all made.0 in
    let answer = all_of HasEventLine events (operation_return o) all made.1 in
    record { call = call.ticket; ret = answer.ticket; thread = call.thread; value = value_by o.kind call.value answer.value }

-- a property of each element at a place holds of the elements at some places
at_places : {X Y : Type 0} (P : X → Type 0) (at : Y → Option X) (places : List Y)
    → ((p : Y) (x : X) → at p ≡ Some x → P x)
    → AllByRecursion P (filter_map at places)
at_places P at [] all = tt
at_places {X} P at (p ∷ places) all = grind (arith, at_places P at places all)

-- a property of the image of each value holds of the image of an optional one
mapped : {X Y : Type 0} (P : Y → Type 0) (f : X → Y) (o : Option X) (y : Y) → option_map f o ≡ Some y
    → ((x : X) → o ≡ Some x → P (f x)) → P y
mapped P f None y is each = cc
mapped P f (Some x) y is each = let same : f x ≡ y = cc in subst P same (each x refl)

-- ---- the operations of a `YES`

module _ (initial : List ℕ) (events : List Event) (values : AllByRecursion (λ v. v ≤ greatest_value) initial)
    (text : HasHistoryText events) where
  has_line_at : (p : ℕ) (o : Operation) → slice_get (operations_of events) p ≡ Some o → HasOperationLine o
  has_line_at p o at = has_line events o text.each (contains_at (operations_of events) p o at)

  -- ---- the lines of a `NO`

  has_claim_line : (p : LinePlace) (l : ClaimLine) → line_at initial (operations_of events) p ≡ Some l → HasClaimLine l
  has_claim_line (place.Op p) l is = mapped HasClaimLine Op (slice_get (operations_of events) p) l is (has_line_at p)
  has_claim_line (place.Initial p) l is = grind (arith, nat_tests, common_steps, mapped, all_of, contains_at)

  claim_by_parts : (verdict : Verdict) → length (verdict_places verdict) ≤ MAX_CLAIM_LINES
      → HasVerdictText (claim_of initial (operations_of events) verdict)
  claim_by_parts (found.Yes places) few = record {
    each = at_places HasOperationLine (slice_get (operations_of events)) places has_line_at;
    few = let fewer = some_of (slice_get (operations_of events)) places in
        let shown : length (map place.Op places) ≡ length places = simp length-map in omega (arith, fewer, few, shown);
  }
  claim_by_parts (found.No violation) few = record {
    each = at_places HasClaimLine (line_at initial (operations_of events)) (violation_places violation) has_claim_line;
    few = let fewer = some_of (line_at initial (operations_of events)) (violation_places violation) in omega (arith, fewer, few);
  }

values_of : (version : Version) (initial : List ℕ) → HaveValueLines version initial
    → AllByRecursion (λ v. v ≤ greatest_value) initial
values_of One initial right = subst (AllByRecursion (λ v. v ≤ greatest_value)) (sym right) tt
values_of Two initial right = right.each

-- the claim of a verdict on a history with a text has a text
pub claim_has_text : (text : HistoryText) (verdict : Verdict) → HasText text
    → length (verdict_places verdict) ≤ MAX_CLAIM_LINES
    → HasVerdictText (claim_of text.initial (operations_of text.events) verdict)
claim_has_text text verdict has few = claim_by_parts text.initial text.events (values_of text.version text.initial has.initial) has.events verdict few

-- ---- the lines at some places, as they are written

module _ {S : Type 0} (contents : S → Option (List ℕ))
    (has_refused : S → Bool) (transition : S → Asked → S → Type 0) where
  -- the lines of the first places were written in part
  pub first_stops : {P T E : Type 0} (f : P → List ℕ) (Q : E → Type 0) (r : Result T E) (xs ys : List P)
      (kept rest : List ℕ) (a b : S) → IsErrAnd r Q
      → TakesFront contents has_refused transition (kept ++ flat_map f xs) a b
      → PutsText contents has_refused transition kept rest (flat_map f (xs ++ ys)) a b r
  first_stops f Q r xs ys kept rest a b is h = grind (arith, flat_map-append, stops_before)

  -- the lines of the first places are written, and then those of the others
  pub others_then : {P T E : Type 0} (f : P → List ℕ) (r : Result T E) (xs ys : List P) (kept mid rest : List ℕ)
      (a b c : S)
      → TakesSome contents has_refused transition kept mid (flat_map f xs) a b → PutsText contents has_refused transition mid rest (flat_map f ys) b c r
      → PutsText contents has_refused transition kept rest (flat_map f (xs ++ ys)) a c r
  others_then f r xs ys kept mid rest a b c h k =
      subst (λ (t : List ℕ). PutsText contents has_refused transition kept rest t a c r) (sym (flat_map-append f xs ys))
      (puts_then contents has_refused transition r kept mid rest (flat_map f xs) (flat_map f ys) a b c h k)

-- the lines of each part of a list are those of all its places
pub lines_for_each : {X P : Type 0} (f : P → List ℕ) (g : X → List P) (xs : List X)
    → flat_map (λ x. flat_map f (g x)) xs ≡ flat_map f (flat_map g xs)
lines_for_each f g [] = refl
lines_for_each f g (x ∷ xs) = ap (λ (r : List ℕ). flat_map f (g x) ++ r) (lines_for_each f g xs) ∙ sym (flat_map-append f (g x) (flat_map g xs))

-- the line of an optional operation
pub last_text : (f : LinePlace → List ℕ) (last : Option ℕ) (places : List ℕ)
    → MatchOption last (places ≡ []) (λ p. places ≡ p ∷ [])
    → flat_map (λ p. f (place.Op p)) places ≡ flat_map f (maybe_place last)
last_text f None places is = rw is refl
last_text f (Some p) places is = rw is refl

one_more : {X : Type 0} (text : X → List ℕ) (here : Option X) (rest : List X) → flat_map text (cons_option here rest)
    ≡ flat_map text (option_to_list here) ++ flat_map text rest
one_more text None rest = refl
one_more text (Some x) rest = ap (λ (r : List ℕ). r ++ flat_map text rest) (sym (append-nil (text x)))

-- the lines of the elements at some places, one after another
pub text_at_places : {X P : Type 0} (text : X → List ℕ) (at : P → Option X) (places : List P)
    → flat_map text (filter_map at places) ≡ flat_map (λ p. flat_map text (option_to_list (at p))) places
text_at_places text at [] = refl
text_at_places text at (p ∷ places) = grind (arith, one_more, text_at_places text at places)

operation_or_none : (here : Option Operation)
    → flat_map operation_line (option_to_list here) ≡ flat_map claim_line (option_to_list (option_map Op here))
operation_or_none here = grind arith

-- the lines of the operations of a `YES`
pub order_is : (initial : List ℕ) (operations : List Operation) (places : List ℕ)
    → flat_map operation_line (filter_map (slice_get operations) places)
    ≡ flat_map (λ p. line_text initial operations (place.Op p)) places
order_is initial operations [] = refl
order_is initial operations (p ∷ places) = one_more operation_line (slice_get operations p) _
    ∙ ap₂ (λ (x y : List ℕ). x ++ y) (operation_or_none (slice_get operations p)) (order_is initial operations places)
