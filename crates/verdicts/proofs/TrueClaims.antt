-- The claim of a verdict lists the operations and the initial values that the verdict names.
use Rattle.verdicts.proofs.Common.{[], AllZip, ap, AreComplete, ArePlacesOf, arith, chosen_of, ClaimLine, cons_option}
use Rattle.verdicts.proofs.Common.{Contains, contains_cons, Contents, course, course_of, course_on, few_initial, fresh}
use Rattle.verdicts.proofs.Common.{FullViolation, inl, inr, IsChosenViolation, IsClear, IsDecided, IsLegalOrder}
use Rattle.verdicts.proofs.Common.{IsLinearizable, IsMatched, IsOfHistory, IsViolationOf, kind_of, length, LinePlace}
use Rattle.verdicts.proofs.Common.{lines_at, lines_of, List, map, MAX_INITIAL, Names, No, not_in_none, on, one_deeper}
use Rattle.verdicts.proofs.Common.{Operation, operations_at, operations_of, Option, order, refl, repeat, Shows}
use Rattle.verdicts.proofs.Common.{slice_get, Some, subst, sym, timeline, timeline_is_complete, timeline_of_history}
use Rattle.verdicts.proofs.Common.{Violation, violation_kind, violation_places, ViolationKind, witness, Yes, zero, ℕ}
use Rattle.verdicts.proofs.Common.{◌∙◌, ◌∷◌, ◌≡◌, ◌≤◌, ◌⊎◌}
use Rattle.value_match.specs.declared.matching.Matched.{Matched}
use Rattle.value_match.specs.declared.violation.Violation.TheVariants.{Fresh, Order, Repeat, Witness}
use Rattle.verdicts.proofs.Chosen.{chosen_is_violation}
use Rattle.verdicts.proofs.Exactly.{linearizable_without, violation_excludes_order}
use Rattle.verdicts.proofs.ShownLines.{shown_violation, StandsFor, violation_shows}
use Rattle.verdicts.proofs.NamedLines.{lines_are_operations}
use Rattle.verdicts.proofs.NamedPlaces.{all_within, each_shown, IsShownAt, line_of, shown_lines, violation_at}
use Rattle.verdicts.specs.Laws.{EvidenceIsTrueClaim, LinearizableExactly, TrueClaimDecides, ViolationExcludesOrder}
use Rattle.verdicts.specs.Verdicts.{IsEvidence}
use Rattle.claims.specs.declared.claimed.Claimed.TheVariants as claimed
use Rattle.claims.specs.declared.verdict.Verdict.TheVariants as found
use Rattle.value_match.specs.declared.matching.Matched.TheVariants as matched

-- a violation by places has the kind of the violation by operations
pub same_kind : (initial : List ℕ) (operations : List Operation) (violation : Violation) (full : FullViolation)
    → Names initial operations violation full
    → violation_kind violation ≡ kind_of full
same_kind initial operations (Fresh deq enq) (fresh d e) names = refl
same_kind initial operations (Repeat enq first second) (repeat e d d') names = refl
same_kind initial operations (Order enq_a enq_b deq_b deq_a) (order a b) names = refl
same_kind initial operations (Witness empty cover) (witness o lives) names = refl
same_kind initial operations _ _ names = absurd names

-- the shown operations are among those of the timeline
shown_among : (initial : List ℕ) (operations : List Operation) (places : List LinePlace) (listed : List Operation)
    → AllZip (IsShownAt initial operations) places listed → (o : Operation) → Contains listed o
    → Contains (timeline initial operations) o
shown_among initial operations places [] each o among = absurd (not_in_none o among)
shown_among initial operations [] (x ∷ listed) each o among = absurd each
shown_among initial operations (p ∷ places) (x ∷ listed) each o among = elim (contains_cons x listed o among) [
  | inl same ↦ subst (Contains (timeline initial operations)) same each.0.1
  | inr later ↦ shown_among initial operations places listed each.1 o later
]

-- the operations at places are those listed
pub operations_there : (operations : List Operation) (places : List ℕ) (listed : List Operation)
    → ArePlacesOf operations places listed
    → operations_at operations places ≡ listed
operations_there operations [] [] at = refl
operations_there operations (p ∷ places) (o ∷ listed) at =
    let first : slice_get operations p ≡ Some o = cc in
    let later : map (slice_get operations) places ≡ map (λ o. Some o) listed = cc in
    ap (λ (x : Option Operation). cons_option x (operations_at operations places)) first
    ∙ ap (λ (r : List Operation). o ∷ r) (operations_there operations places listed later)
operations_there operations _ _ at = cc

-- ---- evidence for a `NO`

-- operations of the timeline are stood for by their lines
each_stands : (initial : List ℕ) (operations listed : List Operation)
    → ((o : Operation) → Contains listed o → Contains (timeline initial operations) o)
    → AllZip (StandsFor initial operations) (map line_of listed) listed
each_stands initial operations [] among = tt
each_stands initial operations (o ∷ listed) among =
    ((among o (zero, omega arith, refl), refl), each_stands initial operations listed (λ x later. among x (one_deeper o listed x later)))

-- a violation of the timeline is evidence, by the places that name it
pub named_is_evidence : (initial : List ℕ) (operations : List Operation) (violation : Violation) (full : FullViolation)
    → length initial ≤ MAX_INITIAL
    → Names initial operations violation full → IsViolationOf (on (timeline initial operations)) full
    → IsEvidence initial operations (found.No violation)
named_is_evidence initial operations violation full few names is =
    let each = each_shown initial operations few violation full names in
    let shows = violation_shows initial operations few full (map line_of (lines_of full)) (each_stands initial operations (lines_of full)
    (shown_among initial operations (violation_places violation) (lines_of full) each)) is in (
      all_within initial operations few (violation_places violation) (lines_of full) each,
      subst (λ kind. Shows initial operations kind (lines_at initial operations (violation_places violation)))
          (sym (same_kind initial operations violation full names))
          (subst (Shows initial operations (kind_of full)) (sym (shown_lines initial operations few (violation_places violation) (lines_of full) each)) shows),
    )

-- lines that show a violation leave no linearization
pub shown_excludes_order : (initial : List ℕ) (operations : List Operation) (kind : ViolationKind)
    (lines : List ClaimLine)
    → AreComplete (timeline initial operations) → Shows initial operations kind lines → ¬ (IsLinearizable initial operations)
shown_excludes_order initial operations kind lines complete shows =
    let shown = shown_violation initial operations (few_initial initial operations complete) complete kind lines shows in
    violation_excludes_order initial operations shown.full complete shown.violates

-- the claim of evidence is true
pub evidence_is_true : EvidenceIsTrueClaim
evidence_is_true initial events (found.Yes places) whole few is =
    subst (IsLegalOrder initial (operations_of events)) (sym (operations_there (operations_of events) places is.0 is.1)) is.2
evidence_is_true initial events (found.No violation) whole few is = is.1

-- evidence for a `NO` leaves no linearization
pub evidence_excludes_order : ViolationExcludesOrder
evidence_excludes_order initial events violation whole few is =
    shown_excludes_order initial (operations_of events) _ _ (timeline_is_complete initial events whole few) is.1

-- a history has a linearization if and only if there is no evidence against it
pub linearizable_exactly : LinearizableExactly
linearizable_exactly initial events whole few = (
  λ exists violation is. evidence_excludes_order initial events violation whole few is exists,
  λ none. linearizable_without initial operations (timeline_is_complete initial events whole few) (λ full is.
      let found = violation_at initial operations few full is (lines_are_operations (timeline initial operations) full is) in
      none found.0 (named_is_evidence initial operations found.0 full few found.1 is)),
)
  where
    operations : List Operation
    operations = operations_of events

-- a true claim decides: a linearization that it lists exists, and a violation that it shows leaves none
pub true_claim_decides : TrueClaimDecides
true_claim_decides initial events (claimed.Yes lines) complete few legal = (lines, legal)
true_claim_decides initial events (claimed.No kind lines) complete few claim =
    shown_excludes_order initial (operations_of events) kind lines (timeline_is_complete initial events complete few) claim

-- a chosen violation decides a history
pub no_is_decided : (initial : List ℕ) (operations : List Operation) (violation : Violation)
    → IsOfHistory initial operations
    → IsChosenViolation initial operations violation → IsDecided initial operations (found.No violation)
no_is_decided initial operations violation is_history chosen =
    let (few, complete) = timeline_of_history initial operations is_history in
    let there = chosen_of (course initial operations) (on (timeline initial operations)) (course_on initial operations) chosen.0 chosen.2 in
    let full = chosen_is_violation (timeline initial operations) chosen.0 complete there in
    let evidence = named_is_evidence initial operations violation chosen.0 few chosen.1 full in record {
      chosen = chosen;
      evidence = evidence;
      exact = violation_excludes_order initial operations chosen.0 complete full;
      places = evidence.0;
    }

-- a violation that matching returns is the chosen one, so it decides the history
pub refused_is_decided : (initial : List ℕ) (operations : List Operation) (answer : Matched) (violation : Violation)
    → IsOfHistory initial operations → IsMatched initial operations answer
    → (answer ≡ matched.Fresh violation) ⊎ (answer ≡ matched.Repeat violation)
    → IsDecided initial operations (found.No violation)
refused_is_decided initial operations answer violation is_history is failed = no_is_decided initial operations violation is_history (elim failed [
  | inl same ↦ let h = subst (IsMatched initial operations) same is in (fresh h.0 h.1, h.2, h.3)
  | inr same ↦ let h = subst (IsMatched initial operations) same is in (repeat h.0 h.1 h.2, h.3, h.4)
])

-- a matching that is returned has neither of the first two kinds of violation
pub matching_is_clear : (initial : List ℕ) (operations : List Operation) (answer : Matched) (matching : Contents)
    → IsMatched initial operations answer
    → answer ≡ matched.Clear matching → IsClear (course_of matching)
matching_is_clear initial operations answer matching is same =
    let found = subst (IsMatched initial operations) same is in subst (λ m. IsClear (course_of m)) (sym found.0) found.1
