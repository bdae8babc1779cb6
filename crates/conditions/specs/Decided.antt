-- The verdict on a history under a weaker condition.
use Rattle.std.specs.Prelude.{◌≡◌, List, All, map}
use Rattle.history_merge.specs.declared.operation.Operation.{Operation}
use Rattle.history_merge.specs.Initial.{Contents}
use Rattle.history_merge.specs.Legal.{ArePlacesOf, IsLegalOrder}
use Rattle.value_match.specs.declared.violation.Violation.{Violation}
use Rattle.claims.specs.declared.verdict.Verdict.{Verdict}
use Rattle.claims.specs.declared.verdict.Verdict.TheVariants.{Yes, No}
use Rattle.claims.specs.Claiming.{IsWithin, claim_of, lines_at, violation_kind}
use Rattle.verdicts.specs.Decided.{IsDecided}
use Rattle.verdicts.specs.Selection.{AreLinearizable}
use Rattle.claims.specs.Shown.{violation_places}
use Rattle.verdicts.specs.Verdicts.{IsEvidence, IsExact}
use Rattle.conditions.specs.declared.local.LocalOrder.{LocalOrder}
use Rattle.conditions.specs.declared.local.LocalVerdict.{LocalVerdict}
use Rattle.conditions.specs.declared.local.LocalVerdict.TheVariants as local
use Rattle.conditions.specs.declared.producer.Emptiness.{Emptiness}
use Rattle.conditions.specs.declared.producer.Producer.{Producer}
use Rattle.conditions.specs.Conditions.{ComesBefore, IsLocallyLinearizable, producers_of, selection_of}
use Rattle.conditions.specs.Laws.{ShowsIn}

-- a `YES` lists a linearization of the selection; a `NO` is evidence in the whole history, and its lines show the
-- violation in the selection too
abbrev pub IsEvidenceOf : Contents → Contents → Verdict → Type 0
IsEvidenceOf whole selected (Yes places) =
    (order : List Operation) × ArePlacesOf whole.operations places order
    × IsLegalOrder selected.initial selected.operations order
IsEvidenceOf whole selected (No violation) = IsEvidence whole.initial whole.operations (No violation)
    × ShowsIn selected (violation_kind violation)
    (lines_at whole.initial whole.operations (violation_places violation))

-- the verdict, by places of the whole history, has the same claim as the chosen verdict on the selection
abbrev pub ClaimsAsChosen : Contents → Contents → Verdict → Type 0
ClaimsAsChosen whole selected verdict = (chosen : Verdict) × IsDecided selected.initial selected.operations chosen
    × (claim_of whole.initial whole.operations verdict ≡ claim_of selected.initial selected.operations chosen)

-- the verdict on a selection of a history, by places of the whole history: it is evidence, and exact
pub record IsDecidedOf (whole selected : Contents) (verdict : Verdict) : Type 0 where
  pub exact : IsExact selected.initial selected.operations verdict
  pub evidence : IsEvidenceOf whole selected verdict
  pub chosen : ClaimsAsChosen whole selected verdict
  pub places : IsWithin whole.initial whole.operations verdict

-- ---- local linearizability

-- a verdict for each producer of the history, in their order: a linearization of its selection; and the other
-- selections have one too
pub record AreLocalOrders (emptiness : Emptiness) (whole : Contents) (orders : List LocalOrder) : Type 0 where
  pub linearizable : IsLocallyLinearizable emptiness whole
  pub producers : map (λ x. x.producer) orders ≡ producers_of whole
  pub decided : All (λ x. IsDecidedOf whole (selection_of emptiness x.producer whole) (Yes x.order)) orders

-- the verdict on the selection of the first producer whose selection has no linearization
pub record IsFirstRefuted (emptiness : Emptiness) (whole : Contents) (p : Producer)
    (violation : Violation) : Type 0 where
  pub decided : IsDecidedOf whole (selection_of emptiness p whole) (No violation)
  pub first : (q : Producer) → ComesBefore q p → AreLinearizable (selection_of emptiness q whole)

-- `YES` with a linearization for each producer, or `NO` with the violation of the first that has none
abbrev pub IsLocallyDecided : Emptiness → Contents → LocalVerdict → Type 0
IsLocallyDecided emptiness whole (local.Yes orders) = AreLocalOrders emptiness whole orders
IsLocallyDecided emptiness whole (local.No p violation) = IsFirstRefuted emptiness whole p violation
