-- Verdicts and claims under a condition: one of each history, and evidence.
use Rattle.std.proofs.Common.{◌≡◌, ◌∙◌, ◌≤◌, ◌∷◌, [], ap, Bool, false, true, length, List, map, sym, subst, ℕ}
use Rattle.std.proofs.lemmas.List.{map-append}
use Rattle.std.proofs.lemmas.List.Elements.{All-append, All-head, All-nil, All-tail, All-weaker}
use Rattle.std.specs.Prelude.{All, flat_map}
use Rattle.command_words.specs.declared.options.Condition.{Condition}
use Rattle.commands.specs.Conditions.{IsDecidedBy, IsDecidedUnder, IsRefutedBy, IsTrueBy, IsTrueUnder, Meets, MeetsBy, emptiness_if}
use Rattle.conditions.specs.ClaimLaws.{claim_on}
use Rattle.conditions.specs.Claims.{IsTrueOf, verdict_of}
use Rattle.conditions.specs.Conditions.{selection_of}
use Rattle.conditions.specs.Decided.{IsDecidedOf, IsLocallyDecided}
use Rattle.conditions.specs.declared.local.LocalOrder.{LocalOrder}
use Rattle.conditions.specs.declared.local.LocalVerdict.{LocalVerdict}
use Rattle.conditions.specs.declared.local.LocalVerdict.TheVariants as local
use Rattle.conditions.specs.declared.producer.Emptiness.{Emptiness}
use Rattle.conditions.proofs.ClaimLaws.{first_refuted_is_one, local_evidence_is_a_true_claim, local_verdict_is_one}
use Rattle.conditions.proofs.ClaimLaws.{refuted_is_refuted_in_the_whole, weak_evidence_is_a_true_claim, weak_verdict_is_one}
use Rattle.conditions.proofs.Weaker.{conditions_are_weaker}
use Rattle.event_records.specs.declared.limits.TheConstants.{MAX_INITIAL}
use Rattle.history_merge.specs.Initial.{Contents, HistoryView, IsCompleteFrom}
use Rattle.value_match.specs.declared.violation.Violation.{Violation}
use Rattle.claims.specs.Claiming.{IsPlaceWithin, IsWithin}
use Rattle.claims.specs.declared.shown.LinePlace.TheVariants.{Op}
use Rattle.verdicts.specs.Selection.{AreLinearizable, contents_of}
use Rattle.claims.specs.declared.verdict.Verdict.{Verdict}
use Rattle.claims.specs.declared.verdict.Verdict.TheVariants.{No, Yes}
use Rattle.claims.specs.declared.claimed.ClaimLine.{ClaimLine}
use Rattle.claims.specs.declared.claimed.Claimed.{Claimed}
use Rattle.claims.specs.declared.claimed.Claimed.TheVariants as claim
use Rattle.claims.specs.declared.claimed.ViolationKind.{ViolationKind}
use Rattle.verdicts.proofs.OneVerdict.{verdict_is_one}
use Rattle.verdicts.proofs.TrueClaims.{evidence_is_true}

-- a verdict says whether this is so
abbrev SaysWhether : Type 0 → Verdict → Type 0
SaysWhether P (Yes places) = P
SaysWhether P (No violation) = ¬ P

module _ (history : HistoryView) (complete : IsCompleteFrom history.initial history.events) (few : length history.initial ≤ MAX_INITIAL) where
  abbrev whole : Contents
  whole = contents_of history

  -- ---- one verdict

  one_by : (is_local is_weak : Bool) (x y : Verdict) → IsDecidedBy is_local is_weak whole x → IsDecidedBy is_local is_weak whole y
      → claim_on whole x ≡ claim_on whole y
  one_by false false x y of_x of_y =
      ap (claim_on whole) (verdict_is_one history.initial history.events x y complete few of_x.chosen of_x.exact of_y.chosen of_y.exact)
  one_by false true x y of_x of_y = weak_verdict_is_one history x y complete few of_x of_y
  one_by true is_weak x y of_x of_y =
      ap (claim_on whole) of_x.2 ∙ local_verdict_is_one (emptiness_if is_weak) history of_x.0 of_y.0 complete few of_x.1 of_y.1
      ∙ sym (ap (claim_on whole) of_y.2)

  -- two verdicts under one condition claim the same
  pub one_claim_under : (condition : Condition) (x y : Verdict) → IsDecidedUnder condition history x → IsDecidedUnder condition history y
      → claim_on whole x ≡ claim_on whole y
  one_claim_under condition = one_by condition.is_local condition.is_weakly_empty

  -- ---- evidence

  true_by : (is_local is_weak : Bool) (verdict : Verdict) → IsDecidedBy is_local is_weak whole verdict → IsTrueBy is_local is_weak whole (claim_on whole verdict)
  true_by false false verdict decided = evidence_is_true history.initial history.events verdict complete few decided.evidence
  true_by false true verdict decided = weak_evidence_is_a_true_claim whole verdict decided
  true_by true is_weak verdict decided =
      subst (λ v. IsTrueBy true is_weak whole (claim_on whole v)) (sym decided.2)
      (local_evidence_is_a_true_claim (emptiness_if is_weak) whole decided.0 decided.1)

  -- the claim of a verdict under a condition is evidence
  pub true_under : (condition : Condition) (verdict : Verdict) → IsDecidedUnder condition history verdict
      → IsTrueUnder condition history (claim_on whole verdict)
  true_under condition = true_by condition.is_local condition.is_weakly_empty

  -- ---- what it says

  says_locally : (is_weak : Bool) (found : LocalVerdict) → IsLocallyDecided (emptiness_if is_weak) whole found
      → SaysWhether (MeetsBy true is_weak whole) (verdict_of found)
  says_locally is_weak (local.Yes orders) decided = decided.linearizable
  says_locally is_weak (local.No p violation) decided = λ all. decided.decided.exact (all p)

  says_by : (is_local is_weak : Bool) (verdict : Verdict) → IsDecidedBy is_local is_weak whole verdict → SaysWhether (MeetsBy is_local is_weak whole) verdict
  says_by false false (Yes places) decided = decided.exact
  says_by false false (No violation) decided = decided.exact
  says_by false true (Yes places) decided = decided.exact
  says_by false true (No violation) decided = decided.exact
  says_by true is_weak verdict decided = subst (SaysWhether (MeetsBy true is_weak whole)) (sym decided.2) (says_locally is_weak decided.0 decided.1)

  -- a `YES` says that the condition is met
  pub yes_meets : (condition : Condition) (places : List ℕ) → IsDecidedUnder condition history (Yes places) → Meets condition history
  yes_meets condition places decided = says_by condition.is_local condition.is_weakly_empty (Yes places) decided

  meets_by : (is_local is_weak : Bool) → AreLinearizable whole → MeetsBy is_local is_weak whole
  meets_by false false linearizable = linearizable
  meets_by false true linearizable = (conditions_are_weaker history complete few linearizable).0
  meets_by true is_weak linearizable = (conditions_are_weaker history complete few linearizable).1 (emptiness_if is_weak)

  -- a linearizable history has no `NO` under any condition
  pub no_is_not_linearizable : (condition : Condition) (violation : Violation) → IsDecidedUnder condition history (No violation) → ¬ (AreLinearizable whole)
  no_is_not_linearizable condition violation decided linearizable =
      says_by condition.is_local condition.is_weakly_empty (No violation) decided (meets_by condition.is_local condition.is_weakly_empty linearizable)

-- ---- a `NO`

in_whole_by : (is_local is_weak : Bool) (whole : Contents) (kind : ViolationKind) (lines : List ClaimLine)
    → IsTrueBy is_local is_weak whole (claim.No kind lines) → IsTrueOf whole (claim.No kind lines)
in_whole_by false false whole kind lines shown = shown
in_whole_by false true whole kind lines shown = (refuted_is_refuted_in_the_whole whole kind lines).1 shown
in_whole_by true is_weak whole kind lines shown = (refuted_is_refuted_in_the_whole whole kind lines).0 (emptiness_if is_weak) shown

-- it is evidence in the whole history
pub no_is_of_the_whole : (condition : Condition) (history : HistoryView) (kind : ViolationKind) (lines : List ClaimLine)
    → IsTrueUnder condition history (claim.No kind lines) → IsTrueOf (contents_of history) (claim.No kind lines)
no_is_of_the_whole condition history = in_whole_by condition.is_local condition.is_weakly_empty (contents_of history)

-- it is found in one part
pub one_refuted : (is_local is_weak : Bool) (whole x y : Contents) → IsRefutedBy is_local is_weak whole x → IsRefutedBy is_local is_weak whole y → x ≡ y
one_refuted false false whole x y of_x of_y = of_x ∙ sym of_y
one_refuted false true whole x y of_x of_y = of_x ∙ sym of_y
one_refuted true is_weak whole x y of_x of_y =
    let same = first_refuted_is_one (emptiness_if is_weak) whole of_x.0 of_y.0 of_x.1 of_y.1 of_x.2 of_y.2 in
    of_x.3 ∙ ap (λ p. selection_of (emptiness_if is_weak) p whole) same ∙ sym of_y.3

-- ---- places

-- the orders of a local verdict have places of the history, one after another too
orders_within : (whole : Contents) (orders : List LocalOrder)
    → All (λ x. IsWithin whole.initial whole.operations (Yes x.order)) orders
    → IsWithin whole.initial whole.operations (Yes (flat_map (λ (x : LocalOrder). x.order) orders))
orders_within whole [] each = All-nil (IsPlaceWithin whole.initial whole.operations)
orders_within whole (x ∷ orders) each =
    let Within = λ (x : LocalOrder). IsWithin whole.initial whole.operations (Yes x.order) in
    subst (All (IsPlaceWithin whole.initial whole.operations)) (sym (map-append Op x.order (flat_map (λ (x : LocalOrder). x.order) orders)))
    (All-append (IsPlaceWithin whole.initial whole.operations) (map Op x.order) (map Op (flat_map (λ (x : LocalOrder). x.order) orders))
    (All-head Within x orders each) (orders_within whole orders (All-tail Within x orders each)))

-- a local verdict has places of the history
pub within_locally : (emptiness : Emptiness) (whole : Contents) (found : LocalVerdict) → IsLocallyDecided emptiness whole found
    → IsWithin whole.initial whole.operations (verdict_of found)
within_locally emptiness whole (local.Yes orders) decided =
    orders_within whole orders (All-weaker (λ x. IsDecidedOf whole (selection_of emptiness x.producer whole) (Yes x.order))
    (λ x. IsWithin whole.initial whole.operations (Yes x.order)) (λ x is. is.places) orders decided.decided)
within_locally emptiness whole (local.No p violation) decided = decided.decided.places
