-- The selections of a linearizable history are linearizable.
use Rattle.std.proofs.Common.{◌≡◌, ℕ, ◌≤◌, Bool, true, false, List, length, subst, arith}
use Rattle.std.specs.Prelude.{filter}
use Rattle.event_records.specs.declared.event.Event.{Event}
use Rattle.event_records.specs.declared.limits.TheConstants.{MAX_INITIAL}
use Rattle.history_merge.specs.declared.operation.Operation.{Operation}
use Rattle.history_merge.specs.Initial.{HistoryView, IsCompleteFrom}
use Rattle.history_merge.specs.Legal.{IsLinearizable}
use Rattle.history_merge.specs.Operations.{operations_of}
use Rattle.claims.specs.Claiming.{lines_at, violation_kind}
use Rattle.verdicts.specs.Selection.{AreLinearizable, contents_of, selects}
use Rattle.claims.specs.Showing.{Shows}
use Rattle.claims.specs.Shown.{violation_places}
use Rattle.verdicts.specs.Verdicts.{IsEvidence}
use Rattle.claims.specs.declared.verdict.Verdict.TheVariants.{No}
use Rattle.claims.specs.declared.claimed.Claimed.TheVariants as claimed
use Rattle.value_match.specs.declared.violation.Violation.{Violation}
use Rattle.history_merge.proofs.Lists.{no_longer}
use Rattle.verdicts.proofs.Selections.{events_kept, kept_is_complete_from, operations_kept}
use Rattle.verdicts.proofs.TrueClaims.{linearizable_exactly, true_claim_decides}
use Rattle.conditions.specs.Laws.{ConditionsAreWeaker, SelectionsStayLinearizable}
use Rattle.conditions.specs.Conditions.{counts_for, judges_empties}
use Rattle.conditions.proofs.Showing.{violations_are_of_the_whole}

module _ (values empties : ℕ → Bool) (history : HistoryView) (complete : IsCompleteFrom history.initial history.events)
    (few : length history.initial ≤ MAX_INITIAL) (linearizable : AreLinearizable (contents_of history)) where
  abbrev initial : List ℕ
  initial = filter values history.initial

  abbrev events : List Event
  events = events_kept history.initial history.events complete values (selects values empties)

  abbrev operations : List Operation
  operations = filter (selects values empties) (operations_of history.events)

  same : operations_of events ≡ operations
  same = operations_kept history.initial history.events complete values (selects values empties)

  -- no evidence for a `NO` is in the selection
  no_evidence : (violation : Violation) → ¬ (IsEvidence initial (operations_of events) (No violation))
  no_evidence violation evidence =
      let kind = violation_kind violation in
      let lines = lines_at initial (operations_of events) (violation_places violation) in
      let shown : Shows initial operations kind lines = subst (λ os. Shows initial os kind lines) same evidence.1 in
      true_claim_decides history.initial history.events (claimed.No kind lines) complete few
      (violations_are_of_the_whole values empties (contents_of history) kind lines shown) linearizable

  selection_is_linearizable : IsLinearizable initial operations
  selection_is_linearizable =
      let shorter = no_longer values history.initial in
      subst (λ os. IsLinearizable initial os) same
      ((linearizable_exactly initial events (kept_is_complete_from history.initial history.events complete values (selects values empties)) (omega arith)).1
      no_evidence)

pub selections_stay_linearizable : SelectionsStayLinearizable
selections_stay_linearizable values empties history complete few linearizable = selection_is_linearizable values empties history complete few linearizable

pub conditions_are_weaker : ConditionsAreWeaker
conditions_are_weaker history complete few linearizable = (
  selections_stay_linearizable (λ value. true) (λ call. false) history complete few linearizable,
  λ emptiness p. selections_stay_linearizable (counts_for (contents_of history) p) (λ call. judges_empties emptiness) history complete few linearizable,
)
