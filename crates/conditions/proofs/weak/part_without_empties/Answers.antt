use Rattle.std.proofs.Common.{◌≡◌, ◌∙◌, subst, sym, true, false, List, ℕ}
use Rattle.history_merge.specs.Initial.{HistoryView}
use Rattle.history_merge.specs.Operations.{operations_of}
use Rattle.std.specs.Prelude.{filter}
use Rattle.std.proofs.lemmas.Result.{IfOk-weaker}
use Rattle.history_merge.specs.declared.operation.Operation.{Operation}
use Rattle.history_merge.specs.Legal.{ArePlacesOf}
use Rattle.verdicts.specs.Selection.{contents_of, selects}
use Rattle.conditions.specs.Inner.Parts.{AreSelected}
use Rattle.conditions.proofs.Parts.{all_pass}
use Rattle.conditions.proofs.weak.part_without_empties.Goals as goal

selected : (whole : HistoryView) (read copied : List ℕ) (from : List Operation) (places : List ℕ) → copied ≡ read
    → read ≡ whole.initial
    → from ≡ operations_of whole.events
    → ArePlacesOf from places (filter (selects (λ value. true) (λ call. false)) from)
    → AreSelected (contents_of whole) (λ value. true) (λ call. false) copied places
selected whole read copied from places is_copy is_read is_from are = record {
  initial_values = is_copy ∙ is_read ∙ sym (all_pass whole.initial);
  operations = subst (λ (os : List Operation). ArePlacesOf os places (filter (selects (λ value. true) (λ call. false)) os)) is_from are;
}

pub part_of-requires-clause-selected : goal.part_of-requires-clause-selected
part_of-requires-clause-selected c = (
  (λ value. true),
  (λ call. false),
  selected c.args.history.now _ c.in_ok-initial.initial.items _ c.in_ok-places.places.items c.in_ok-initial.ensures.items c.initial.ensures.initial
      c.operations.ensures.operations c.in_ok-places.ensures,
)

pub returns : goal.returns
returns c = IfOk-weaker c.part_of.result _ _ (λ part is. is (λ value. true) (λ call. false)
    (selected c.args.history.now _ c.in_ok-initial.initial.items _ c.in_ok-places.places.items c.in_ok-initial.ensures.items c.initial.ensures.initial
    c.operations.ensures.operations c.in_ok-places.ensures)) c.part_of.ensures
