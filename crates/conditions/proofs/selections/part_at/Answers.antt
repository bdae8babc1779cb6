use Rattle.std.proofs.Common.{◌≡◌, ◌∙◌, ap, subst, sym, List, ℕ}
use Rattle.std.proofs.lemmas.Result.{IfOk-weaker}
use Rattle.history_merge.specs.Initial.{HistoryView}
use Rattle.history_merge.specs.Legal.{ArePlacesOf}
use Rattle.history_merge.specs.Operations.{operations_of}
use Rattle.verdicts.specs.Selection.{contents_of}
use Rattle.conditions.specs.declared.producer.Emptiness.{Emptiness}
use Rattle.conditions.specs.declared.producer.Producer.{Producer}
use Rattle.conditions.specs.Conditions.{counts_for, judges_empties, selection_of}
use Rattle.conditions.specs.Inner.Parts.{AreSelected, initial_of}
use Rattle.conditions.proofs.Producing.{initial_selected}
use Rattle.conditions.proofs.selections.part_at.Goals as goal

selected : (whole : HistoryView) (emptiness : Emptiness) (p : Producer) (read own places copied : List ℕ)
    → own ≡ initial_of p read
    → read ≡ whole.initial → copied ≡ places
    → ArePlacesOf (operations_of whole.events) places (selection_of emptiness p (contents_of whole)).operations
    → AreSelected (contents_of whole) (counts_for (contents_of whole) p) (λ call. judges_empties emptiness) own copied
selected whole emptiness p read own places copied is_own is_read is_copy at = record {
  initial_values = is_own ∙ ap (initial_of p) is_read ∙ sym (initial_selected (contents_of whole) p);
  operations = subst (λ ps. ArePlacesOf (operations_of whole.events) ps (selection_of emptiness p (contents_of whole)).operations) (sym is_copy) at;
}

pub part_of-requires-clause-selected : goal.part_of-requires-clause-selected
part_of-requires-clause-selected c =
    let whole = c.args.history.now in
    let emptiness = c.requires.0 in (
      counts_for (contents_of whole) c.args.producer,
      (λ call. judges_empties emptiness),
      selected whole emptiness c.args.producer _ c.in_ok-initial.initial.items c.args.places.now c.in_ok-copied.copied.items c.in_ok-initial.ensures
          c.initial.ensures.initial c.in_ok-copied.ensures.items c.requires.1,
    )

pub returns : goal.returns
returns c =
    let whole = c.args.history.now in
    let p = c.args.producer in
    IfOk-weaker c.part_of.result _ _ (λ part is. λ emptiness at.
    is (counts_for (contents_of whole) p) (λ call. judges_empties emptiness)
    (selected whole emptiness p _ c.in_ok-initial.initial.items c.args.places.now c.in_ok-copied.copied.items c.in_ok-initial.ensures
    c.initial.ensures.initial c.in_ok-copied.ensures.items at))
    c.part_of.ensures
