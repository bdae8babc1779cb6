use Rattle.std.proofs.Common.{◌≡◌, ◌∙◌, ap, subst, sym, List, ℕ}
use Rattle.std.specs.Prelude.{filter}
use Rattle.std.proofs.lemmas.Result.{IfOk-weaker}
use Rattle.history_merge.specs.Initial.{HistoryView}
use Rattle.history_merge.specs.Legal.{ArePlacesOf}
use Rattle.history_merge.specs.Operations.{operations_of}
use Rattle.verdicts.specs.Selection.{contents_of}
use Rattle.conditions.specs.declared.producer.Emptiness.{Emptiness}
use Rattle.conditions.specs.declared.producer.Producer.{Producer}
use Rattle.conditions.specs.Conditions.{counts_for, judges_empties}
use Rattle.conditions.specs.Inner.Parts.{AreSelected, initial_of}
use Rattle.conditions.specs.Inner.Producers.{goes_to, share_of}
use Rattle.conditions.proofs.Producing.{initial_selected, selected_by_share}
use Rattle.conditions.proofs.local.part_for.Goals as goal

selected : (whole : HistoryView) (emptiness : Emptiness) (p : Producer) (read own places : List ℕ)
    → own ≡ initial_of p read → read ≡ whole.initial
    → ArePlacesOf (operations_of whole.events) places (filter (λ o. goes_to p (share_of (contents_of whole) emptiness o.kind)) (operations_of whole.events))
    → AreSelected (contents_of whole) (counts_for (contents_of whole) p) (λ call. judges_empties emptiness) own places
selected whole emptiness p read own places is_own is_read are = record {
  initial_values = is_own ∙ ap (initial_of p) is_read ∙ sym (initial_selected (contents_of whole) p);
  operations = subst (ArePlacesOf (operations_of whole.events) places) (selected_by_share (contents_of whole) p emptiness (operations_of whole.events)) are;
}

pub part_of-requires-clause-selected : goal.part_of-requires-clause-selected
part_of-requires-clause-selected c =
    let whole = c.args.history.now in (
      counts_for (contents_of whole) c.args.producer,
      (λ call. judges_empties c.args.emptiness),
      selected whole c.args.emptiness c.args.producer _ c.in_ok-initial.initial.items c.in_ok-places.places.items c.in_ok-initial.ensures c.initial.ensures.initial
          c.in_ok-places.ensures,
    )

pub returns : goal.returns
returns c =
    let whole = c.args.history.now in
    IfOk-weaker c.part_of.result _ _ (λ part is. is (counts_for (contents_of whole) c.args.producer) (λ call. judges_empties c.args.emptiness)
    (selected whole c.args.emptiness c.args.producer _ c.in_ok-initial.initial.items c.in_ok-places.places.items c.in_ok-initial.ensures c.initial.ensures.initial
    c.in_ok-places.ensures)) c.part_of.ensures
