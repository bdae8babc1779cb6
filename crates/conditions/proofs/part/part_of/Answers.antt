use Rattle.std.proofs.Common.{subst, sym, List, ℕ}
use Rattle.history_merge.specs.Parts.{IsPartAt}
use Rattle.conditions.proofs.Parts.{events_selected, part_is, stands_there}
use Rattle.conditions.proofs.part.part_of.Goals as goal

pub part_at-requires-clause-part : goal.part_at-requires-clause-part
part_at-requires-clause-part c =
    let whole = c.args.history.now in
    let operations = c.operations-operations.ensures in
    let selected = c.requires.selected in
    let initial = c.args.initial.items in (
      events_selected whole operations.from selected.0 selected.1 initial c.args.places.items selected.2,
      subst (λ (ps : List ℕ). IsPartAt whole initial ps (events_selected whole operations.from selected.0 selected.1 initial c.args.places.items selected.2))
          (sym c.as_slice.ensures.value)
          (stands_there whole operations.from selected.0 selected.1 initial c.args.places.items selected.2 operations.few_events),
    )

pub returns : goal.returns
returns c = λ values empties selected.
    let whole = c.args.history.now in
    let operations = c.operations-operations.ensures in
    let initial = c.args.initial.items in
    let places = c.args.places.items in
    let there = subst (λ (ps : List ℕ). IsPartAt whole initial ps (events_selected whole operations.from values empties initial places selected)) (sym c.as_slice.ensures.value)
    (stands_there whole operations.from values empties initial places selected operations.few_events) in
    part_is whole operations.from values empties initial places selected _ c.in_ok-history.ensures.initial (c.in_ok-history.ensures.events _ there) (λ i. places)
