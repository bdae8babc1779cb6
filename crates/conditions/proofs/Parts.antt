-- The events of a selection.
use Rattle.std.proofs.Common.{◌≡◌, ℕ, ◌+◌, ◌≤◌, ◌++◌, Bool, true, false, cond, List, [], ◌∷◌, length}
use Rattle.std.proofs.Common.{take, map, Some, refl, ap, ap₂, sym, subst, ◌∙◌, arith}
use Rattle.std.specs.Prelude.{filter, slice_get}
use Rattle.std.proofs.lemmas.List.{append-nil, map-append}
use Rattle.std.proofs.lemmas.List.Elements.{filter-append}
use Rattle.std.proofs.lemmas.Option.{get_or_from_slice_get, slice_get_within}
use Rattle.event_records.specs.declared.event.Event.{Event}
use Rattle.event_records.specs.declared.limits.TheConstants.{MAX_EVENTS}
use Rattle.history_merge.specs.declared.operation.Operation.{Operation}
use Rattle.history_merge.specs.declared.operation.OpKind.TheVariants.{DequeueEmpty}
use Rattle.history_merge.specs.Initial.{HistoryView, IsCompleteFrom}
use Rattle.history_merge.specs.Legal.{ArePlacesOf}
use Rattle.history_merge.specs.Operations.{operations_of}
use Rattle.value_match.proofs.Lists.{one_more}
use Rattle.verdicts.specs.Inner.Selecting.{holds_ticket}
use Rattle.verdicts.specs.Selection.{contents_of, select, selects}
use Rattle.history_merge.proofs.Lists.{no_longer}
use Rattle.verdicts.proofs.Selections.{events_kept, kept_is_complete_from, operations_kept}
use Rattle.conditions.specs.Inner.Parts.{AreSelected, IsPart}
use Rattle.history_merge.specs.Parts.{IsPartAt}
use Rattle.conditions.specs.declared.part.Part.{Part}

-- ---- walks over places

-- an operation for places past the end of a list
abbrev pub past_end : Operation
past_end = record { call = 0; ret = 0; thread = 0; kind = DequeueEmpty }

module _ (test : Operation → Bool) (operations : List Operation) (i : ℕ) (o : Operation)
    (at : slice_get operations i ≡ Some o) where
  one_further : filter test (take (i + 1) operations) ≡ filter test (take i operations) ++ cond (test o) (o ∷ []) []
  one_further =
      ap (filter test) (one_more operations i o (slice_get_within operations i o at) (sym (get_or_from_slice_get operations i o o at)))
      ∙ filter-append test (take i operations) (o ∷ [])

  -- the place of one more operation that passes
  pub places_more : (before now : List ℕ) → test o ≡ true → now ≡ before ++ i ∷ []
      → ArePlacesOf operations before (filter test (take i operations))
      → ArePlacesOf operations now (filter test (take (i + 1) operations))
  places_more before now passes is are =
      ap (map (slice_get operations)) is ∙ map-append (slice_get operations) before (i ∷ [])
      ∙ ap₂ (λ xs ys. xs ++ ys) are (ap (λ x. x ∷ []) at)
      ∙ sym (map-append (λ x. Some x) (filter test (take i operations)) (o ∷ []))
      ∙ ap (map (λ x. Some x)) (sym (one_further ∙ ap (λ (b : Bool). filter test (take i operations) ++ cond b (o ∷ []) []) passes))

  -- one more operation that doesn't pass
  pub places_same : (before : List ℕ) → test o ≡ false
      → ArePlacesOf operations before (filter test (take i operations))
      → ArePlacesOf operations before (filter test (take (i + 1) operations))
  places_same before fails are =
      are ∙ ap (map (λ x. Some x)) (sym (one_further ∙ ap (λ (b : Bool). filter test (take i operations) ++ cond b (o ∷ []) []) fails
      ∙ append-nil (filter test (take i operations))))

-- ---- the part of a selection

module _ (whole : HistoryView) (complete : IsCompleteFrom whole.initial whole.events) (values empties : ℕ → Bool) (initial places : List ℕ)
    (selected : AreSelected (contents_of whole) values empties initial places) where
  abbrev test : Operation → Bool
  test = selects values empties

  abbrev operations : List Operation
  operations = filter test (operations_of whole.events)

  abbrev pub events_selected : List Event
  events_selected = events_kept whole.initial whole.events complete values test

  is_complete : IsCompleteFrom (filter values whole.initial) events_selected
  is_complete = kept_is_complete_from whole.initial whole.events complete values test

  pub few_selected : length whole.events ≤ MAX_EVENTS → length events_selected ≤ MAX_EVENTS
  few_selected few = let shorter = no_longer (λ (e : Event). holds_ticket operations e.ticket) whole.events in omega arith

  pub complete_selected : IsCompleteFrom initial events_selected
  complete_selected = subst (λ vs. IsCompleteFrom vs events_selected) (sym selected.initial_values) is_complete

  -- its operations are at these places
  pub stands_there : length whole.events ≤ MAX_EVENTS → IsPartAt whole initial places events_selected
  stands_there few = record {
    complete = complete_selected;
    few = few_selected few;
    stand_there = subst (ArePlacesOf (operations_of whole.events) places) (sym (operations_kept whole.initial whole.events complete values test)) selected.operations;
  }

  pub part_is : (part : Part) → part.history.initial ≡ initial → part.history.events ≡ events_selected
      → part.places.items ≡ places
      → IsPart whole (select values empties (contents_of whole)) part
  part_is part is_initial is_events is_places =
      let values_are = is_initial ∙ selected.initial_values in
      let operations_are = ap operations_of is_events ∙ operations_kept whole.initial whole.events complete values test in record {
        contents = λ i. record { initial = values_are i; operations = operations_are i };
        events = ((λ e. holds_ticket operations e.ticket), is_events);
        complete = subst (λ es. IsCompleteFrom part.history.initial es) (sym is_events)
            (subst (λ vs. IsCompleteFrom vs events_selected) (sym is_initial) complete_selected);
        places = subst (λ ps. ArePlacesOf (operations_of whole.events) ps operations) (sym is_places) selected.operations;
      }

-- ---- all values are selected

pub all_pass : {X : Type 0} (xs : List X) → filter (λ x. true) xs ≡ xs
all_pass [] = refl
all_pass (x ∷ xs) = ap (λ ys. x ∷ ys) (all_pass xs)
