-- A selection of a history, with the places of its operations.
use Rattle.std.specs.Prelude.{◌≡◌, ℕ, Bool, List, [], filter}
use Rattle.history_merge.specs.Initial.{Contents, HistoryView, IsCompleteFrom}
use Rattle.history_merge.specs.Legal.{ArePlacesOf}
use Rattle.verdicts.specs.Selection.{ArePartOf, contents_of, selects}
use Rattle.conditions.specs.declared.part.Part.{Part}
use Rattle.conditions.specs.declared.producer.Producer.{Producer}
use Rattle.conditions.specs.declared.producer.Producer.TheVariants.{Initial, Thread}

-- the initial values, and the operations at these places, are this selection of the history
pub record AreSelected (whole : Contents) (values empties : ℕ → Bool) (initial places : List ℕ) : Type 0 where
  pub initial_values : initial ≡ filter values whole.initial
  pub operations : ArePlacesOf whole.operations places (filter (selects values empties) whole.operations)

-- the part has these initial values and operations, some of the events, and the places of its operations in the whole
pub record IsPart (whole : HistoryView) (selected : Contents) (part : Part) : Type 0 where
  pub contents : contents_of part.history ≡ selected
  pub events : ArePartOf whole.events part.history.events
  pub complete : IsCompleteFrom part.history.initial part.history.events
  pub places : ArePlacesOf (contents_of whole).operations part.places.items selected.operations

-- the initial values of a producer's selection: all, or none
abbrev pub initial_of : Producer → List ℕ → List ℕ
initial_of Initial initial = initial
initial_of (Thread t) initial = []
