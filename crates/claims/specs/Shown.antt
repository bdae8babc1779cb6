-- The places that a violation names, in the order in which they are shown.
use Rattle.std.specs.Prelude.{ℕ, List, [], ◌∷◌, Option, flat_map, option_map, option_to_list}
use Rattle.value_match.specs.declared.violation.CoverStep.{CoverStep}
use Rattle.value_match.specs.declared.life.Source.{Source}
use Rattle.value_match.specs.declared.life.Source.TheVariants as source
use Rattle.value_match.specs.declared.violation.Violation.{Violation}
use Rattle.value_match.specs.declared.violation.Violation.TheVariants.{Fresh, Repeat, Order, Witness}
use Rattle.claims.specs.declared.shown.LinePlace.{LinePlace}
use Rattle.claims.specs.declared.shown.LinePlace.TheVariants.{Op, Initial}

-- the place of a source: that of a successful enqueue, or of an initial value
abbrev pub place_of_source : Source → LinePlace
place_of_source (source.Enq place) = Op place
place_of_source (source.Initial place) = Initial place

-- the place of an operation, if there is one
abbrev pub maybe_place : Option ℕ → List LinePlace
maybe_place place = option_to_list (option_map Op place)

-- the places of a value of a cover
abbrev pub places_of_step : CoverStep → List LinePlace
places_of_step step = place_of_source step.source ∷ maybe_place step.dequeue

-- the places that a violation names, in the order in which they are shown
abbrev pub violation_places : Violation → List LinePlace
violation_places (Fresh deq enq) = Op deq ∷ maybe_place enq
violation_places (Repeat enq first second) = place_of_source enq ∷ Op first ∷ Op second ∷ []
violation_places (Order enq_a enq_b deq_b deq_a) =
    place_of_source enq_a ∷ place_of_source enq_b ∷ Op deq_b ∷ maybe_place deq_a
violation_places (Witness empty cover) = Op empty ∷ flat_map places_of_step cover
