-- The places of a violation, in two parts.
use Rattle.std.specs.Prelude.{List, [], ◌∷◌, flat_map}
use Rattle.value_match.specs.declared.violation.Violation.{Violation}
use Rattle.value_match.specs.declared.violation.Violation.TheVariants.{Fresh, Repeat, Order, Witness}
use Rattle.claims.specs.declared.shown.LinePlace.{LinePlace}
use Rattle.claims.specs.declared.shown.LinePlace.TheVariants.{Op}
use Rattle.claims.specs.Shown.{maybe_place, place_of_source, places_of_step}

-- the places that a violation of this kind always names
abbrev pub first_places : Violation → List LinePlace
first_places (Fresh deq enq) = Op deq ∷ []
first_places (Repeat enq first second) = place_of_source enq ∷ Op first ∷ Op second ∷ []
first_places (Order enq_a enq_b deq_b deq_a) = place_of_source enq_a ∷ place_of_source enq_b ∷ Op deq_b ∷ []
first_places (Witness empty cover) = Op empty ∷ []

-- the places that follow
abbrev pub later_places : Violation → List LinePlace
later_places (Fresh deq enq) = maybe_place enq
later_places (Repeat enq first second) = []
later_places (Order enq_a enq_b deq_b deq_a) = maybe_place deq_a
later_places (Witness empty cover) = flat_map places_of_step cover
