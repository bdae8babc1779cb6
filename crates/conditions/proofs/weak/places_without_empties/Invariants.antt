use Rattle.std.proofs.Common.{false, take, true}
use Rattle.std.specs.Prelude.{filter}
use Rattle.history_merge.specs.Legal.{ArePlacesOf}
use Rattle.verdicts.specs.Selection.{selects}
use Rattle.conditions.proofs.weak.places_without_empties.Given as goal

abbrev pub invariant-loop-place : goal.invariant-loop-place
invariant-loop-place l = ArePlacesOf l.operations l.places.items (filter (selects (λ value. true) (λ call. false)) (take l.place l.operations))
