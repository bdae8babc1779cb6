use Rattle.std.proofs.Common.{flat_map, take, ◌++◌, ◌≡◌}
use Rattle.claims.specs.Shown.{places_of_step}
use Rattle.claims.proofs.shown.push_cover.Given as goal

abbrev pub invariant-loop-step : goal.invariant-loop-step
invariant-loop-step l = l.places.items ≡ l.initial.places.items ++ flat_map places_of_step (take l.step-index l.step-items)
