use Rattle.std.proofs.Common.{◌≡◌, map, take}
use Rattle.conditions.specs.Inner.Moved.{moved_step}
use Rattle.conditions.proofs.moved.moved_steps.Given as goal

abbrev pub invariant-loop-step : goal.invariant-loop-step
invariant-loop-step l = l.moved.items ≡ map (moved_step l.places) (take l.step-index l.steps)
