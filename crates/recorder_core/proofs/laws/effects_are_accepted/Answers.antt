use Rattle.recorder_core.specs.Schedule.{accepted}
use Rattle.recorder_core.proofs.Effects.{effects_accepted}
use Rattle.recorder_core.proofs.laws.effects_are_accepted.Goals as goal

pub returns : goal.returns
returns c = λ setting schedule. effects_accepted setting (accepted setting schedule)
