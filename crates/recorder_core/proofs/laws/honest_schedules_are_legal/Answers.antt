use Rattle.recorder_core.proofs.Legal.{effects_order_is_legal}
use Rattle.recorder_core.proofs.laws.honest_schedules_are_legal.Goals as goal

pub returns : goal.returns
returns c = λ setting schedule merged few honest done is. effects_order_is_legal setting schedule merged few honest done is
