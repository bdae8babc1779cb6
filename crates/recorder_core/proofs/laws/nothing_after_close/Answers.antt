use Rattle.recorder_core.proofs.Closing.{closes}
use Rattle.recorder_core.specs.Schedule.{reply, done_of, accepted}
use Rattle.std.proofs.Common.{ap, ◌++◌, ◌∷◌}
use Rattle.recorder_core.proofs.laws.nothing_after_close.Goals as goal

pub returns : goal.returns
returns c = λ setting before later close attempt is none open_step.
    ap (λ r. reply r (done_of setting attempt.step (accepted setting (later ++ close ∷ before)))) (closes setting before later close attempt is none open_step)
