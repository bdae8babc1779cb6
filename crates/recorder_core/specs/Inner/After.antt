-- The effect of one step on a machine.
use Rattle.std.specs.Prelude.{◌≡◌, List, ◌∷◌, length, Result}
use Rattle.std.specs.Prelude.{OnErr}
use Rattle.recorder_core.specs.declared.step.Step.{Step}
use Rattle.recorder_core.specs.declared.step.Done.{Done}
use Rattle.recorder_core.specs.declared.step.StepRefused.{StepRefused}
use Rattle.recorder_core.specs.Setting.{Setting}
use Rattle.recorder_core.specs.Schedule.{Attempt, answer_to}
use Rattle.recorder_core.specs.View.{MachineView}
use Rattle.recorder_core.specs.After.{IsAfter, attempt_at}

-- a machine takes a step: whichever schedule led to it, the result is what that schedule says, and the machine is
-- then as after that schedule with this attempt added
pub record TakesStep (old : MachineView) (step : Step) (result : Result Done StepRefused)
    (new : MachineView) : Type 0 where
  pub answered : (setting : Setting) (schedule : List Attempt) → IsAfter setting old schedule
      → result ≡ answer_to setting schedule (attempt_at step result)
  pub goes_on : (setting : Setting) (schedule : List Attempt) → IsAfter setting old schedule
      → IsAfter setting new (attempt_at step result ∷ schedule)
  pub unchanged : OnErr result (new ≡ old)
  pub threads : length new.threads ≡ length old.threads
