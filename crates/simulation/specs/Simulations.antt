-- The steps of a schedule, tried one after another while memory doesn't run out.
use Rattle.std.specs.Prelude.{◌≡◌, ◌+◌, false, List, [], ◌∷◌, length, map, reverse}
use Rattle.std.specs.Result.{result_err}
use Rattle.std.specs.Option.{option_map}
use Rattle.recorder_core.specs.declared.step.Step.{Step}
use Rattle.recorder_core.specs.Setting.{Setting}
use Rattle.recorder_core.specs.Schedule.{Attempt, answer_to, with_last}
use Rattle.recorder_core.specs.Laws.{IsDone, collected_lists}
use Rattle.simulation.specs.declared.playing.Rejection.{Rejection}
use Rattle.simulation.specs.declared.playing.Ending.{Ending}
use Rattle.simulation.specs.declared.playing.Ending.TheVariants.{Open, Done}

-- a step that is tried, and for which memory doesn't run out
abbrev pub tried : Step → Attempt
tried step = record { step = step; starved = false }

-- the steps as a schedule, in which the latest comes first
abbrev pub schedule_of : List Step → List Attempt
schedule_of steps = reverse (map tried steps)

-- the refused steps of a schedule, in their order: the place of each, from 1, and the reason
abbrev pub rejections : Setting → List Attempt → List Rejection
rejections setting [] = []
rejections setting (attempt ∷ before) =
    with_last (rejections setting before) (option_map (λ reason. record { step = length before + 1; reason = reason })
    (result_err (answer_to setting before attempt)))

-- after the schedule the machine isn't done; or it is, and these lists are collected
abbrev pub EndsSo : Setting → List Attempt → Ending → Type 0
EndsSo setting schedule Open = ¬ (IsDone setting schedule)
EndsSo setting schedule (Done lists) = IsDone setting schedule × (lists ≡ collected_lists setting schedule)
