use Rattle.std.proofs.Common.{drop}
use Rattle.std.proofs.lemmas.List.{take-append-drop}
use Rattle.recorder_core.specs.Schedule.{drained, accepted, events}
use Rattle.recorder_core.proofs.laws.collected_is_a_prefix.Goals as goal

pub returns : goal.returns
returns c = λ setting schedule t.
    let steps = accepted setting schedule in
    (drop (drained t steps) (events setting t steps), take-append-drop (drained t steps) (events setting t steps))
