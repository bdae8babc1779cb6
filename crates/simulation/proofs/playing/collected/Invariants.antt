use Rattle.std.proofs.Common.{◌≡◌, List, map}
use Rattle.std.specs.List.{range_with_len}
use Rattle.recorder_core.specs.Setting.{Setting}
use Rattle.recorder_core.specs.Schedule.{Attempt}
use Rattle.recorder_core.specs.After.{IsAfter}
use Rattle.recorder_core.specs.Laws.{collected_in}
use Rattle.simulation.proofs.playing.collected.Given as goal

abbrev pub invariant-loop-thread : goal.invariant-loop-thread
invariant-loop-thread l =
    (setting : Setting) (schedule : List Attempt) → IsAfter setting l.machine schedule
    → map (λ list. list.items) l.lists.items ≡ map (collected_in setting schedule) (range_with_len 0 l.thread)
