use Rattle.std.proofs.Common.{◌≡◌, [], length, take}
use Rattle.recorder_core.specs.Setting.{Setting}
use Rattle.recorder_core.specs.After.{IsAfter}
use Rattle.simulation.specs.Simulations.{schedule_of}
use Rattle.simulation.specs.Simulations as played
use Rattle.simulation.proofs.playing.take_all.Given as goal

abbrev pub invariant-loop-i : goal.invariant-loop-i
invariant-loop-i l =
    (length l.machine.threads ≡ length l.fn.machine.threads)
    × ((setting : Setting) → IsAfter setting l.fn.machine [] → IsAfter setting l.machine (schedule_of (take l.i l.steps))
    × (l.rejections.items ≡ played.rejections setting (schedule_of (take l.i l.steps))))
