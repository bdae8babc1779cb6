use Rattle.std.proofs.Common.{◌≡◌, false, take}
use Rattle.std.specs.List.{list_any}
use Rattle.history_stats.specs.Inner.FailedEnqueues.{stays_within}
use Rattle.history_stats.proofs.failed_enqueues.one_stays_within.Given as goal

abbrev pub invariant-loop-window : goal.invariant-loop-window
invariant-loop-window l = list_any (stays_within l.heights l.most) (take l.window-index l.windows) ≡ false
