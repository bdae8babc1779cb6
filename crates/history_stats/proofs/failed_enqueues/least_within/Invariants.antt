use Rattle.std.proofs.Common.{◌≡◌, ◌+◌, ◌-◌, ◌<◌, ◌≤◌, false, length, true}
use Rattle.std.specs.List.{list_any}
use Rattle.history_stats.specs.Inner.FailedEnqueues.{stays_within}
use Rattle.history_stats.proofs.failed_enqueues.least_within.Given as goal

abbrev pub invariant-loop-least : goal.invariant-loop-least
invariant-loop-least l = record {
  room : length l.above ≡ length l.heights + 1;
  within : list_any (stays_within l.heights l.enough) l.windows ≡ true;
  least : 0 < l.least → list_any (stays_within l.heights (l.least - 1)) l.windows ≡ false;
  in_order : l.least ≤ l.enough;
}

abbrev pub decreases-loop-least : goal.decreases-loop-least
decreases-loop-least l = l.enough - l.least
