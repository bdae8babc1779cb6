use Rattle.std.proofs.Common.{length, ◌-◌, ◌+◌, ◌≤◌}
use Rattle.history_stats.specs.Inner.AtOnce.{count_before}
use Rattle.history_stats.proofs.at_once.gone_by.Given as goal

abbrev pub invariant-loop-gone : goal.invariant-loop-gone
invariant-loop-gone l = l.gone ≤ count_before (l.ticket + 1) l.departures

abbrev pub decreases-loop-gone : goal.decreases-loop-gone
decreases-loop-gone l = length l.departures - l.gone
