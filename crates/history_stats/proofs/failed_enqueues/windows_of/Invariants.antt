use Rattle.std.proofs.Common.{◌≡◌, ◌++◌}
use Rattle.history_stats.specs.Inner.FailedEnqueues.{windows_of}
use Rattle.history_stats.proofs.failed_enqueues.windows_of.Given as goal

abbrev pub invariant-loop-operation : goal.invariant-loop-operation
invariant-loop-operation l =
    l.windows.items ++ windows_of l.first l.arrivals l.departures l.operation-iterator ≡ windows_of l.first l.arrivals l.departures l.operations
