use Rattle.std.proofs.Common.{◌≡◌}
use Rattle.collector.specs.Ends.{rings_of}
use Rattle.stress_run.proofs.runs.collect_until.Given as goal

abbrev pub invariant-loop : goal.invariant-loop
invariant-loop l = rings_of l.collector.rings ≡ rings_of l.fn.collector.rings
