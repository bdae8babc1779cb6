use Rattle.std.proofs.Common.{◌≡◌, length}
use Rattle.comparison.proofs.tests.histories.end_all.Given as goal

abbrev pub invariant-loop-thread : goal.invariant-loop-thread
invariant-loop-thread l = length l.machine.threads ≡ length l.fn.machine.threads
