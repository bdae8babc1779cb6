use Rattle.std.proofs.Common.{◌≡◌, length}
use Rattle.comparison.proofs.tests.histories.take_round.Given as goal

abbrev pub invariant-loop-thread : goal.invariant-loop-thread
invariant-loop-thread l = length l.machine.threads ≡ length l.fn.machine.threads
