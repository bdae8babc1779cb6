use Rattle.std.proofs.Common.{◌≡◌, length}
use Rattle.comparison.proofs.tests.histories.move_on.Given as goal

abbrev pub invariant-loop : goal.invariant-loop
invariant-loop l = length l.machine.threads ≡ length l.fn.machine.threads
