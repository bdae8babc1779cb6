use Rattle.std.proofs.Common.{◌≡◌, length}
use Rattle.comparison.proofs.tests.histories.covered_history.Given as goal

abbrev pub invariant-loop : goal.invariant-loop
invariant-loop l = length l.machine.threads ≡ 2
