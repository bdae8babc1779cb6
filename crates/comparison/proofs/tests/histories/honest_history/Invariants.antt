use Rattle.std.proofs.Common.{◌≡◌, length}
use Rattle.comparison.proofs.tests.histories.honest_history.Given as goal

abbrev pub invariant-loop-round : goal.invariant-loop-round
invariant-loop-round l = length l.machine.threads ≡ 4
