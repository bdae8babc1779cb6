use Rattle.std.proofs.Common.{◌≡◌, length}
use Rattle.recording_tests.proofs.tests.machine.take_all.Given as goal

abbrev pub invariant-loop-step : goal.invariant-loop-step
invariant-loop-step g l = length l.machine.threads ≡ length l.fn.machine.threads
