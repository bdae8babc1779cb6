use Rattle.std.proofs.Common.{◌≡◌, ◌+◌, ◌*◌}
use Rattle.recording_tests.proofs.tests.drawing.split_and_join.Given as goal

abbrev pub invariant-loop : goal.invariant-loop
invariant-loop l = (l.pass.key ≡ l.fn.pass.key) × (l.pass.left + 2 * l.counter ≡ l.fn.pass.left)
