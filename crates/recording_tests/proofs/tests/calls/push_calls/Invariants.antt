use Rattle.std.proofs.Common.{◌≡◌}
use Rattle.recording_tests.proofs.tests.calls.push_calls.Given as goal

abbrev pub invariant-loop : goal.invariant-loop
invariant-loop l = (l.push.thread ≡ l.fn.push.thread) × (l.push.ring ≡ l.fn.push.ring)
