use Rattle.std.proofs.Common.{◌≡◌, take}
use Rattle.std.specs.Prelude.{filter}
use Rattle.completions.specs.Completed.{calls_dequeue}
use Rattle.completions.proofs.answers.dequeue_calls.Given as goal

abbrev pub invariant-loop-call : goal.invariant-loop-call
invariant-loop-call l = l.dequeues.items ≡ filter calls_dequeue (take l.call-index l.calls)
