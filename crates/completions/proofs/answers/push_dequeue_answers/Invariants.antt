use Rattle.std.proofs.Common.{◌≡◌, ◌++◌, take}
use Rattle.completions.specs.Completed.{paired}
use Rattle.completions.proofs.answers.push_dequeue_answers.Given as goal

abbrev pub invariant-loop-place : goal.invariant-loop-place
invariant-loop-place l = l.answers.items ≡ l.fn.answers.items ++ paired (take l.place l.calls) (take l.place l.values)
