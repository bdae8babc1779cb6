use Rattle.std.proofs.Common.{◌≡◌, ◌+◌, ◌++◌, take}
use Rattle.completions.specs.Completed.{returns_from}
use Rattle.completions.proofs.completion.push_returns.Given as goal

abbrev pub invariant-loop-answer : goal.invariant-loop-answer
invariant-loop-answer l = record {
  added : l.full.items ≡ l.fn.full.items ++ returns_from l.fn.ticket (take l.answer-index l.answers);
  ticket : l.ticket ≡ l.fn.ticket + l.answer-index;
}
