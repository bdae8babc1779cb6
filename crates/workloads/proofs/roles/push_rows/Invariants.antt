use Rattle.std.proofs.Common.{◌≡◌, ◌++◌, replicate}
use Rattle.workloads.proofs.roles.push_rows.Given as goal

abbrev pub invariant-loop : goal.invariant-loop
invariant-loop l = l.rows.items ≡ l.fn.rows.items ++ replicate l.counter (replicate l.operations l.kind)
