use Rattle.std.proofs.Common.{◌≡◌, length}
use Rattle.workloads.specs.Inner.Seeds.{GivesKinds}
use Rattle.workloads.proofs.seeds.next_row.Given as goal

abbrev pub invariant-loop : goal.invariant-loop
invariant-loop l = record {
  made : length l.kinds.items ≡ l.counter;
  given : GivesKinds l.percent l.fn.words l.kinds.items l.words;
}
