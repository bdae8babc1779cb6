use Rattle.std.proofs.Common.{◌≡◌, length}
use Rattle.workloads.specs.Seeds.{generator_of}
use Rattle.workloads.proofs.KindsOfWords.{GivesRows}
use Rattle.workloads.proofs.plans.Plan.from_seed.Given as goal

abbrev pub invariant-loop : goal.invariant-loop
invariant-loop l = record {
  made : length l.rows.items ≡ l.counter;
  given : GivesRows l.percent l.operations (generator_of l.seed) l.rows.items l.words;
}
