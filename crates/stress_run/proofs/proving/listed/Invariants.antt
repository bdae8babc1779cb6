use Rattle.std.proofs.Common.{◌≡◌, take}
use Rattle.stress_run.proofs.proving.listed.Given as goal

abbrev pub invariant-loop-value : goal.invariant-loop-value
invariant-loop-value l = l.list ≡ take l.value-index l.values
