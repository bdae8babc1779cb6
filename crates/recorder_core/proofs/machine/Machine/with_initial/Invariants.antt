use Rattle.std.proofs.Common.{◌≡◌, ℕ, ◌<◌, Some, vec_len}
use Rattle.std.specs.List.{slice_get}
use Rattle.recorder_core.proofs.Starting.{untouched}
use Rattle.recorder_core.proofs.machine.Machine.with_initial.Given as goal

abbrev pub invariant-loop : goal.invariant-loop
invariant-loop l = record {
  many : vec_len l.list ≡ l.counter;
  each : (k : ℕ) → k < l.counter → slice_get l.list.items k ≡ Some untouched;
}
