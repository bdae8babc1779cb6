use Rattle.std.proofs.Common.{◌≤◌, take}
use Rattle.workloads.specs.Texts.{HasLines}
use Rattle.workloads.proofs.texts.stray_worker.Given as goal

abbrev pub invariant-loop-byte : goal.invariant-loop-byte
invariant-loop-byte l = record {
  few : l.worker ≤ l.byte-index;
  lines : HasLines (take l.byte-index l.text) l.worker;
}
