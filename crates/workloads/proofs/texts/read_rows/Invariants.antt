use Rattle.std.proofs.Common.{◌≡◌, ◌++◌, map, take}
use Rattle.workloads.specs.Texts.{letter, text_of}
use Rattle.workloads.proofs.texts.read_rows.Given as goal

abbrev pub invariant-loop-byte : goal.invariant-loop-byte
invariant-loop-byte l = take l.byte-index l.text ≡ text_of l.rows.items ++ map letter l.kinds.items
