use Rattle.text_lines.proofs.Common.{◌≡◌, take, true, false}
use Rattle.text_lines.proofs.scan.is_same.Given as goal

abbrev pub invariant-loop-i : goal.invariant-loop-i
invariant-loop-i l = record {
  same : l.is_same ≡ true → take l.i l.bytes ≡ take l.i l.word;
  other : l.is_same ≡ false → l.bytes ≡ l.word → ⊥;
}
