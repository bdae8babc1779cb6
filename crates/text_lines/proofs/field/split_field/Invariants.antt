use Rattle.text_lines.proofs.Common.{◌≡◌, ℕ, ◌<◌, get_or}
use Rattle.text_lines.proofs.field.split_field.Given as goal

abbrev pub invariant-loop-i : goal.invariant-loop-i
invariant-loop-i l = (k : ℕ) → k < l.i → get_or l.bytes k 0 ≡ 32 → ⊥
