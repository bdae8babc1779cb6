use Rattle.std.specs.Prelude.{All, string_bytes}
use Rattle.messages.specs.Quoting.{IsPrintable}
use Rattle.messages.proofs.quoting.push_printable.Given as goal

abbrev pub invariant-loop-byte : goal.invariant-loop-byte
invariant-loop-byte l = All IsPrintable (string_bytes l.initial.text) → All IsPrintable (string_bytes l.text)
