-- Bytes given in pieces, as contracts see them.
use Rattle.std.specs.Prelude.{ℕ}
use Rattle.text_lines.specs.Input.{Ahead}

-- the bytes with their ending, and the size of the pieces
pub record Pieces : Type 0 where
  pub ahead : Ahead
  pub most : ℕ  -- the maximum number of bytes that a read gives
