-- A sink that holds bytes back, as contracts see it.
use Rattle.std.specs.Prelude.{ℕ, List}

-- the inner sink, the bytes that are held back, and the number of bytes for which there is room
pub record Holding (S : Type 0) : Type 0 where
  pub inner : S
  pub kept : List ℕ
  pub room : ℕ
