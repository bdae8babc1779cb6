-- What standard error says.
use Rattle.std.specs.Prelude.{◌≡◌, ℕ, List, ◌++◌, ◌⊎◌, All, codes}
use Rattle.text_lines.specs.Lines.{line}
use Rattle.messages.specs.Quoting.{IsPrintable}

-- a line that begins with the program's name, all of it printable
pub record IsMessageLine (bytes : List ℕ) : Type 0 where
  pub said : List ℕ
  pub printable : All IsPrintable said
  pub is : bytes ≡ line (codes "fifobench: " ++ said)

-- two such lines
pub record IsTwoLines (bytes : List ℕ) : Type 0 where
  pub first : List ℕ
  pub second : List ℕ
  pub is_first : IsMessageLine first
  pub is_second : IsMessageLine second
  pub is : bytes ≡ first ++ second

-- a message: one such line or two
abbrev pub IsMessage : List ℕ → Type 0
IsMessage bytes = IsMessageLine bytes ⊎ IsTwoLines bytes
