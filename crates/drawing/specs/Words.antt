-- Pieces of text, and lines of words at columns.
use Rattle.std.specs.Prelude.{ℕ, ◌-◌, List, [], ◌∷◌, ◌++◌, length, replicate, fold}

-- a word at a column of a line, where columns are counted from 0
pub record Word : Type 0 where
  pub column : ℕ
  pub bytes : List ℕ

-- a line with more bytes: blanks up to their column, and the bytes; no bytes add nothing
abbrev pub placed_at : List ℕ → ℕ → List ℕ → List ℕ
placed_at line column [] = line
placed_at line column (b ∷ bytes) = line ++ (replicate (column - length line) 32 ++ b ∷ bytes)

-- a line with one more word
abbrev pub placed : List ℕ → Word → List ℕ
placed line word = placed_at line word.column word.bytes

-- a line with more words, one after another
abbrev pub with_words : List ℕ → List Word → List ℕ
with_words line words = fold placed line words

-- the line of these words
abbrev pub line_of : List Word → List ℕ
line_of words = with_words [] words
