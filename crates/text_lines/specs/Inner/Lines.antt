-- The parts of a line.
use Rattle.std.specs.Prelude.{◌≡◌, ℕ, ◌≤◌, not, Bool, true}
use Rattle.std.specs.Prelude.{List, length}
use Rattle.std.specs.List.{list_all}
use Rattle.text_lines.specs.Lines.{longest_line, is_line_feed}

-- no byte is a line feed
abbrev pub has_no_line_feed : List ℕ → Bool
has_no_line_feed bytes = list_all (λ b. not (is_line_feed b)) bytes

-- bytes without a line feed, few enough for a line
pub record IsPartOfLine (bytes : List ℕ) : Type 0 where
  pub one : has_no_line_feed bytes ≡ true
  pub short : length bytes ≤ longest_line
