-- Bytes as a message shows them.
use Rattle.std.specs.Prelude.{ℕ, ◌+◌, ◌/◌, ◌%◌, ◌≤◌, ◌++◌, List, [], ◌∷◌, codes, nat_eq, nat_le, nat_lt, ◌&&◌}
use Rattle.std.specs.Prelude.{if◌then◌else◌}

-- a character of printable ASCII
abbrev pub IsPrintable : ℕ → Type 0
IsPrintable byte = (32 ≤ byte) × (byte ≤ 126)

-- the digit of a number below 16
abbrev pub hex_digit : ℕ → ℕ
hex_digit number = if nat_lt number 10 then 48 + number else 87 + number

-- a byte as it is shown: itself if it is printable, else its escape
abbrev pub shown_byte : ℕ → List ℕ
shown_byte byte =
    if nat_eq byte 13 then codes "\\r" else
    if nat_eq byte 9 then codes "\\t" else
    if nat_le 32 byte && nat_le byte 126 then byte ∷ [] else
    codes "\\x" ++ hex_digit (byte / 16) ∷ hex_digit (byte % 16) ∷ []
