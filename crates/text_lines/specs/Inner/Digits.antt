-- Digits at the front of bytes.
use Rattle.std.specs.Prelude.{◌≡◌, ℕ, ◌≤◌, List, length, take, true}
use Rattle.std.specs.List.{list_all}
use Rattle.std.specs.Char.{is_ascii_digit}
use Rattle.std.specs.Str.Parse.{digits_value}

-- the first bytes are digits, and this is their value
pub record IsDigitsSoFar (bytes : List ℕ) (count value : ℕ) : Type 0 where
  pub within : count ≤ length bytes
  pub digits : list_all is_ascii_digit (take count bytes) ≡ true
  pub value_is : value ≡ digits_value 10 (take count bytes)
