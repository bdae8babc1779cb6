-- The caller's memory after a call.
use Rattle.std.specs.Prelude.{◌≡◌, ℕ, ◌≤◌, ◌<◌, List, ◌++◌, length, drop}
use Rattle.commands.specs.Answers.{Reply, answer_text, answer_status}

-- a text that fits is at the start of the buffer, and the buffer is unchanged after it; if the text doesn't fit, the
-- buffer is unchanged
pub record Fills (text old new : List ℕ) : Type 0 where
  pub whole : length text ≤ length old → new ≡ text ++ drop (length text) old
  pub nothing : length old < length text → new ≡ old

-- a call wrote this text and this status: the length of the text, the text itself if it fits, and the status
pub record Tells (text : List ℕ) (status : ℕ) (old new : List ℕ) (needed result : ℕ) : Type 0 where
  pub needed_is : needed ≡ length text
  pub filled : Fills text old new
  pub status_is : result ≡ status

-- a call wrote this answer
abbrev pub TellsAnswer : Reply → List ℕ → List ℕ → ℕ → ℕ → Type 0
TellsAnswer answer old new needed result = Tells (answer_text answer) (answer_status answer) old new needed result

-- a call wrote an answer of this kind
pub record TellsOneOf (IsAnswer : Reply → Type 0) (old new : List ℕ) (needed result : ℕ) : Type 0 where
  pub answer : Reply
  pub right : IsAnswer answer
  pub told : TellsAnswer answer old new needed result
