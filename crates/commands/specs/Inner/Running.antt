-- The text that explains an error in the arguments.
use Rattle.std.specs.Prelude.{◌≢◌, ℕ, Bool, List, Option, ◌⊎◌}
use Rattle.clap.specs.declared.error.kind.ErrorKind.{ErrorKind}
use Rattle.clap.specs.declared.error.kind.ErrorKind.TheVariants as kind
use Rattle.commands.specs.Answers.{memory_fault}
use Rattle.commands.specs.Running.{Prints, PrintsAnswer, usage_status}

-- some text, with the status of this kind of error
pub record PrintsText (reason : ErrorKind) (old new : Option (List ℕ)) (refused : Bool) (result : ℕ) : Type 0 where
  pub usual : reason ≢ kind.OutOfMemory
  pub text : List ℕ
  pub printed : Prints old new refused result text (usage_status reason)

-- an error of this kind prints its text, or memory ran out
abbrev pub Explains : ErrorKind → Option (List ℕ) → Option (List ℕ) → Bool → ℕ → Type 0
Explains reason old new refused result = PrintsText reason old new refused result
    ⊎ PrintsAnswer old new refused result memory_fault
