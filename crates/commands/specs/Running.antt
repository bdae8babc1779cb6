-- The results of a run of the program.
use Rattle.std.specs.Prelude.{◌≡◌, ℕ, Bool, true, false, List, [], Option, ◌⊎◌, codes}
use Rattle.std.specs.Io.KnownBytes.{Appends, append_known}
use Rattle.text_lines.specs.Input.{Ahead}
use Rattle.text_lines.specs.Lines.{line}
use Rattle.text_lines.specs.Writing.{AppendsFront, Asked, IsRefused, IsFlushed}
use Rattle.messages.specs.Messages.{IsMessage}
use Rattle.clap.specs.Kinds.{Kinds, IsAmong}
use Rattle.clap.specs.declared.error.kind.ErrorKind.{ErrorKind}
use Rattle.clap.specs.declared.error.kind.ErrorKind.TheVariants as kind
use Rattle.command_words.specs.Commands.{Request, check, shrink, verify, draw, convert, complete, stats, sim, stress}
use Rattle.commands.specs.Answers.{Reply, memory_fault, answer_text, answer_status, said_text}
use Rattle.commands.specs.Inputs.{IsHistoryOf, IsFaultOfHistoryInput, IsScheduleOf, IsFaultOfScheduleInput, IsClaimOf}
use Rattle.commands.specs.Inputs.{IsFaultOfClaimInput}
use Rattle.commands.specs.Inputs.{IsDrawableOf, IsFaultOfDrawableInput}
use Rattle.commands.specs.Completing.{Completes, IsFaultOfPendingInput, IsPendingOf}
use Rattle.commands.specs.Drawing.{Draws}
use Rattle.commands.specs.Judging.{AnswersFor, Judges, Shrinks, Verifies, Converts, Counts, Simulates}

-- if the writer refused nothing, the whole text is written, with this status; otherwise a prefix of it is, and the
-- status is 3
abbrev pub Prints : Option (List ℕ) → Option (List ℕ) → Bool → ℕ → List ℕ → ℕ → Type 0
Prints old new false result text status = Appends old new text × (result ≡ status)
Prints old new true result text status = AppendsFront old new text × (result ≡ 3)

-- if nothing was refused, the writer took bytes and then was flushed once; otherwise it was asked nothing after the
-- refusal
abbrev pub WritesAndFlushes : {S : Type 0} → (S → Asked → S → Type 0) → Bool → S → S → Type 0
WritesAndFlushes transition false old new = IsFlushed transition old new
WritesAndFlushes transition true old new = IsRefused transition old new

-- standard error took these bytes, or refused some of them and took a prefix
abbrev pub Says : Option (List ℕ) → Option (List ℕ) → Bool → List ℕ → Type 0
Says old new false text = Appends old new text
Says old new true text = AppendsFront old new text

-- standard error took a message
abbrev pub SaysMessage : Option (List ℕ) → Option (List ℕ) → Bool → Type 0
SaysMessage old new refused = (text : List ℕ) × IsMessage text × Says old new refused text

-- the answer's text is printed, with its status
abbrev pub PrintsAnswer : Option (List ℕ) → Option (List ℕ) → Bool → ℕ → Reply → Type 0
PrintsAnswer old new refused result answer = Prints old new refused result (answer_text answer) (answer_status answer)

-- the answer's text is printed, with `--quiet` or without, with its status
abbrev pub PrintsSaid : Bool → Option (List ℕ) → Option (List ℕ) → Bool → ℕ → Reply → Type 0
PrintsSaid quiet old new refused result answer =
    Prints old new refused result (said_text quiet answer) (answer_status answer)

-- this was printed to a writer with a buffer before it, which holds nothing back unless the writer refused
pub record Behind (Printed : Option (List ℕ) → Bool → Type 0) (new : Option (List ℕ)) : Type 0 where
  pub held : List ℕ
  pub refused : Bool
  pub all_passed_on : refused ≡ false → held ≡ []
  pub printed : Printed (append_known new held) refused

-- the answer of a command to an input; `stress` reads none
abbrev pub AnswersOf : Request → Ahead → Reply → Type 0
AnswersOf (check condition) input answer = AnswersFor IsHistoryOf IsFaultOfHistoryInput (Judges condition) input answer
AnswersOf (shrink condition) input answer =
    AnswersFor IsHistoryOf IsFaultOfHistoryInput (Shrinks condition) input answer
AnswersOf (verify condition) input answer = AnswersFor IsClaimOf IsFaultOfClaimInput (Verifies condition) input answer
AnswersOf (draw options) input answer = AnswersFor IsDrawableOf IsFaultOfDrawableInput (Draws options) input answer
AnswersOf convert input answer = AnswersFor IsHistoryOf IsFaultOfHistoryInput Converts input answer
AnswersOf (complete takes_cut) input answer =
    AnswersFor (IsPendingOf takes_cut) (IsFaultOfPendingInput takes_cut) Completes input answer
AnswersOf (stats overtakes) input answer = AnswersFor IsHistoryOf IsFaultOfHistoryInput (Counts overtakes) input answer
AnswersOf sim input answer = AnswersFor IsScheduleOf IsFaultOfScheduleInput Simulates input answer
AnswersOf (stress settings) input answer = Unit {0}

-- an answer of this kind was printed, with `--quiet` or without
pub record PrintsOneOf (quiet : Bool) (IsAnswer : Reply → Type 0) (old new : Option (List ℕ)) (refused : Bool)
    (result : ℕ) : Type 0 where
  pub answer : Reply
  pub right : IsAnswer answer
  pub printed : PrintsSaid quiet old new refused result answer

-- the status of a help or a version, or of wrong arguments
abbrev pub usage_status : ErrorKind → ℕ
usage_status kind.DisplayHelp = 0
usage_status kind.DisplayVersion = 0
usage_status _ = 2

-- the text that is printed if an argument isn't UTF-8
abbrev pub no_text : List ℕ
no_text = line (codes "error: a word is not valid UTF-8")

-- a text about the use of the program is printed, of one of these kinds
pub record PrintsUsage (kinds : Kinds) (old new : Option (List ℕ)) (refused : Bool) (result : ℕ) : Type 0 where
  pub reason : ErrorKind
  pub among : IsAmong reason kinds
  pub text : List ℕ
  pub printed : Prints old new refused result text (usage_status reason)

-- a text about the use of the program is printed, or memory ran out
abbrev pub ExplainsUse : Kinds → Option (List ℕ) → Option (List ℕ) → Bool → ℕ → Type 0
ExplainsUse kinds old new refused result = PrintsUsage kinds old new refused result
    ⊎ PrintsAnswer old new refused result memory_fault
