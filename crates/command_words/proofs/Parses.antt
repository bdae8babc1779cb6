-- Consequences of clap's contracts for the program.
use Rattle.std.proofs.Common.{◌≡◌, ◌∙◌, ap, subst, Bool, true, List, refl}
use Rattle.clap.specs.Simple.{App, HasMatchesOf, is_simple, subcommand_of, subcommand_rows_of}
use Rattle.clap.specs.Walk.{Text}
use Rattle.clap.specs.declared.parser.matches.ArgMatches.{ArgMatches}
use Rattle.command_words.specs.Commands.{the_program}

-- a fact about a command that passes a test holds of the program
pub of_program : (P : App → Type 0) (test : App → Bool) (a : App) → a ≡ the_program → test the_program ≡ true → (test a ≡ true → P a) → P the_program
of_program P test a is passes h = subst P is (h (ap test is ∙ passes))

-- the matched subcommand is that of the arguments
pub met_in : (m : ArgMatches) (args : List Text) (a : App) → a ≡ the_program → HasMatchesOf a args m → subcommand_rows_of m ≡ subcommand_of the_program args
met_in m args a is h = of_program (λ (b : App). subcommand_rows_of m ≡ subcommand_of b args) is_simple a is refl (λ simple. (h simple).1)
