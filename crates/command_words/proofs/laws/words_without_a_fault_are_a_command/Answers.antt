use Rattle.command_words.specs.Commands.{the_program}
use Rattle.clap.specs.Simple.{subcommand_of}
use Rattle.command_words.proofs.Answerable.{answerable}
use Rattle.command_words.proofs.Requests.{answerable_is_asked}
use Rattle.command_words.proofs.laws.words_without_a_fault_are_a_command.Goals as goal

pub returns : goal.returns
returns c = λ args none. answerable_is_asked (subcommand_of the_program args) (answerable args none)
