use Rattle.std.proofs.Common.{◌∙◌, ap}
use Rattle.std.proofs.lemmas.Result.{IfOk-weaker}
use Rattle.command_words.specs.Inner.Built.{with_first_four, with_last_five}
use Rattle.command_words.proofs.commands.the_command.Goals as goal

pub returns : goal.returns
returns c = IfOk-weaker c.with_last_five.result _ _
    (λ r h. h ∙ ap with_last_five (c.in_ok-half.ensures ∙ ap with_first_four c.program_alone.ensures)) c.with_last_five.ensures
