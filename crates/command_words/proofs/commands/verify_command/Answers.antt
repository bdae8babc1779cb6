use Rattle.std.proofs.Common.{◌∙◌, ap}
use Rattle.std.proofs.lemmas.Result.{IfOk-weaker}
use Rattle.clap.specs.Simple.{App}
use Rattle.command_words.specs.Inner.Built.{with_condition}
use Rattle.command_words.proofs.commands.verify_command.Goals as goal

pub returns-clause-shape : goal.returns-clause-shape
returns-clause-shape c =
    IfOk-weaker c.with_condition.result _ _ (λ r h. ap (λ (a : App). a.top) (h ∙ ap with_condition c.plain_command-command.ensures.app)) c.with_condition.ensures.app
