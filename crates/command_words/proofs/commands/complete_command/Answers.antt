use Rattle.std.proofs.Common.{◌∙◌, ap, ap₂}
use Rattle.std.proofs.lemmas.Result.{IfOk-weaker}
use Rattle.clap.specs.Simple.{App, with_rule}
use Rattle.command_words.proofs.commands.complete_command.Goals as goal

pub returns-clause-shape : goal.returns-clause-shape
returns-clause-shape c = IfOk-weaker c.with_flag.result _ _
    (λ r h. ap (λ (a : App). a.top) (h ∙ ap₂ with_rule c.plain_command.ensures.app c.flag_option-flag.ensures.rule)) c.with_flag.ensures.app
