use Rattle.std.proofs.Common.{◌∙◌, ◌||◌, ap, ap₂}
use Rattle.std.proofs.lemmas.Result.{IfOk-weaker}
use Rattle.clap.specs.Simple.{App, with_rule}
use Rattle.command_words.specs.Inner.Built.{with_condition}
use Rattle.command_words.proofs.commands.deciding_command.Goals as goal

pub with_condition-requires : goal.with_condition-requires
with_condition-requires c = c.in_ok-quiet.ensures.globals ∙ ap₂ ◌||◌ c.plain_command.ensures.local c.quiet_option.ensures.local

pub returns-clause-shape : goal.returns-clause-shape
returns-clause-shape c =
    let quiet = c.in_ok-quiet.ensures.shape c.quiet_option.ensures.local ∙ ap₂ with_rule c.plain_command.ensures.app c.quiet_option.ensures.rule in
    IfOk-weaker c.with_condition.result _ _ (λ r h. ap (λ (a : App). a.top) (h ∙ ap with_condition quiet)) c.with_condition.ensures.app
