use Rattle.std.proofs.Common.{◌∙◌, ap}
use Rattle.std.proofs.lemmas.Result.{IfOk-weaker}
use Rattle.clap.specs.Simple.{App}
use Rattle.command_words.specs.Inner.Built.{with_condition, with_kinds, with_plan, with_sizes}
use Rattle.command_words.proofs.commands.stress_command.Goals as goal

pub returns-clause-shape : goal.returns-clause-shape
returns-clause-shape c =
    let half = c.in_ok-half.ensures.app ∙ ap with_plan c.plain_command-command.ensures.app in
    let whole = c.in_ok-whole.ensures.app ∙ ap with_kinds half in
    let strict = c.in_ok-strict.ensures.app ∙ ap with_sizes whole in
    IfOk-weaker c.with_condition.result _ _ (λ r h. ap (λ (a : App). a.top) (h ∙ ap with_condition strict)) c.with_condition.ensures.app
