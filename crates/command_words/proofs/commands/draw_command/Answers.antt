use Rattle.std.proofs.Common.{◌∙◌, ◌||◌, ap, ap₂}
use Rattle.std.proofs.lemmas.Result.{IfOk-weaker}
use Rattle.clap.specs.Simple.{App, with_rule}
use Rattle.command_words.specs.Inner.Built.{with_condition}
use Rattle.command_words.proofs.commands.draw_command.Goals as goal

pub with_condition-requires : goal.with_condition-requires
with_condition-requires c =
    let text = c.in_ok-arg.ensures.globals ∙ ap₂ ◌||◌ c.plain_command.ensures.local c.flag_option.ensures.local in
    let html = c.in_ok-arg-2.ensures.globals ∙ ap₂ ◌||◌ text c.flag_option-2.ensures.local in
    let around = c.in_ok-arg-3.ensures.globals ∙ ap₂ ◌||◌ html c.number_option.ensures.local in
    c.in_ok-command.ensures.globals ∙ ap₂ ◌||◌ around c.flag_option-3.ensures.local

pub returns-clause-shape : goal.returns-clause-shape
returns-clause-shape c =
    let text = c.in_ok-arg.ensures.shape c.flag_option.ensures.local ∙ ap₂ with_rule c.plain_command.ensures.app c.flag_option.ensures.rule in
    let html = c.in_ok-arg-2.ensures.shape c.flag_option-2.ensures.local ∙ ap₂ with_rule text c.flag_option-2.ensures.rule in
    let around = c.in_ok-arg-3.ensures.shape c.number_option.ensures.local ∙ ap₂ with_rule html c.number_option.ensures.rule in
    let all = c.in_ok-command.ensures.shape c.flag_option-3.ensures.local ∙ ap₂ with_rule around c.flag_option-3.ensures.rule in
    IfOk-weaker c.with_condition.result _ _ (λ r h. ap (λ (a : App). a.top) (h ∙ ap with_condition all)) c.with_condition.ensures.app
