use Rattle.std.proofs.Common.{◌≡◌, ◌∙◌, ◌||◌, ap₂, refl}
use Rattle.std.proofs.lemmas.Result.{IfOk-weaker}
use Rattle.clap.specs.Simple.{with_rule, app_of}
use Rattle.command_words.proofs.commands.with_condition.Goals as goal

pub returns-clause-app : goal.returns-clause-app
returns-clause-app c =
    let start : app_of c.args.command ≡ app_of c.args.command = refl in
    let local = c.in_ok-arg.ensures.shape c.flag_option.ensures.local ∙ ap₂ with_rule start c.flag_option.ensures.rule in
    IfOk-weaker c.arg-2.result _ _ (λ r h. h.shape c.flag_option-2.ensures.local ∙ ap₂ with_rule local c.flag_option-2.ensures.rule) c.arg-2.ensures

pub returns-clause-local : goal.returns-clause-local
returns-clause-local c =
    let local = c.in_ok-arg.ensures.globals ∙ ap₂ ◌||◌ c.requires c.flag_option.ensures.local in
    IfOk-weaker c.arg-2.result _ _ (λ r h. h.globals ∙ ap₂ ◌||◌ local c.flag_option-2.ensures.local) c.arg-2.ensures
