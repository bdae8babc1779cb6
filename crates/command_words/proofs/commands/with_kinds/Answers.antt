use Rattle.std.proofs.Common.{◌≡◌, ◌∙◌, ◌||◌, ap₂, refl}
use Rattle.std.proofs.lemmas.Result.{IfOk-weaker}
use Rattle.clap.specs.Simple.{with_rule, app_of}
use Rattle.command_words.proofs.commands.with_kinds.Goals as goal

pub returns-clause-app : goal.returns-clause-app
returns-clause-app c =
    let start : app_of c.args.command ≡ app_of c.args.command = refl in
    let percent = c.in_ok-arg.ensures.shape c.number_option.ensures.local ∙ ap₂ with_rule start c.number_option.ensures.rule in
    IfOk-weaker c.arg-2.result _ _ (λ r h. h.shape c.number_option-2.ensures.local ∙ ap₂ with_rule percent c.number_option-2.ensures.rule) c.arg-2.ensures

pub returns-clause-local : goal.returns-clause-local
returns-clause-local c =
    let percent = c.in_ok-arg.ensures.globals ∙ ap₂ ◌||◌ c.requires c.number_option.ensures.local in
    IfOk-weaker c.arg-2.result _ _ (λ r h. h.globals ∙ ap₂ ◌||◌ percent c.number_option-2.ensures.local) c.arg-2.ensures
