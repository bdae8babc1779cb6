use Rattle.std.proofs.Common.{◌≡◌, ◌∙◌, ◌||◌, ap₂, refl}
use Rattle.std.proofs.lemmas.Result.{IfOk-weaker}
use Rattle.clap.specs.Simple.{with_rule, app_of}
use Rattle.command_words.proofs.commands.with_sizes.Goals as goal

pub returns-clause-app : goal.returns-clause-app
returns-clause-app c =
    let start : app_of c.args.command ≡ app_of c.args.command = refl in
    let ring = c.in_ok-arg.ensures.shape c.number_option.ensures.local ∙ ap₂ with_rule start c.number_option.ensures.rule in
    let initial = c.in_ok-arg-2.ensures.shape c.number_option-2.ensures.local ∙ ap₂ with_rule ring c.number_option-2.ensures.rule in
    IfOk-weaker c.arg-3.result _ _ (λ r h. h.shape c.quiet_option.ensures.local ∙ ap₂ with_rule initial c.quiet_option.ensures.rule) c.arg-3.ensures

pub returns-clause-local : goal.returns-clause-local
returns-clause-local c =
    let ring = c.in_ok-arg.ensures.globals ∙ ap₂ ◌||◌ c.requires c.number_option.ensures.local in
    let initial = c.in_ok-arg-2.ensures.globals ∙ ap₂ ◌||◌ ring c.number_option-2.ensures.local in
    IfOk-weaker c.arg-3.result _ _ (λ r h. h.globals ∙ ap₂ ◌||◌ initial c.quiet_option.ensures.local) c.arg-3.ensures
