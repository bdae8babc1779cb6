use Rattle.std.proofs.Common.{◌≡◌, ◌∙◌, ◌||◌, ap₂, refl}
use Rattle.std.proofs.lemmas.Result.{IfOk-weaker}
use Rattle.clap.specs.Simple.{with_rule, app_of}
use Rattle.command_words.proofs.commands.with_plan.Goals as goal

pub returns-clause-app : goal.returns-clause-app
returns-clause-app c =
    let start : app_of c.args.command ≡ app_of c.args.command = refl in
    let queue = c.in_ok-arg.ensures.shape c.queue_option.ensures.local ∙ ap₂ with_rule start c.queue_option.ensures.rule in
    let threads = c.in_ok-arg-2.ensures.shape c.number_option.ensures.local ∙ ap₂ with_rule queue c.number_option.ensures.rule in
    let operations = c.in_ok-arg-3.ensures.shape c.number_option-2.ensures.local ∙ ap₂ with_rule threads c.number_option-2.ensures.rule in
    IfOk-weaker c.arg-4.result _ _ (λ r h. h.shape c.number_option-3.ensures.local ∙ ap₂ with_rule operations c.number_option-3.ensures.rule) c.arg-4.ensures

pub returns-clause-local : goal.returns-clause-local
returns-clause-local c =
    let queue = c.in_ok-arg.ensures.globals ∙ ap₂ ◌||◌ c.requires c.queue_option.ensures.local in
    let threads = c.in_ok-arg-2.ensures.globals ∙ ap₂ ◌||◌ queue c.number_option.ensures.local in
    let operations = c.in_ok-arg-3.ensures.globals ∙ ap₂ ◌||◌ threads c.number_option-2.ensures.local in
    IfOk-weaker c.arg-4.result _ _ (λ r h. h.globals ∙ ap₂ ◌||◌ operations c.number_option-3.ensures.local) c.arg-4.ensures
