use Rattle.std.proofs.Common.{◌≡◌, ◌∙◌, ◌||◌, ap₂, refl}
use Rattle.std.proofs.lemmas.Result.{IfOk-weaker}
use Rattle.command_words.proofs.commands.with_flag.Goals as goal

pub returns-clause-app : goal.returns-clause-app
returns-clause-app c = IfOk-weaker c.arg.result _ _ (λ r h. h.shape c.requires.1) c.arg.ensures

pub returns-clause-local : goal.returns-clause-local
returns-clause-local c = IfOk-weaker c.arg.result _ _ (λ r h. h.globals ∙ ap₂ ◌||◌ c.requires.0 c.requires.1) c.arg.ensures
