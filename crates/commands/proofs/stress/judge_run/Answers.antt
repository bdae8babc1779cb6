use Rattle.commands.proofs.Common.{IsLinearizable, List, operations_of, subst, sym, ℕ, ◌∙◌}
use Rattle.commands.proofs.OneAnswer.{shows_none}
use Rattle.commands.proofs.stress.judge_run.Goals as goal

pub returns-clause-linearizable : goal.returns-clause-linearizable
returns-clause-linearizable g c = λ run.
    let history = c.in_ok-history.history in
    let same = c.in_ok-history.ensures.initial ∙ c.requires in
    shows_none c.args.condition c.run_version.result history c.in_ok-verdict.verdict c.initial-initial.ensures.complete c.initial-initial.ensures.few
    c.in_ok-verdict.ensures.decided
    (subst (λ (values : List ℕ). IsLinearizable values (operations_of history.events)) (sym same)
    (run history.events c.in_ok-history.ensures.merged))
