use Rattle.std.proofs.lemmas.Result.{IfOk-weaker}
use Rattle.conditions.proofs.local.decide_local_by.Goals as goal

pub decide_selections-requires-clause-shared : goal.decide_selections-requires-clause-shared
decide_selections-requires-clause-shared g c = (c.args.emptiness, c.in_ok-selections.ensures)

pub returns : goal.returns
returns g c = IfOk-weaker c.decide_selections.result _ _ (λ verdict is. is c.args.emptiness c.in_ok-selections.ensures) c.decide_selections.ensures
