use Rattle.std.proofs.lemmas.Result.{IfOk-weaker}
use Rattle.verdicts.specs.Selection.{contents_of}
use Rattle.conditions.specs.Conditions.{counts_for, judges_empties}
use Rattle.conditions.proofs.Judged.{initial_places}
use Rattle.conditions.proofs.Places.{decided_at}
use Rattle.conditions.proofs.local.decide_selection.Goals as goal

pub returns : goal.returns
returns g c =
    let whole = c.args.history.now in
    let p = c.args.producer in
    IfOk-weaker c.moved_verdict.result _ _ (λ moved is. λ emptiness at.
    decided_at whole (counts_for (contents_of whole) p) (λ call. judges_empties emptiness) c.in_ok-part.part c.in_ok-verdict.verdict c.args.places.now moved
    (c.in_ok-part.ensures emptiness at) at (initial_places (contents_of whole) p) c.in_ok-verdict.ensures is)
    c.moved_verdict.ensures
