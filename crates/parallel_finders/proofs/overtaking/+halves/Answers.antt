use Rattle.parallel_finders.proofs.Common.{FindsFirst, subst}
use Rattle.parallel_finders.proofs.Halves.{whole}
use Rattle.parallel_finders.proofs.overtaking.+halves.Goals as goal

pub returns : goal.returns
returns g t c =
    let values = c.args.table.now in
    let low = c.split_at-low.result.0 in
    let high = c.split_at-low.result.1 in
    subst (λ xs. FindsFirst values xs c.first_of.result) (whole c.args.candidates.now low high _ c.split_at-low.ensures.before
    c.split_at-low.ensures.others)
    (c.first_of.ensures values low high c.join-first.ensures.first c.join-first.ensures.second)
