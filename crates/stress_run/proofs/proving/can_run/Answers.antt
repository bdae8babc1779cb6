use Rattle.std.proofs.Common.{sym, subst}
use Rattle.stress_run.specs.Roles.{CanRun, HasOneOfEach}
use Rattle.stress_run.specs.declared.proving.ProvedQueue.{ProvedQueue}
use Rattle.stress_run.proofs.proving.can_run.Goals as goal

pub returns-in-Ring : goal.returns-in-Ring
returns-in-Ring c =
    let For : ProvedQueue → Type 0 = λ queue. CanRun queue c.args.plan.now in (
      λ yes. subst For (sym c.in-Ring.is) (subst HasOneOfEach c.rows.ensures.rows (c.has_one_of_each.ensures.0 yes)),
      λ can. c.has_one_of_each.ensures.1 (subst HasOneOfEach (sym c.rows.ensures.rows) (subst For c.in-Ring.is can)),
    )
