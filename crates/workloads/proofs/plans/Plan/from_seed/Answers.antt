use Rattle.std.proofs.Common.{◌≡◌, ◌*◌, ◌≤◌, ℕ, List, length, sym, subst, arith}
use Rattle.event_records.specs.declared.kind.Kind.{Kind}
use Rattle.event_records.specs.declared.limits.TheConstants.{MAX_OPERATIONS}
use Rattle.workloads.specs.Seeds.{IsSeeded}
use Rattle.workloads.proofs.KindsOfWords.{gives_row, seeded, seeded_plan}
use Rattle.workloads.proofs.plans.Plan.from_seed.Goals as goal

pub loop-preserved : goal.loop-preserved
loop-preserved c = record {
  made = omega (arith, c.in_ok-push.ensures.len);
  given = gives_row _ _ _ _ _ _ _ _ c.loop.invariant.given c.in_ok-next_row.ensures.kinds c.in_ok-next_row.ensures.len c.in_ok-push.ensures.items;
}

pub within_limits-requires : goal.within_limits-requires
within_limits-requires c =
    let count : length c.loop.rows.items ≡ c.args.workers = omega arith in
    let together = subst (λ (n : ℕ). n * c.args.operations ≤ MAX_OPERATIONS) (sym count) c.requires.together in
    seeded_plan _ _ _ _ _ c.loop.invariant.given (omega arith) (omega arith) c.requires.operations together

pub returns : goal.returns
returns c =
    let count : length c.loop.rows.items ≡ c.args.workers = omega arith in
    subst (λ (rows : List (List Kind)). IsSeeded c.args.seed c.args.workers c.args.operations c.args.percent rows) (sym c.within_limits.ensures)
    (seeded _ _ _ _ _ _ c.loop.invariant.given count)
