use Rattle.stress_run.proofs.Order.{still_stands, still_least}
use Rattle.std.proofs.Common.{◌≡◌, ◌∙◌, arith, take, ap, subst, length, All, ℕ}
use Rattle.std.proofs.Math.Seq.{take-length}
use Rattle.std.proofs.lemmas.List.{get_or_default}
use Rattle.stress_run.specs.declared.faults.RunFault.TheVariants.{Limit}
use Rattle.stress_run.specs.Faults.{IsNotAfter}
use Rattle.stress_run.proofs.faults.least_fault.Goals as goal

pub loop-fault-preserved : goal.loop-fault-preserved
loop-fault-preserved c =
    let i = c.loop-fault.invariant in
    let e = c.earlier-least.ensures in
    let same = get_or_default c.args.faults.now c.loop-fault.fault-index Limit _ c.loop-fault-test.true in
    let faults = c.args.faults.now in
    let place = c.loop-fault.fault-index in (
      still_stands faults place c.loop-fault-test.true c.loop-fault.least _ c.earlier-least.result same e.either i.0,
      still_least faults place c.loop-fault-test.true c.loop-fault.least _ c.earlier-least.result same e.either i.1 e.first e.second,
    )

pub returns-clause-least : goal.returns-clause-least
returns-clause-least c =
    let all : c.loop-fault.fault-index ≡ length c.args.faults.now = omega (arith, c.loop-fault-test.false, c.loop-fault.auto.fault-index-end) in
    subst (All (IsNotAfter c.loop-fault.least)) (ap (λ (n : ℕ). take n c.args.faults.now) all ∙ take-length c.args.faults.now) c.loop-fault.invariant.1
