use Rattle.std.proofs.Common.{◌∙◌, ap, sym}
use Rattle.history_merge.proofs.Lists.{found_none, found_one}
use Rattle.conditions.specs.Inner.Producers.{produced_by}
use Rattle.conditions.proofs.producers.all_produced.Goals.{in-Some+in_ok-push, in_default}
use Rattle.conditions.proofs.producers.all_produced.Goals as goal

pub loop-operation-preserved : goal.loop-operation-preserved
loop-operation-preserved c =
    let by_time = c.args.by_time.now in
    let i = c.loop-operation.operation-index in
    let at = ap produced_by (sym c.operation-item.is ∙ sym c.unpack.ensures.operation) ∙ sym c.produced_by.ensures in
    elim c.match-produced_by.branch [
      | in-Some+in_ok-push w ↦
          ap (λ v. v.items) w.all-is
          ∙ found_one produced_by by_time i c.operation-item.result c.loop-operation.all.items c.loop-operation-test.true c.loop-operation.invariant _ _
          (at ∙ w.in-Some.is) w.in_ok-push.ensures.items
      | in_default w ↦
          ap (λ v. v.items) w.all-is
          ∙ found_none produced_by by_time i c.operation-item.result c.loop-operation.all.items c.loop-operation-test.true c.loop-operation.invariant
          (at ∙ w.in_default.is)
    ]
