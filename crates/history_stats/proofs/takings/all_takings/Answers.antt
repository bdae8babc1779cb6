use Rattle.std.proofs.Common.{◌∙◌, ap, sym}
use Rattle.history_merge.specs.declared.operation.Operation.{Operation}
use Rattle.history_stats.specs.Inner.Overtaking.{taking_by}
use Rattle.history_stats.proofs.Staying.{is_at}
use Rattle.history_merge.proofs.Lists.{found_none, found_one}
use Rattle.history_stats.proofs.takings.all_takings.Goals.{in-Some+in_ok-push, in_default}
use Rattle.history_stats.proofs.takings.all_takings.Goals as goal

pub loop-operation-preserved : goal.loop-operation-preserved
loop-operation-preserved c =
    let operations = c.args.operations.now in
    let i = c.loop-operation.operation-index in
    let o = c.unpack.result in
    let find = λ (x : Operation). taking_by operations x x.kind in
    let at = ap find (sym (is_at operations i c.operation-item.result o c.operation-item.is c.unpack.ensures.operation)) ∙ sym (c.taking_by.ensures operations c.requires) in
    elim c.match-taking_by.branch [
      | in-Some+in_ok-push w ↦
          ap (λ v. v.items) w.takings-is
          ∙ found_one find operations i o c.loop-operation.takings.items c.loop-operation-test.true c.loop-operation.invariant _ _ (at ∙ w.in-Some.is)
          w.in_ok-push.ensures.items
      | in_default w ↦
          ap (λ v. v.items) w.takings-is
          ∙ found_none find operations i o c.loop-operation.takings.items c.loop-operation-test.true c.loop-operation.invariant (at ∙ w.in_default.is)
    ]
