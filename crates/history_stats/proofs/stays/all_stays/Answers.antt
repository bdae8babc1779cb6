use Rattle.std.proofs.Common.{◌∙◌, ◌+◌, ap, arith, refl, subst, sym}
use Rattle.history_stats.specs.AtOnce.{put_value}
use Rattle.history_stats.proofs.Staying.{StaysSoFar, counted_all, is_at, puts_none, stays_first, stays_none, stays_one}
use Rattle.history_stats.proofs.stays.all_stays.Goals.{in-Enqueue+in_ok-push, in_default}
use Rattle.history_stats.proofs.stays.all_stays.Goals as goal

pub loop-operation-init : goal.loop-operation-init
loop-operation-init c = stays_first c.args.operations.now c.args.calls.now c.new-stays.result.items c.new-stays.ensures.items

pub loop-operation-preserved : goal.loop-operation-preserved
loop-operation-preserved c =
    let operations = c.args.operations.now in
    let calls = c.args.calls.now in
    let i = c.loop-operation.operation-index in
    let o = c.unpack-operation.result in
    let at = is_at operations i c.operation-item.result o c.operation-item.is c.unpack-operation.ensures.operation in
    elim c.match-operation.branch [
      | in-Enqueue+in_ok-push w ↦ subst (StaysSoFar operations calls (i + 1)) (sym (ap (λ v. v.items) w.stays-is))
          (stays_one operations calls i w.in-Enqueue.value w.calls_before_take-taken.result o w.ticket_for.result c.loop-operation.stays.items w.push.new.self.items
          c.loop-operation-test.true at (ap put_value w.in-Enqueue.is) c.requires.calls (λ gap. w.ticket_for.ensures gap ∙ c.requires.takes gap w.in-Enqueue.value)
          w.calls_before_take-taken.ensures w.in_ok-push.ensures.items c.loop-operation.invariant)
      | in_default w ↦ subst (StaysSoFar operations calls (i + 1)) (sym (ap (λ v. v.items) w.stays-is))
          (stays_none operations calls i o c.loop-operation.stays.items c.loop-operation-test.true at (puts_none o.kind w.in_default.not-Enqueue) c.loop-operation.invariant)
    ]

pub returns-clause-counted : goal.returns-clause-counted
returns-clause-counted c = counted_all c.args.operations.now c.args.calls.now c.loop-operation.operation-index c.loop-operation.stays.items
    (omega arith) c.loop-operation.invariant.counted
