use Rattle.history_merge.proofs.Common.{ap, arith, count_by}
use Rattle.history_merge.proofs.TheirEvents.{has_returned, length-events_of}
use Rattle.history_merge.proofs.events.event_count.Goals as goal

pub returns : goal.returns
returns c =
    let none = ap (count_by has_returned) c.in-None.ensures.steps.0 in
    omega (arith, none, c.loop-operation.invariant.counted, length-events_of c.args.operations.now)
