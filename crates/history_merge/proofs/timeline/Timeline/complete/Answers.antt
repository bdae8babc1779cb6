use Rattle.history_merge.proofs.Common.{arith, get_or, get_or_from_slice_get, set, timeline, ◌+◌, ◌≡◌}
use Rattle.history_merge.proofs.Timelines.{completed, is_timeline, operations_back}
use Rattle.history_merge.proofs.timeline.Timeline.complete.Goals.{After-self-1}
use Rattle.history_merge.proofs.timeline.Timeline.complete.Goals as goal

-- the timeline with the operation at this place completed
changed : (c : After-self-1) → set c.self.inside.all.items (c.len.result + c.args.place) c.new.result
    ≡ timeline c.self.inside.initial.items (set c.args.self.now.operations c.args.place
    (record (get_or c.args.self.now.operations c.args.place c.index.result.now) { ret = c.args.ret; kind = c.args.kind }))
changed c = grind (arith, completed)

pub invariant_of-self : goal.invariant_of-self
invariant_of-self c = is_timeline c.self.inside.initial.items _ _ c.self.invariant.few (changed c)

pub returns-clause-operations : goal.returns-clause-operations
returns-clause-operations c = grind (arith, operations_back, changed, get_or_from_slice_get)
