use Rattle.history_merge.proofs.Common.{[], append-nil, arith, common_steps, nat_tests, refl, timeline, ◌≡◌}
use Rattle.history_merge.proofs.Timelines.{enqueues_more, is_timeline, operations_back}
use Rattle.history_merge.proofs.timeline.Timeline.with_capacity.Goals.{After-loop-place}
use Rattle.history_merge.proofs.timeline.Timeline.with_capacity.Goals as goal

pub loop-place-preserved : goal.loop-place-preserved
loop-place-preserved c = grind (arith, enqueues_more)

-- the enqueues are those of all initial values
whole : (c : After-loop-place) → c.loop-place.all.items ≡ timeline c.args.initial.items []
whole c = grind (arith, nat_tests, common_steps, append-nil)

pub invariant_of-result : goal.invariant_of-result
invariant_of-result c = is_timeline c.args.initial.items c.loop-place.all.items [] (omega (arith, c.requires.few)) (whole c)

pub returns : goal.returns
returns c = (refl, operations_back c.args.initial.items c.loop-place.all.items [] (whole c))
