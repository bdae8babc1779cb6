use Rattle.history_merge.proofs.Common.{◌-◌, ◌≡◌, enqueues_from, length, ORIGIN, take}
use Rattle.history_merge.proofs.timeline.Timeline.with_capacity.Given as goal

abbrev pub invariant-loop-place : goal.invariant-loop-place
invariant-loop-place l = l.all.items ≡ enqueues_from (ORIGIN - length l.fn.initial.items) (take l.place l.fn.initial.items)
