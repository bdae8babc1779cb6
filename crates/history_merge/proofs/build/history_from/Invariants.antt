use Rattle.history_merge.proofs.Common.{HasGathered, take}
use Rattle.history_merge.proofs.build.history_from.Given as goal

abbrev pub invariant-loop-event : goal.invariant-loop-event
invariant-loop-event l = HasGathered l.fn.initial.items (take l.event-index l.events) l.builder
