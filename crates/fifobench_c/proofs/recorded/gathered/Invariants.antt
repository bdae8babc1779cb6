use Rattle.fifobench_c.proofs.Common.{[], List, take, AreEvents, Event}
use Rattle.history_merge.specs.Gathering.{HasGathered}
use Rattle.fifobench_c.proofs.recorded.gathered.Given as goal

abbrev pub invariant-loop-place : goal.invariant-loop-place
invariant-loop-place l = (events : List Event) × AreEvents (take l.place l.structs) events × HasGathered [] events l.builder
