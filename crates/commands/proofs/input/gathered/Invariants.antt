use Rattle.std.proofs.Common.{take}
use Rattle.history_merge.specs.Gathering.{HasGathered}
use Rattle.commands.proofs.input.gathered.Given as goal

abbrev pub invariant-loop-event : goal.invariant-loop-event
invariant-loop-event l = HasGathered l.fn.initial.items (take l.event-index l.events) l.builder
