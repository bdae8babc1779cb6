use Rattle.std.proofs.Common.{◌≡◌, List, take}
use Rattle.event_records.specs.declared.event.Event.{Event}
use Rattle.history_merge.specs.Operations.{operations_of}
use Rattle.history_merge.specs.Parts.{IsPartAt}
use Rattle.history_merge.proofs.part.part_at.Given as goal

abbrev pub invariant-loop-place : goal.invariant-loop-place
invariant-loop-place l = (l.timeline.initial ≡ l.fn.initial.items)
    × ((events : List Event) → IsPartAt l.history l.fn.initial.items l.places events → l.timeline.operations ≡ take l.place-index (operations_of events))
