use Rattle.std.proofs.Common.{take}
use Rattle.std.specs.Prelude.{filter}
use Rattle.history_merge.specs.Legal.{ArePlacesOf}
use Rattle.history_merge.specs.Operations.{operations_of}
use Rattle.verdicts.specs.Selection.{contents_of}
use Rattle.conditions.specs.Inner.Producers.{KnowsProducers, goes_to, share_of}
use Rattle.conditions.proofs.sharing.places_selected.Given as goal

abbrev pub invariant-loop-place : goal.invariant-loop-place
invariant-loop-place l = ArePlacesOf (operations_of l.history.events) l.places.items
    (filter (λ o. goes_to l.fn.producer (share_of (contents_of l.history) l.fn.emptiness o.kind)) (take l.place (operations_of l.history.events)))
    × KnowsProducers (contents_of l.history) l.search
