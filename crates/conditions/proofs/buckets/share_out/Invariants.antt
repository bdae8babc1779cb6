use Rattle.conditions.specs.Inner.Producers.{KnowsProducers}
use Rattle.conditions.specs.Inner.Sharing.{HasSharedOut}
use Rattle.verdicts.specs.Selection.{contents_of}
use Rattle.conditions.proofs.buckets.share_out.Given as goal

abbrev pub invariant-loop-place : goal.invariant-loop-place
invariant-loop-place l = HasSharedOut (contents_of l.history) l.place l.used l.fn.emptiness l.buckets.items
    × KnowsProducers (contents_of l.history) l.search
