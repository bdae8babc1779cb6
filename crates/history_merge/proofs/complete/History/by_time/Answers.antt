use Rattle.history_merge.proofs.Common.{arith, events_of}
use Rattle.history_merge.proofs.Distinct.{few_operations}
use Rattle.history_merge.proofs.Timelines.{length_timeline, timeline_is_complete}
use Rattle.history_merge.proofs.complete.History.by_time.Goals as goal

pub returns-clause-complete : goal.returns-clause-complete
returns-clause-complete c =
    let whole = timeline_is_complete c.self.inside.timeline.initial _ c.self.invariant.complete c.all.ensures.few in
    grind arith

pub returns-clause-few : goal.returns-clause-few
returns-clause-few c =
    let half = few_operations (events_of c.self.inside.timeline.operations) in
    grind (arith, length_timeline)
