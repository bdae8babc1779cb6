use Rattle.history_merge.proofs.Common.{ap, arith, Contents, Event, HasGathered, IsCompleteFrom, IsFormedOf, ◌∙◌}
use Rattle.std.specs.Prelude.{List, ℕ}
use Rattle.history_merge.proofs.Faults.{complete_without_fault, kept_is_met, met_fault_is_first, still_forming}
use Rattle.history_merge.proofs.Formed.{formed_of_complete}
use Rattle.history_merge.proofs.gathering.Gathering.finish.Goals.{After-into_timeline}
use Rattle.history_merge.proofs.gathering.Gathering.finish.Goals as goal

pub returns-in-Some-clause-outcome : goal.returns-in-Some-clause-outcome
returns-in-Some-clause-outcome c = grind (arith, met_fault_is_first, kept_is_met)

pub returns-in-Some-least_pending-clause-outcome : goal.returns-in-Some-least_pending-clause-outcome
returns-in-Some-least_pending-clause-outcome c = λ initial events gathered.
    let known = still_forming initial events c.args.self c.in_default.is gathered in
    let least = c.in-Some-least_pending.ensures events known.formed in
    (known.distinct, known.no_fault, least.1)

-- no call is pending
whole : (c : After-into_timeline) (initial : List ℕ) (events : List Event) → HasGathered initial events c.args.self
    → IsCompleteFrom initial events
whole c initial events gathered = grind (arith, still_forming, complete_without_fault)

-- the operations are those of the events
formed : (c : After-into_timeline) (initial : List ℕ) (events : List Event) → HasGathered initial events c.args.self
    → IsFormedOf events c.into_timeline.result.operations
formed c initial events gathered =
    let known = still_forming initial events c.args.self c.in_default.is gathered in
    formed_of_complete events c.into_timeline.result.operations (whole c initial events gathered).complete
    (ap (λ (view : Contents). view.operations) c.into_timeline.ensures ∙ known.formed.operations)

pub new-requires : goal.new-requires
new-requires c = grind (arith, still_forming, formed, whole)

pub returns-clause-outcome : goal.returns-clause-outcome
returns-clause-outcome c = λ initial events gathered.
    let known = still_forming initial events c.args.self c.in_default.is gathered in
    let at = goal.at.returns-clause-outcome c in (
      c.new.ensures.initial ∙ ap (λ (view : Contents). view.initial) c.into_timeline.ensures ∙ known.initial_is,
      c.new.ensures.events events (formed at.After-into_timeline initial events gathered),
    )
