use Rattle.history_merge.proofs.Faults.{kept_is_clash, kept_is_first, none_met, run_of_forming}
use Rattle.history_merge.proofs.gathering.Gathering.clash.Goals as goal

pub first_event-requires : goal.first_event-requires
first_event-requires c =
    let known = c.requires in
    (known.1, run_of_forming known.0 known.1 c.args.self.now (none_met known.0 known.1 c.args.self.now c.if-is_some.ensures known.2))

pub returns-then-is_some-clause-clash : goal.returns-then-is_some-clause-clash
returns-then-is_some-clause-clash c = λ initial events gathered. kept_is_clash initial events c.args.self.now gathered

pub returns-then-is_some-clause-fault : goal.returns-then-is_some-clause-fault
returns-then-is_some-clause-fault c = λ initial events gathered. kept_is_first initial events c.args.self.now gathered

pub returns-clause-clash : goal.returns-clause-clash
returns-clause-clash c = λ initial events gathered.
    let known = none_met initial events c.args.self.now c.if-is_some.ensures gathered in
    let found = c.in_ok-placed.ensures events (run_of_forming initial events c.args.self.now known) gathered.few in
    let least = c.in_ok-call.ensures events known.formed in
    (found.stands, rw found.is_sought least.0)

pub returns-clause-fault : goal.returns-clause-fault
returns-clause-fault c = λ initial events gathered.
    let known = none_met initial events c.args.self.now c.if-is_some.ensures gathered in
    let found = c.in_ok-placed.ensures events (run_of_forming initial events c.args.self.now known) gathered.few in
    let least = c.in_ok-call.ensures events known.formed in
    (known.distinct, known.no_fault, rw found.is_sought least.1)
