use Rattle.verdicts.proofs.Common.{few_initial, operations_of}
use Rattle.verdicts.proofs.ClaimedLines.{through}
use Rattle.verdicts.proofs.ShownLines.{none_exactly}
use Rattle.verdicts.proofs.lookup.no_line_did.Goals as goal

pub returns : goal.returns
returns c =
    let history = c.args.history.now in
    let operations = operations_of history.events in
    through (rw c.by_time.ensures.by_time at c.none_did.ensures)
    (none_exactly history.initial operations (few_initial history.initial operations (rw c.by_time.ensures.by_time at c.by_time.ensures.complete)) c.args.kind)
