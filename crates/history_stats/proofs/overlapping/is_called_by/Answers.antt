use Rattle.history_stats.proofs.Overlaps.{called_by_first}
use Rattle.history_stats.proofs.overlapping.is_called_by.Goals as goal

pub returns-in-Some : goal.returns-in-Some
returns-in-Some c = called_by_first c.args.ticket c.args.operations.now c.next.new.self c.in-Some.first
    (rw c.iter.ensures at c.in-Some.ensures.steps) c.requires
