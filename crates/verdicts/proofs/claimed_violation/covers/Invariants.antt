use Rattle.verdicts.proofs.Common.{length, LinesCover, operations_of, ◌↔◌}
use Rattle.verdicts.proofs.claimed_violation.covers.Given as goal

abbrev pub invariant-loop-rest : goal.invariant-loop-rest
invariant-loop-rest l = LinesCover l.history.initial (operations_of l.history.events) l.empty l.line l.rest
    ↔ LinesCover l.history.initial (operations_of l.history.events) l.empty l.empty l.lines

abbrev pub decreases-loop-rest : goal.decreases-loop-rest
decreases-loop-rest l = length l.rest
