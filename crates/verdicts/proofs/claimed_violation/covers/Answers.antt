use Rattle.verdicts.proofs.Common.{operations_of, take_rest}
use Rattle.verdicts.proofs.ClaimedLines.{more_lines_cover, through}
use Rattle.verdicts.proofs.claimed_violation.covers.Goals as goal

pub loop-rest-preserved : goal.loop-rest-preserved
loop-rest-preserved c =
    let history = c.args.history.now in
    rw take_rest (through (more_lines_cover history.initial (operations_of history.events) c.args.empty c.loop-rest.line c.loop-rest.rest.now _
    c.in-len3-up.len_at_least (c.hands_over.ensures.0 c.if-not-hands_over.false)) c.loop-rest.invariant)
