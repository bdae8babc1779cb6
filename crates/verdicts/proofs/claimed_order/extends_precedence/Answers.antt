use Rattle.verdicts.proofs.ClaimedLines.{extended_at}
use Rattle.verdicts.proofs.claimed_order.extends_precedence.Goals as goal

pub loop-line-preserved : goal.loop-line-preserved
loop-line-preserved c =
    let more = extended_at c.args.lines.now c.loop-line.line-index c.loop-line.greatest_call _ c.loop-line-test.true c.if-line-greatest_call.false
    c.loop-line.invariant in
    rw c.max-greatest_call.ensures more
