use Rattle.verdicts.proofs.ClaimedLines.{HasExtended}
use Rattle.verdicts.proofs.claimed_order.extends_precedence.Given as goal

abbrev pub invariant-loop-line : goal.invariant-loop-line
invariant-loop-line l = HasExtended l.lines l.line-index l.greatest_call
