use Rattle.std.proofs.Common.{◌+◌, arith, inl, inr}
use Rattle.std.proofs.lemmas.Bool.{cases_lt}
use Rattle.history_stats.specs.Inner.AtOnce.{count_before}
use Rattle.history_stats.proofs.AtOnce.{at_least, below_at, count_few}
use Rattle.history_stats.proofs.at_once.gone_by.Goals as goal

pub loop-gone-preserved : goal.loop-gone-preserved
loop-gone-preserved c =
    at_least (c.args.ticket + 1) c.args.departures.now c.loop-gone.gone c.requires.departures c.loop-gone-test.true (omega arith)

pub returns-else-departures-gone : goal.returns-else-departures-gone
returns-else-departures-gone c = elim (cases_lt c.loop-gone.gone (count_before (c.args.ticket + 1) c.args.departures.now)) [
  | inl few ↦ absurd (omega (arith, below_at (c.args.ticket + 1) c.args.departures.now c.loop-gone.gone c.requires.departures few))
  | inr all ↦ omega arith
]

pub returns-after-loop-gone : goal.returns-after-loop-gone
returns-after-loop-gone c = omega (arith, count_few (c.args.ticket + 1) c.args.departures.now)
