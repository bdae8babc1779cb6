use Rattle.history_stats.proofs.AtOnce.{most_so_far, most_of_all, one_comes}
use Rattle.history_stats.proofs.at_once.most_in_order.Goals as goal

pub loop-place-init : goal.loop-place-init
loop-place-init c = most_so_far c.args.first c.args.arrivals.now c.args.departures.now

pub loop-place-preserved : goal.loop-place-preserved
loop-place-preserved c = rw (c.max-most.ensures, c.saturating_sub.ensures)
    (one_comes c.args.first c.args.arrivals.now c.args.departures.now c.loop-place.place c.loop-place.most c.loop-place.gone c.gone_by-gone.result
    c.requires.arrivals c.loop-place-test.true c.loop-place.invariant c.gone_by-gone.ensures)

pub returns : goal.returns
returns c = most_of_all c.args.first c.args.arrivals.now c.args.departures.now c.loop-place.place c.loop-place.most c.loop-place.gone c.loop-place-test.false
    c.loop-place.invariant
