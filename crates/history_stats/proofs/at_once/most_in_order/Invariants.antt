use Rattle.history_stats.proofs.AtOnce.{IsMostSoFar}
use Rattle.history_stats.proofs.at_once.most_in_order.Given as goal

abbrev pub invariant-loop-place : goal.invariant-loop-place
invariant-loop-place l = IsMostSoFar l.first l.arrivals l.departures l.place l.most l.gone
