use Rattle.std.proofs.Common.{◌≡◌, drop, map, max}
use Rattle.history_stats.specs.Overtaking.{greatest}
use Rattle.history_stats.proofs.overtaking.greatest_count.Given as goal

abbrev pub invariant-loop-overtaking : goal.invariant-loop-overtaking
invariant-loop-overtaking l = max l.most (greatest (map (λ o. o.count) (drop l.overtaking-index l.overtakings))) ≡ greatest (map (λ o. o.count) l.overtakings)
