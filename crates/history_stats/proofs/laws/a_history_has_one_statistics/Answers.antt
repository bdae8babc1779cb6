use Rattle.history_stats.proofs.OneStatistics.{one_statistics}
use Rattle.history_stats.proofs.laws.a_history_has_one_statistics.Goals as goal

pub returns : goal.returns
returns c = one_statistics
