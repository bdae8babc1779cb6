use Rattle.std.proofs.lemmas.Iterator.{items_from_collect}
use Rattle.std.proofs.lemmas.Iterator.Consumers.{YieldsList-from_first}
use Rattle.history_stats.proofs.statistics.listed_events.Goals as goal

pub returns-clause-listed : goal.returns-clause-listed
returns-clause-listed c =
    items_from_collect _ c.collect.ensures.ran (YieldsList-from_first (λ e. e) (λ rest. rest) c.args.history.now.events c.events.ensures.events)
