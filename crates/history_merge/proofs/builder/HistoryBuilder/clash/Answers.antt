use Rattle.history_merge.proofs.Faults.{none_in_complete}
use Rattle.history_merge.proofs.builder.HistoryBuilder.clash.Goals as goal

pub returns-clause-none : goal.returns-clause-none
returns-clause-none c = λ initial events gathered complete.
    none_in_complete initial events c.clash.result complete (c.clash.ensures.fault initial events (rw c.self.view_is gathered))
