use Rattle.history_stats.proofs.AtOnce.{most_pending_is}
use Rattle.history_stats.proofs.pending.most_pending.Goals as goal

pub returns : goal.returns
returns c = most_pending_is c.args.operations.now c.in_ok-calls.calls.items c.in_ok-returns.returns.items _ c.requires.forward c.in_ok-calls.ensures
    c.in_ok-returns.ensures c.most_of.ensures
