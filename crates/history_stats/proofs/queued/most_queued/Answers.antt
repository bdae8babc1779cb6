use Rattle.history_stats.specs.Inner.AtOnce.{is_kept_before}
use Rattle.history_stats.proofs.AtOnce.{most_queued_is}
use Rattle.history_stats.proofs.queued.most_queued.Goals as goal

pub returns : goal.returns
returns c =
    let firsts = rw c.new-departures.ensures.items at c.in_ok-add_initial.ensures in
    let puts = rw c.new-arrivals.ensures.items at c.in_ok-add_enqueued.ensures.stays in
    most_queued_is c.args.initial.now c.args.operations.now (λ gap v. is_kept_before gap c.in_ok-takes.takes v) c.add_enqueued.new.arrivals.items
    c.add_initial.new.departures.items c.add_enqueued.new.departures.items c.most_of.result c.in_ok-takes.ensures firsts puts c.most_of.ensures
