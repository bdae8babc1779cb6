use Rattle.std.proofs.lemmas.Result.{IfOk-weaker}
use Rattle.history_stats.specs.Inner.AtOnce.{is_kept_before}
use Rattle.history_stats.proofs.FailedEnqueues.{left_is_there, refused_at_maybe}
use Rattle.history_stats.proofs.failed_enqueues.refused_at.Goals as goal

pub returns : goal.returns
returns c =
    let firsts = rw c.new-departures.ensures.items at c.in_ok-add_initial.ensures in
    let puts = rw c.new-arrivals.ensures.items at c.in_ok-add_enqueued.ensures.stays in
    IfOk-weaker c.refused_at_among.result _ _ (λ least is. refused_at_maybe least c.args.operations.now _ _
    (left_is_there c.args.initial.now c.args.operations.now (λ gap v. is_kept_before gap c.in_ok-gone.gone v) c.add_enqueued.new.arrivals.items
    c.add_initial.new.departures.items c.add_enqueued.new.departures.items c.in_ok-gone.ensures firsts puts) is) c.refused_at_among.ensures
