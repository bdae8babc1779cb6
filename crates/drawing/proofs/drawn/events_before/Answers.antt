use Rattle.drawing.proofs.Common.{arith, IsPartitionPoint-from_clause, nat_lt, rules}
use Rattle.drawing.proofs.Nearness.{counted_up_to, parted_by_ticket}
use Rattle.drawing.proofs.drawn.events_before.Goals as goal

pub returns : goal.returns
returns c =
    let events = c.args.events.now in
    let point = IsPartitionPoint-from_clause (λ e. nat_lt e.ticket c.args.ticket) events c.partition_point.result c.partition_point.ensures.partitioned
    (parted_by_ticket events c.args.ticket c.requires) (λ a r f k. search rules) in
    counted_up_to (λ e. nat_lt e.ticket c.args.ticket) events c.partition_point.result c.partition_point.ensures.bound
    (λ k d less. point.0 k d (omega arith) less) point.1
