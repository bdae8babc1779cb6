use Rattle.std.proofs.Common.{nat_lt, rules}
use Rattle.std.proofs.lemmas.List.Sorted.{IsPartitionedBy-ltb, IsPartitionPoint-from_clause}
use Rattle.history_stats.proofs.AtOnce.{count_is_place}
use Rattle.history_stats.proofs.at_once.count_before.Goals as goal

pub returns : goal.returns
returns c =
    let tickets = c.args.tickets.now in
    count_is_place c.args.ticket c.partition_point.result tickets c.partition_point.ensures.bound
    (IsPartitionPoint-from_clause (λ t. nat_lt t c.args.ticket) tickets _ c.partition_point.ensures.partitioned
    (IsPartitionedBy-ltb (λ t. t) tickets c.args.ticket c.requires) (λ a r f k. search rules))
