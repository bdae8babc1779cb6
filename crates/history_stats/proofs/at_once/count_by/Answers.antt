use Rattle.std.proofs.Common.{rules}
use Rattle.std.specs.Prelude.{nat_le}
use Rattle.std.proofs.lemmas.List.Sorted.{IsPartitionedBy-leb, IsPartitionPoint-from_clause}
use Rattle.history_stats.proofs.AtOnce.{count_by_place}
use Rattle.history_stats.proofs.at_once.count_by.Goals as goal

pub returns : goal.returns
returns c =
    let tickets = c.args.tickets.now in
    count_by_place c.args.ticket c.partition_point.result tickets c.partition_point.ensures.bound
    (IsPartitionPoint-from_clause (λ t. nat_le t c.args.ticket) tickets _ c.partition_point.ensures.partitioned
    (IsPartitionedBy-leb (λ t. t) tickets c.args.ticket c.requires) (λ a r f k. search rules))
