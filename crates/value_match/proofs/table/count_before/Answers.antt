use Rattle.value_match.proofs.Common.{Front, IsPartitionedBy-ltb, IsPartitionPoint-from_clause, ltb, rules}
use Rattle.value_match.proofs.table.count_before.Goals as goal

pub returns-clause-cut : goal.returns-clause-cut
returns-clause-cut c =
    IsPartitionPoint-from_clause (λ (f : Front). ltb f.enqueue_return c.args.limit) c.args.fronts.now _ c.partition_point.ensures.partitioned
    (IsPartitionedBy-ltb (λ (f : Front). f.enqueue_return) c.args.fronts.now c.args.limit c.requires)
    (λ a r f k. search rules)
