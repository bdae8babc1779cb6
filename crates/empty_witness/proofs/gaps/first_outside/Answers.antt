use Rattle.empty_witness.proofs.Common.{leb, rules}
use Rattle.std.proofs.lemmas.List.Sorted.{IsPartitionedBy-leb, IsPartitionPoint-from_clause}
use Rattle.empty_witness.proofs.FreeGaps.{after_last_begun, none_begun, starts_rise}
use Rattle.empty_witness.proofs.gaps.first_outside.Goals as goal

pub returns-then-begun-eq0 : goal.returns-then-begun-eq0
returns-then-begun-eq0 c =
    let spans = c.args.spans.now in
    none_begun spans c.args.from _
    (IsPartitionPoint-from_clause (λ y. leb y.start c.args.from) spans _ c.partition_point-begun.ensures.partitioned
    (IsPartitionedBy-leb (λ span. span.start) spans c.args.from (starts_rise spans c.requires)) (λ a r f k. search rules)) c.if-begun-eq0.true

pub returns-else-begun-eq0 : goal.returns-else-begun-eq0
returns-else-begun-eq0 c =
    let spans = c.args.spans.now in
    after_last_begun spans c.args.from _
    (IsPartitionPoint-from_clause (λ y. leb y.start c.args.from) spans _ c.partition_point-begun.ensures.partitioned
    (IsPartitionedBy-leb (λ span. span.start) spans c.args.from (starts_rise spans c.requires)) (λ a r f k. search rules)) _ _ c.requires
    c.if-begun-eq0.false c.partition_point-begun.ensures.bound c.max.ensures
