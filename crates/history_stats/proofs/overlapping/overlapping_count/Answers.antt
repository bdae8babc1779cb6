use Rattle.std.proofs.Common.{cond, ◌+◌, ◌≡◌, ap, arith, ℕ}
use Rattle.std.specs.Prelude.{nat_lt}
use Rattle.history_stats.proofs.Overlaps.{counted_more, left_rise}
use Rattle.history_stats.proofs.overlapping.overlapping_count.Goals as goal
use Rattle.history_stats.proofs.overlapping.overlapping_count.Goals.{then-overlaps_another, else-overlaps_another}

pub overlaps_another-requires : goal.overlaps_another-requires
overlaps_another-requires c = left_rise c.args.operations.now c.loop-operation.later c.next.new.self c.in-Some.operation
    c.loop-operation.count c.loop-operation.last_return c.in-Some.ensures.steps c.requires.calls_rise c.loop-operation.invariant

pub loop-operation-preserved : goal.loop-operation-preserved
loop-operation-preserved c = counted_more c.args.operations.now c.loop-operation.later c.next.new.self c.in-Some.operation c.loop-operation.count
    c.loop-operation.last_return c.max-last_return.result c.if-overlaps_another.count _ c.overlaps_another.result c.in-Some.ensures.steps
    c.requires.calls_rise c.requires.forward (λ i. nat_lt (c.len.ensures.exact i + 1) (c.len-all.ensures.exact i)) c.overlaps_another.ensures
    counts c.max-last_return.ensures c.loop-operation.invariant
  where
    counts : c.if-overlaps_another.count ≡ c.loop-operation.count + cond c.overlaps_another.result 1 0
    counts = elim c.if-overlaps_another.branch [
      | then-overlaps_another w ↦ omega (arith, ap {B = ℕ} (λ b. cond b 1 0) w.if-overlaps_another.true)
      | else-overlaps_another w ↦ omega (arith, ap {B = ℕ} (λ b. cond b 1 0) w.if-overlaps_another.false)
    ]
