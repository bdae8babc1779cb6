use Rattle.value_match.proofs.Common.{arith}
use Rattle.value_match.proofs.Fronts.{all_listed, lists_more}
use Rattle.value_match.proofs.table.fronts_of.Goals as goal

pub loop-place-preserved : goal.loop-place-preserved
loop-place-preserved c =
    rw (c.in_ok-push.ensures.items, c.enqueue_return.ensures)
    (lists_more _ _ _ _ (omega (arith, c.loop-place-test.true, c.len.ensures)) c.get-value.ensures c.loop-place.invariant)

pub returns : goal.returns
returns c = all_listed _ _ _ (omega (arith, c.loop-place-test.false, c.len.ensures)) c.loop-place.invariant
