use Rattle.history_text.proofs.Common.{All-more, one_more_put, stops_at_next}
use Rattle.history_text.proofs.lines.put_each.Goals as goal

pub returns-in_err-put_one-clause-text : goal.returns-in_err-put_one-clause-text
returns-in_err-put_one-clause-text g c = stops_at_next _ _ _ (g.L.WritesLine.line c.args.lines.now) _ c.from_residual.result c.args.items.now
    c.loop-item.item-index c.item-item.result _ _ _ _ _ _ c.loop-item-test.true c.loop-item.invariant.put c.from_residual.ensures.1
    (rw c.item-item.is at c.in_err-put_one.ensures.text)

pub loop-item-preserved : goal.loop-item-preserved
loop-item-preserved g c = record {
  put = one_more_put _ _ _ (g.L.WritesLine.line c.args.lines.now) c.args.items.now c.loop-item.item-index c.item-item.result _ _ _ _ _ _
      c.loop-item-test.true c.loop-item.invariant.put (rw c.item-item.is at c.in_ok-put_one.ensures.text);
  fits = All-more (g.L.WritesLine.Fits c.args.lines.now) c.args.items.now c.loop-item.item-index c.item-item.result c.loop-item-test.true
      c.loop-item.invariant.fits (rw c.item-item.is at c.in_ok-put_one.ensures.fits);
}
