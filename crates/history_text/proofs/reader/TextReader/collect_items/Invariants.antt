use Rattle.history_text.proofs.Common.{◌+◌, ◌-◌, ◌*◌, ◌≡◌, length, List, HaveLines, lines_of, Takes}
use Rattle.history_text.proofs.reader.TextReader.collect_items.Given as goal

abbrev pub invariant-loop-item : goal.invariant-loop-item
invariant-loop-item g l = record {
  items : List g.row.T.Denot;
  right : HaveLines g.T.Item.format items;
  taken : Takes l.fn.self.left l.self.left (lines_of g.T.Item.format items);
  held : g.C.Collects.Adds l.fn.into l.into items;
  count : l.count ≡ length items;
  lines : l.self.lines ≡ l.fn.self.lines + l.count;
}

abbrev pub decreases-loop-item : goal.decreases-loop-item
decreases-loop-item g l = 3 * (g.T.Item.format.most + 1 - l.count) + (2 - l.tries)
