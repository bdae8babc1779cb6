use Rattle.history_text.proofs.Common.{◌+◌, ◌-◌, ◌≡◌, ◌≤◌, length, HaveLines, lines_of, Takes}
use Rattle.history_text.proofs.reader.TextReader.required_items.Given as goal

abbrev pub invariant-loop-self : goal.invariant-loop-self
invariant-loop-self g l = record {
  right : HaveLines g.T.Item.format l.items.items;
  taken : Takes l.fn.self.left l.self.left (lines_of g.T.Item.format l.items.items);
  few : length l.items.items ≤ l.count;
  lines : l.self.lines ≡ l.fn.self.lines + length l.items.items;
}

abbrev pub decreases-loop-self : goal.decreases-loop-self
decreases-loop-self g l = l.count - length l.items.items
