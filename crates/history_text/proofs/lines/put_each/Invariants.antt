use Rattle.history_text.proofs.Common.{All, flat_map, take, TakesSome}
use Rattle.history_text.proofs.lines.put_each.Given as goal

abbrev pub invariant-loop-item : goal.invariant-loop-item
invariant-loop-item g l = record {
  put : TakesSome g.W.TextSink.contents g.W.TextSink.has_refused g.W.TextSink.transition l.fn.kept l.kept
      (flat_map (g.L.WritesLine.line l.lines) (take l.item-index l.items)) l.fn.writer l.writer;
  fits : All (g.L.WritesLine.Fits l.lines) (take l.item-index l.items);
}
