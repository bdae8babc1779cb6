use Rattle.history_text.proofs.Common.{◌+◌, ◌-◌, ◌*◌, ◌≡◌, event_format, HaveLines, length, lines_of, MAX_EVENTS}
use Rattle.history_text.proofs.Common.{Takes}
use Rattle.history_text.proofs.reader.TextReader.collect_events.Given as goal

abbrev pub invariant-loop-event : goal.invariant-loop-event
invariant-loop-event g l = record {
  right : HaveLines event_format l.into.items;
  taken : Takes l.fn.self.left l.self.left (lines_of event_format l.into.items);
  count : l.count ≡ length l.into.items;
  lines : l.self.lines ≡ l.fn.self.lines + l.count;
}

abbrev pub decreases-loop-event : goal.decreases-loop-event
decreases-loop-event g l = 3 * (MAX_EVENTS + 1 - l.count) + (2 - l.tries)
