use Rattle.drawing.proofs.Common.{◌++◌, ◌≡◌, ◌≤◌, drop, rows_after}
use Rattle.drawing.proofs.scene.push_rows_of_events.Given as goal

abbrev pub invariant-loop-event : goal.invariant-loop-event
invariant-loop-event l = record {
  rows : l.fn.rows.items ++ rows_after l.drawn l.order 0 0 l.events
      ≡ l.rows.items ++ rows_after l.drawn l.order l.count l.last (drop l.event-index l.events);
  count : l.count ≤ l.event-index;
}
