use Rattle.history_text.proofs.Common.{◌++◌, ◌≡◌, All, flat_map, event_line, HasValueInRange, TakesSome}
use Rattle.history_text.proofs.history_writer.put_events.Given as goal

abbrev pub invariant-loop-event : goal.invariant-loop-event
invariant-loop-event g l = record {
  all : l.yielded ++ l.event-iterator ≡ l.fn.events;
  put : TakesSome g.W.TextSink.contents g.W.TextSink.has_refused g.W.TextSink.transition l.fn.kept l.kept
      (flat_map event_line l.yielded)
      l.fn.writer l.writer;
  fits : All (λ e. HasValueInRange e.what) l.yielded;
}
