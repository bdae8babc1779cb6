use Rattle.history_text.proofs.Common.{◌+◌, ◌∙◌, ◌∷◌, ◌++◌, ◌<◌, ◌≡◌, [], arith, common_steps, Event, event_format}
use Rattle.history_text.proofs.Common.{HasEventLine, length-append}
use Rattle.history_text.proofs.Common.{line_of, MAX_EVENTS, subst, sym, Takes}
use Rattle.history_text.proofs.Consuming.{taken_through}
use Rattle.history_text.proofs.FirstFaults.{carries, HaveLines-push, no_room, takes_item}
use Rattle.history_text.proofs.PendingFaults.{stops_after}
use Rattle.history_text.proofs.reader.TextReader.collect_events.Goals as goal
use Rattle.history_text.proofs.reader.TextReader.collect_events.Goals.{in-None-2+in_ok-event-in-None-2+in-OneEvent}
use Rattle.history_text.proofs.reader.TextReader.collect_events.Goals.{in-Some}

pub returns-in_err-event-in-None-2-clause-fault : goal.returns-in_err-event-in-None-2-clause-fault
returns-in_err-event-in-None-2-clause-fault g c =
    let known = c.loop-event.invariant in
    let failed = c.in_err-event-in-None-2.ensures in
    rw (carries c.from_residual.result _ c.from_residual.ensures.1)
    (stops_after c.args.is_pending _ _ c.loop-event.into.items known.right _ _ _ failed.of_input
    (omega (arith, known.lines, known.count)) known.taken (rw (c.in-None.ensures.none, known.count) at failed.fault))

pub returns-then-is_err-clause-fault : goal.returns-then-is_err-clause-fault
returns-then-is_err-clause-fault g c =
    let known = c.loop-event.invariant in
    elim c.match-item_in_buffer.branch [
      | in-Some w ↦
          let taken = w.in-Some.ensures.item in
          no_room event_format c.loop-event.into.items w.in-Some.event _ _ _ known.right known.taken (rw known.count at taken.2) taken.1 taken.0
      | in-None-2+in_ok-event-in-None-2+in-OneEvent w ↦
          let taken = rw w.in-OneEvent.is at w.in_ok-event-in-None-2.ensures.ok in
          no_room event_format c.loop-event.into.items w.in-OneEvent.event _ _ _ known.right (rw (← w.in-None.ensures.none) at known.taken)
          (rw known.count at taken.2) taken.1 taken.0
    ]

pub loop-event-preserved-in-None : goal.loop-event-preserved-in-None
loop-event-preserved-in-None g c =
    let known = c.loop-event.invariant in record {
      right = known.right;
      taken = taken_through _ _ _ _ known.taken (rw c.in-None.ensures.none at c.complete_line.ensures.left);
      count = known.count;
      lines = (rw c.in-None.ensures.none at c.complete_line.ensures.lines) ∙ known.lines;
    }

pub loop-event-preserved : goal.loop-event-preserved
loop-event-preserved g c =
    let known = c.loop-event.invariant in
    let events = c.loop-event.into.items in
    let event = c.match-item_in_buffer.event in
    let Taken : Event → Type 0 = λ e. Takes c.loop-event.self.left c.match-item_in_buffer.self.left (line_of event_format e) × HasEventLine e
    × (c.loop-event.count < MAX_EVENTS) × (c.match-item_in_buffer.self.lines ≡ c.loop-event.self.lines + 1) in
    let took : Taken event =
    elim c.match-item_in_buffer.branch [
      | in-Some w ↦
          let taken = w.in-Some.ensures.item in
          subst Taken (sym w.event-is) (rw w.self-is (taken.0, taken.1, taken.2, w.in-Some.ensures.lines))
      | in-None-2+in_ok-event-in-None-2+in-OneEvent w ↦
          let taken = rw (w.in-OneEvent.is, w.in-None.ensures.none) at w.in_ok-event-in-None-2.ensures.ok in
          subst Taken (sym w.event-is)
          (rw w.self-is (taken.0, taken.1, taken.2, rw w.in-None.ensures.none at w.in_ok-event-in-None-2.ensures.lines))
    ] in
    let pushed : c.push.new.self.items ≡ events ++ event ∷ [] = grind (arith, common_steps) in record {
      right = rw pushed (HaveLines-push event_format events event known.right took.1 (rw known.count at took.2));
      taken = rw pushed (takes_item event_format events event _ _ _ known.taken took.0);
      count = rw (pushed, length-append) (omega (arith, known.count));
      lines = omega (arith, known.lines, took.3);
    }
