-- The two ends of a ring and a close token, as contracts see them.
use Rattle.std.specs.Prelude.{◌≡◌, ℕ, List, ◌++◌, length}
use Rattle.std.specs.declared.alloc.Global.{Global}
use denote.RawPtr.{Ptr}
use Rattle.rtrb.specs.Shared.{Names}
use Rattle.rtrb.specs.declared.end.End.{End}
use Rattle.rtrb.specs.declared.producer.Producer.{Producer}
use Rattle.rtrb.specs.declared.consumer.Consumer.{Consumer}
use Rattle.rtrb.specs.declared.finished.Finished.{Finished}
use Rattle.event_records.specs.declared.event.Event.{Event}

-- the name of a ring, which its two ends have in common
abbrev pub RingName : Type 0
RingName = Ptr × Ptr × Names × Global

module _ {T P : Type 0} where
  -- the name of the ring that this is an end of
  abbrev pub name_of : End T Global P → RingName
  name_of e = (e.words, e.slots, e.names, e.heap)

  -- the ring of a producer
  abbrev pub ring_of_producer : Producer T Global P → RingName
  ring_of_producer p = name_of p.end

  -- the ring of a consumer
  abbrev pub ring_of_consumer : Consumer T Global P → RingName
  ring_of_consumer c = name_of c.end

  -- the ring of a producer that was finished
  abbrev pub ring_of_finished : Finished T Global P → RingName
  ring_of_finished f = name_of f.end

-- the end that pushes: the capacity of the ring, the events sent, oldest first, and the number of further events for
-- which it knows room
pub record PushView : Type 0 where
  pub ring : RingName
  pub thread : ℕ
  pub capacity : ℕ
  pub sent : List Event
  pub room : ℕ

-- the end that drains, with all events that it has received, oldest first
pub record DrainView : Type 0 where
  pub ring : RingName
  pub thread : ℕ
  pub received : List Event

-- the end has received `n` more events, and they were appended to a list
pub record DrainsInto (n : ℕ) (before after : DrainView) (events events' : List Event) : Type 0 where
  pub drained : List Event
  pub many : length drained ≡ n
  pub received : after ≡ record before { received = before.received ++ drained }
  pub put : events' ≡ events ++ drained

-- a closed ring, with all events that were ever sent
pub record TokenView : Type 0 where
  pub ring : RingName
  pub thread : ℕ
  pub sent : List Event
