-- The ends of a queue that a worker has for itself.
use Rattle.std.specs.Prelude.{Option, None}
use Rattle.atomic_table.specs.Seated.{TableId}
use Rattle.event_records.specs.declared.kind.Kind.{Kind}
use Rattle.event_records.specs.declared.kind.Kind.TheVariants.{Enq, Deq}

-- the tail end and the head end of a queue, each by the key of its ticket word; none if the worker does not have it
pub record EndsView : Type 0 where
  pub tail : Option TableId
  pub head : Option TableId

-- neither end
abbrev pub no_ends : EndsView
no_ends = record { tail = None; head = None }

-- the end at which an operation of this kind works
abbrev pub end_for : Kind → EndsView → Option TableId
end_for Enq ends = ends.tail
end_for Deq ends = ends.head
