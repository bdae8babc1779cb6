-- The events of operations: their calls and returns, in rising order of tickets.
use Rattle.std.specs.Prelude.{nat_eq, nat_lt, List, [], ◌∷◌, Option, None, Some, if◌then◌else◌}
use Rattle.event_records.specs.declared.event.Event.{Event}
use Rattle.event_records.specs.declared.event.What.{What}
use Rattle.event_records.specs.declared.event.What.TheVariants.{CallEnq, RetEnq, RetNot, CallDeq, RetDeq, RetEmpty}
use Rattle.history_merge.specs.declared.operation.Operation.{Operation}
use Rattle.history_merge.specs.declared.operation.OpKind.{OpKind}
use Rattle.history_merge.specs.declared.operation.OpKind.TheVariants.{Enqueue, Dequeue, DequeueEmpty, EnqueueFailed}

-- the call of an operation of this kind
abbrev pub called_by : OpKind → What
called_by (Enqueue v) = CallEnq v
called_by (EnqueueFailed v) = CallEnq v
called_by (Dequeue v) = CallDeq
called_by DequeueEmpty = CallDeq

-- the return of an operation of this kind
abbrev pub answered_by : OpKind → What
answered_by (Enqueue v) = RetEnq
answered_by (EnqueueFailed v) = RetNot
answered_by (Dequeue v) = RetDeq v
answered_by DequeueEmpty = RetEmpty

-- the event of an operation's call
abbrev pub call_event : Operation → Event
call_event o = record { ticket = o.call; thread = o.thread; what = called_by o.kind }

-- the event of an operation's return
abbrev pub return_event : Operation → Event
return_event o = record { ticket = o.ret; thread = o.thread; what = answered_by o.kind }

-- the event inserted before the first event with a later ticket
abbrev pub put_by_ticket : Event → List Event → List Event
put_by_ticket e [] = e ∷ []
put_by_ticket e (f ∷ later) = (if nat_lt e.ticket f.ticket then e ∷ f ∷ later else f ∷ put_by_ticket e later)

-- an optional event inserted by ticket
abbrev pub put_maybe : Option Event → List Event → List Event
put_maybe None events = events
put_maybe (Some e) events = put_by_ticket e events

-- optional events inserted by ticket, one by one
abbrev pub put_each : List (Option Event) → List Event → List Event
put_each [] events = events
put_each (e ∷ others) events = put_maybe e (put_each others events)

-- the event of an operation's return, or none while it is pending, with the return 0
abbrev pub maybe_return : Operation → Option Event
maybe_return o = (if nat_eq o.ret 0 then None else Some (return_event o))

-- the events of operations in the order of their calls: each call, with its return inserted by ticket among the
-- events of the later operations
abbrev pub events_of : List Operation → List Event
events_of [] = []
events_of (o ∷ later) = call_event o ∷ put_maybe (maybe_return o) (events_of later)
