-- Operations of events so far, while more may come.
use Rattle.std.specs.Prelude.{ℕ, suc, List, [], ◌∷◌, Option, Some, None, find, nat_eq, if◌then◌else◌}
use Rattle.event_records.specs.declared.event.Event.{Event}
use Rattle.event_records.specs.declared.event.What.{What}
use Rattle.event_records.specs.declared.event.What.TheVariants.{CallEnq, RetNot, RetDeq}
use Rattle.event_records.specs.Turns.{is_call}
use Rattle.history_merge.specs.declared.operation.Operation.{Operation}
use Rattle.history_merge.specs.declared.operation.OpKind.{OpKind}
use Rattle.history_merge.specs.declared.operation.OpKind.TheVariants.{Enqueue, Dequeue, DequeueEmpty, EnqueueFailed}

-- the kind that an operation counts as while it is pending: a successful enqueue, or an empty dequeue
abbrev pub begun : What → OpKind
begun (CallEnq v) = Enqueue v
begun _ = DequeueEmpty

-- the kind of the operation after its return
abbrev pub answered : OpKind → What → OpKind
answered (Enqueue v) RetNot = EnqueueFailed v
answered DequeueEmpty (RetDeq v) = Dequeue v
answered kind _ = kind

-- the operation of a call and of the next event of its thread, if there is one; otherwise its return is 0
abbrev pub operation_so_far : Event → Option Event → Operation
operation_so_far call None = record { call = call.ticket; ret = 0; thread = call.thread; kind = begun call.what }
operation_so_far call (Some answer) =
    record {
      call = call.ticket;
      ret = answer.ticket;
      thread = call.thread;
      kind = answered (begun call.what) answer.what;
    }

-- the operations of all calls, in their order
abbrev pub operations_so_far : List Event → List Operation
operations_so_far [] = []
operations_so_far (e ∷ later) =
    (if is_call e.what then operation_so_far e (find (λ r. nat_eq r.thread e.thread) later)
    ∷ operations_so_far later else operations_so_far later)

-- the call of this thread that no event of the thread follows, with its place among the operations
abbrev pub waiting : ℕ → List Event → Option (ℕ × Event)
waiting thread [] = None
waiting thread (e ∷ later) = elim (waiting thread later) [
  | Some found ↦ Some ((if is_call e.what then suc found.0 else found.0), found.1)
  | None ↦ elim (find (λ r. nat_eq r.thread thread) later) [
    | Some r ↦ None
    | None ↦ (if nat_eq e.thread thread then (if is_call e.what then Some (0, e) else None) else None)
  ]
]
