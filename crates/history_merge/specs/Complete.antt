-- Complete histories (Herlihy and Wing 1990, section 2.1) of distinct values.
use Rattle.std.specs.Prelude.{◌≡◌, ◌≢◌, ℕ, ◌<◌, ◌≤◌, List, Option, Some, None, All, AllPairs, filter_map}
use Rattle.event_records.specs.declared.event.Event.{Event}
use Rattle.event_records.specs.declared.event.What.{What}
use Rattle.event_records.specs.declared.event.What.TheVariants.{CallEnq}
use Rattle.event_records.specs.Turns.{TakesTurns, TicketsRise}
use Rattle.event_records.specs.Projection.{projection}
use Rattle.history_merge.specs.Operations.{enqueued_value}
use Rattle.history_merge.specs.declared.operation.Operation.{Operation}
use Rattle.history_merge.specs.declared.operation.OpKind.TheVariants.{Enqueue}
use Rattle.event_records.specs.declared.limits.TheConstants.{MAX_TICKET, MAX_THREAD, MAX_TIME}

-- the value that a call enqueues
abbrev pub called_value : What → Option ℕ
called_value (CallEnq v) = Some v
called_value _ = None

-- the values of the calls, in their order
abbrev pub called_values : List Event → List ℕ
called_values events = filter_map (λ e. called_value e.what) events

-- no number is in the list twice
abbrev pub AreDistinct : List ℕ → Type 0
AreDistinct values = AllPairs (λ v w. v ≢ w) values

-- tickets rise, each thread calls and returns in turn and leaves no call pending, and no two calls enqueue one value
pub record IsCompleteHistory (events : List Event) : Type 0 where
  pub tickets_rise : TicketsRise events
  pub tickets_in_range : All (λ e. e.ticket ≤ MAX_TICKET) events
  pub threads_in_range : All (λ e. e.thread ≤ MAX_THREAD) events
  pub threads_take_turns : (thread : ℕ) → TakesTurns (projection thread events)
  pub values_are_distinct : AreDistinct (called_values events)

-- ---- operations on a scale of times, by tickets or on a timeline

-- the operation returns after its call, or, as a successful enqueue, at its call at the earliest, and within the
-- scale
pub record IsTimed (o : Operation) : Type 0 where
  pub returns_late : o.call ≤ o.ret
  pub takes_time : ((v : ℕ) → o.kind ≢ Enqueue v) → o.call < o.ret
  pub above_zero : 0 < o.ret
  pub in_range : o.ret ≤ MAX_TIME

-- the first operation is called before the second, returns at no time of the second, and calls to enqueue another
-- value
pub record AreApart (x y : Operation) : Type 0 where
  pub called_first : x.call < y.call
  pub returns_apart : x.ret ≢ y.ret
  pub return_apart : x.ret ≢ y.call
  pub values_apart : (v : ℕ) → enqueued_value x.kind ≡ Some v → ¬ (enqueued_value y.kind ≡ Some v)

-- the operations are timed, in the order of their calls, and no two share a time or a value that they call to enqueue
pub record AreComplete (operations : List Operation) : Type 0 where
  pub timed : All IsTimed operations
  pub apart : AllPairs AreApart operations
