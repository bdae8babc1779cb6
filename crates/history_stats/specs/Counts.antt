-- Numbers of events and operations of a history.
use Rattle.std.specs.Prelude.{ℕ, Bool, true, false, List, not, ◌&&◌, nat_eq, nat_lt, drop, count_by, ◌==◌, ◌*◌, ◌/◌}
use Rattle.std.specs.Prelude.{if◌then◌else◌}
use Rattle.std.specs.List.{list_any, range_with_len, zip}
use Rattle.event_records.specs.declared.event.Event.{Event}
use Rattle.event_records.specs.declared.limits.TheConstants.{MAX_THREADS}
use Rattle.history_merge.specs.declared.operation.Operation.{Operation}
use Rattle.history_merge.specs.declared.operation.OpKind.{OpKind}
use Rattle.history_merge.specs.declared.operation.OpKind.TheVariants.{Enqueue, Dequeue, DequeueEmpty, EnqueueFailed}

-- ---- events

-- the thread has an event
abbrev pub has_event : List Event → ℕ → Bool
has_event events thread = list_any (λ e. nat_eq e.thread thread) events

-- the number of possible threads that have an event
unfoldable pub thread_count : List Event → ℕ
thread_count events = count_by (has_event events) (range_with_len 0 MAX_THREADS)

-- the number of events that are of another thread than the event before
abbrev pub change_count : List Event → ℕ
change_count events = count_by (λ pair. not (nat_eq pair.0.thread pair.1.thread)) (zip events (drop 1 events))

-- ---- operations

-- a successful enqueue
abbrev pub is_enqueued : OpKind → Bool
is_enqueued (Enqueue v) = true
is_enqueued _ = false

-- a failed enqueue
abbrev pub is_failed_enqueue : OpKind → Bool
is_failed_enqueue (EnqueueFailed v) = true
is_failed_enqueue _ = false

-- a dequeue that got a value
abbrev pub is_dequeued : OpKind → Bool
is_dequeued (Dequeue v) = true
is_dequeued _ = false

-- a dequeue that found the queue empty
abbrev pub is_empty : OpKind → Bool
is_empty DequeueEmpty = true
is_empty _ = false

-- the number of operations of a kind
abbrev pub kind_count : (OpKind → Bool) → List Operation → ℕ
kind_count is_kind operations = count_by (λ o. is_kind o.kind) operations

-- ---- overlaps

-- x returned before y was called
abbrev pub precedes : Operation → Operation → Bool
precedes x y = nat_lt x.ret y.call

-- the two operations are called at different tickets, and neither precedes the other
abbrev pub overlap : Operation → Operation → Bool
overlap x y = not (nat_eq x.call y.call) && (not (precedes x y) && not (precedes y x))

-- the number of operations that overlap another one
abbrev pub overlapping_count : List Operation → ℕ
overlapping_count operations = count_by (λ o. list_any (overlap o) operations) operations

-- the tenths of a percent that a part is of the whole, rounded down; none of no whole
abbrev pub tenths_of_percent : ℕ → ℕ → ℕ
tenths_of_percent part whole = if whole == 0 then 0 else part * 1000 / whole
