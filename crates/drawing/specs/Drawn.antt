-- The drawn operations of a history: all of them, or for a `NO` those that it lists, those that overlap one of these,
-- and those near by. The drawn initial values: those of the claim and of these operations.
use Rattle.std.specs.Prelude.{ℕ, ◌-◌, ◌&&◌, ◌||◌, not, nat_lt, nat_le, nat_eq, Bool, false, Option, Some, None, List}
use Rattle.std.specs.Prelude.{[], ◌∷◌, filter, flat_map, map, count_by}
use Rattle.std.specs.List.{list_any}
use Rattle.event_records.specs.declared.event.Event.{Event}
use Rattle.history_merge.specs.Initial.{HistoryView}
use Rattle.history_merge.specs.declared.operation.Operation.{Operation}
use Rattle.history_merge.specs.declared.operation.OpKind.{OpKind}
use Rattle.history_merge.specs.declared.operation.OpKind.TheVariants as kind
use Rattle.history_merge.specs.Operations.{operations_of}
use Rattle.claims.specs.declared.claimed.ClaimLine.{ClaimLine}
use Rattle.claims.specs.declared.claimed.ClaimLine.TheVariants.{Op, Initial}
use Rattle.claims.specs.declared.claimed.Claimed.{Claimed}
use Rattle.claims.specs.declared.claimed.Claimed.TheVariants.{Yes, No}
use Rattle.drawing.specs.Claim.{shown_by}
use Rattle.drawing.specs.declared.drawn.Standing.{Standing}

-- the number of events before a ticket
abbrev pub events_before : List Event → ℕ → ℕ
events_before events ticket = count_by (λ e. nat_lt e.ticket ticket) events

-- the place of an operation among the events: the numbers of events before its call and before its return
abbrev pub standing_of : List Event → Operation → Standing
standing_of events o = record { call = events_before events o.call; ret = events_before events o.ret }

-- at most n events come between the return of one operation and the call of the other: none, if they overlap
abbrev pub stand_near : ℕ → Standing → Standing → Bool
stand_near n x y = nat_le (y.call - n) x.ret && nat_le (x.call - n) y.ret

-- an operation is near one of these
abbrev pub is_near_any : List Event → ℕ → List Operation → Operation → Bool
is_near_any events n listed o = list_any (stand_near n (standing_of events o)) (map (standing_of events) listed)

-- the operation of a line, if it is one
abbrev pub operation_in : ClaimLine → List Operation
operation_in (Op o) = o ∷ []
operation_in (Initial v) = []

-- the operations of lines
abbrev pub operations_in : List ClaimLine → List Operation
operations_in lines = flat_map operation_in lines

-- the operations near one of those that show a `NO`; all of them for a `YES`, or if no distance is given
abbrev pub drawn_operations : HistoryView → Claimed → Option ℕ → List Operation
drawn_operations history (Yes order) around = operations_of history.events
drawn_operations history (No kind lines) None = operations_of history.events
drawn_operations history (No kind lines) (Some n) =
    filter (is_near_any history.events n (operations_in lines)) (operations_of history.events)

-- an operation has this value: it was called with it, or returned it
abbrev pub has_value : ℕ → OpKind → Bool
has_value v (kind.Enqueue w) = nat_eq w v
has_value v (kind.Dequeue w) = nat_eq w v
has_value v (kind.EnqueueFailed w) = nat_eq w v
has_value v kind.DequeueEmpty = false

-- the line is this initial value
abbrev pub is_initial : ℕ → ClaimLine → Bool
is_initial v (Initial w) = nat_eq w v
is_initial v (Op o) = false

-- an initial value is drawn if a `NO` lists it, or a drawn operation has it
abbrev pub is_drawn_initial : Claimed → List Operation → ℕ → Bool
is_drawn_initial claimed drawn v =
    list_any (is_initial v) (shown_by claimed) || list_any (λ o. has_value v o.kind) drawn

-- the initial values that are drawn, front first
abbrev pub drawn_initial : HistoryView → Claimed → List Operation → List ℕ
drawn_initial history claimed drawn = filter (is_drawn_initial claimed drawn) history.initial

-- an operation and that of a line overlap: neither precedes the other
abbrev pub overlaps_line : Operation → ClaimLine → Bool
overlaps_line x (Op y) = nat_le x.call y.ret && nat_le y.call x.ret
overlaps_line x (Initial v) = false

-- an operation is away from those that show a `NO`, if it overlaps none of them
abbrev pub is_away : Claimed → Operation → Bool
is_away (Yes order) o = false
is_away (No kind lines) o = not (list_any (overlaps_line o) lines)
