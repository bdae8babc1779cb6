-- The first fault of initial values and events that aren't a complete history.
use Rattle.std.specs.Prelude.{◌≡◌, ℕ, ◌<◌, ◌≤◌, Bool, false, ◌||◌, ◌&&◌, not, nat_le, nat_lt, nat_eq, List, length}
use Rattle.std.specs.Prelude.{take, slice_get, Option, Some}
use Rattle.std.specs.Prelude.{None, is_some, is_none, if◌then◌else◌, ⊤, option_and_then, Contains}
use Rattle.std.specs.Bool.{then_some}
use Rattle.std.specs.Option.{option_map_or}
use Rattle.std.specs.List.{last_or, list_any}
use Rattle.event_records.specs.declared.event.Event.{Event}
use Rattle.event_records.specs.Turns.{is_call, answers}
use Rattle.event_records.specs.Projection.{projection}
use Rattle.history_merge.specs.declared.fault.HistoryFault.{HistoryFault}
use Rattle.history_merge.specs.declared.fault.HistoryFault.TheVariants.{TicketOrder, BadThread, CallWhilePending}
use Rattle.history_merge.specs.declared.fault.HistoryFault.TheVariants.{ReturnWithoutCall, WrongReturn}
use Rattle.history_merge.specs.declared.fault.HistoryFault.TheVariants.{DuplicateValue, Pending, Memory, InitialTwice}
use Rattle.event_records.specs.declared.limits.TheConstants.{MAX_TICKET, MAX_THREAD}
use Rattle.history_merge.specs.Complete.{AreDistinct, called_value}

-- the pending call of this thread: its last event, if that is a call
abbrev pub pending_call : ℕ → List Event → Option Event
pending_call thread events =
    option_and_then (λ e. then_some (is_call e.what) e) (last_or None (projection thread events))

-- whether one of the events calls to enqueue this value
abbrev pub was_called : List Event → ℕ → Bool
was_called events v = list_any (λ e. option_map_or (λ w. nat_eq w v) (called_value e.what) false) events

-- whether the event's ticket is out of range, or not above that of the last event before it
abbrev pub breaks_ticket_order : List Event → Event → Bool
breaks_ticket_order before e =
    nat_lt MAX_TICKET e.ticket || option_map_or (λ last. nat_le e.ticket last.ticket) (last_or None before) false

-- whether the event answers the pending call
abbrev pub answers_pending : Option Event → Event → Bool
answers_pending pending e = option_map_or (λ call. answers call.what e.what) pending false

-- whether the event calls to enqueue a value that an earlier event called to enqueue
abbrev pub repeats_value : List Event → Event → Bool
repeats_value before e = option_map_or (was_called before) (called_value e.what) false

-- whether this is an initial value
abbrev pub is_initial : List ℕ → ℕ → Bool
is_initial initial v = list_any (λ w. nat_eq w v) initial

-- whether the event calls to enqueue an initial value
abbrev pub calls_initial : List ℕ → Event → Bool
calls_initial initial e = option_map_or (is_initial initial) (called_value e.what) false

-- the first rule, in this order, that the event at this place breaks after the events before it; the last rule is
-- that its value is new, also among the initial ones
abbrev pub fault_at : List ℕ → List Event → ℕ → Event → Option HistoryFault
fault_at initial before i e =
    let pending = pending_call e.thread before in
    if breaks_ticket_order before e then Some (TicketOrder i) else
    if nat_lt MAX_THREAD e.thread then Some (BadThread i) else
    if is_call e.what && is_some pending then Some (CallWhilePending i) else
    if not (is_call e.what) && is_none pending then Some (ReturnWithoutCall i) else
    if not (is_call e.what) && not (answers_pending pending e) then Some (WrongReturn i) else
    if repeats_value before e || calls_initial initial e then Some (DuplicateValue i) else
    None

-- the events before place n have no fault
abbrev pub NoFaultBefore : List ℕ → List Event → ℕ → Type 0
NoFaultBefore initial events n = (i : ℕ) (e : Event) → i < n → slice_get events i ≡ Some e
    → fault_at initial (take i events) i e ≡ None

-- the initial values are distinct, the event at place i has this fault, and the events before it have none
abbrev pub IsFirstFaultAt : List ℕ → List Event → ℕ → HistoryFault → Type 0
IsFirstFaultAt initial events i fault = AreDistinct initial × NoFaultBefore initial events i
    × ((e : Event) × (slice_get events i ≡ Some e) × (fault_at initial (take i events) i e ≡ Some fault))

-- this is the least ticket of a call without a return
abbrev pub IsLeastPending : List Event → ℕ → Type 0
IsLeastPending events ticket =
    ((thread : ℕ) × (call : Event) × (pending_call thread events ≡ Some call) × (call.ticket ≡ ticket))
    × ((thread : ℕ) (call : Event) → pending_call thread events ≡ Some call → ticket ≤ call.ticket)

-- the initial value at place j equals an earlier one, and those before it are distinct
abbrev pub IsFirstTwice : List ℕ → ℕ → Type 0
IsFirstTwice initial j = AreDistinct (take j initial)
    × ((v : ℕ) × (slice_get initial j ≡ Some v) × Contains (take j initial) v)

-- the first fault of the initial values, else that of the events; running out of memory says nothing about them
abbrev pub IsFirstFault : List ℕ → List Event → HistoryFault → Type 0
IsFirstFault initial events (TicketOrder i) = IsFirstFaultAt initial events i (TicketOrder i)
IsFirstFault initial events (BadThread i) = IsFirstFaultAt initial events i (BadThread i)
IsFirstFault initial events (CallWhilePending i) = IsFirstFaultAt initial events i (CallWhilePending i)
IsFirstFault initial events (ReturnWithoutCall i) = IsFirstFaultAt initial events i (ReturnWithoutCall i)
IsFirstFault initial events (WrongReturn i) = IsFirstFaultAt initial events i (WrongReturn i)
IsFirstFault initial events (DuplicateValue i) = IsFirstFaultAt initial events i (DuplicateValue i)
IsFirstFault initial events (Pending ticket) = AreDistinct initial × NoFaultBefore initial events (length events)
    × IsLeastPending events ticket
IsFirstFault initial events Memory = ⊤
IsFirstFault initial events (InitialTwice j) = IsFirstTwice initial j
