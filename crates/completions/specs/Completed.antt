-- The completion that decides a history with pending calls.
use Rattle.std.specs.Prelude.{ℕ, ◌+◌, ◌++◌, ◌&&◌, Bool, true, false, not, nat_eq, List, [], ◌∷◌, filter, filter_map}
use Rattle.std.specs.Prelude.{Option, Some, None}
use Rattle.std.specs.Prelude.{option_and_then, if◌then◌else◌}
use Rattle.std.specs.List.{cons_option, last_or, list_any}
use Rattle.std.specs.Option.{option_map_or}
use Rattle.event_records.specs.declared.event.Event.{Event}
use Rattle.event_records.specs.declared.event.What.{What}
use Rattle.event_records.specs.declared.event.What.TheVariants.{RetEnq, CallDeq, RetDeq}
use Rattle.event_records.specs.Projection.{projection}
use Rattle.event_records.specs.Turns.{is_call}
use Rattle.history_merge.specs.Complete.{called_value}
use Rattle.history_merge.specs.Faults.{pending_call}
use Rattle.completions.specs.declared.answers.Answer.{Answer}

-- whether the event is a pending call: the last event of its thread, and a call
abbrev pub is_pending : List Event → Event → Bool
is_pending events e =
    is_call e.what && option_map_or (λ last. nat_eq last.ticket e.ticket)
    (last_or None (projection e.thread events)) false

-- the value that a return gives
abbrev pub given_value : What → Option ℕ
given_value (RetDeq v) = Some v
given_value _ = None

-- the values that dequeues gave
abbrev pub given_values : List Event → List ℕ
given_values events = filter_map (λ e. given_value e.what) events

-- whether a dequeue gave this value
abbrev pub is_given : List Event → ℕ → Bool
is_given events v = list_any (λ w. nat_eq w v) (given_values events)

-- the value of a successful enqueue that this event returns from, by the call that was pending before
abbrev pub taken_value : List Event → Event → Option ℕ
taken_value before e = elim e.what [
  | RetEnq ↦ option_and_then (λ call. called_value call.what) (pending_call e.thread before)
  | _ ↦ None
]

-- the values of successful enqueues among the later events, in the order of their returns
abbrev pub taken_values : List Event → List Event → List ℕ
taken_values before [] = []
taken_values before (e ∷ later) = cons_option (taken_value before e) (taken_values (before ++ e ∷ []) later)

-- the values that no dequeue gave: the initial ones, and then those of successful enqueues by their returns
abbrev pub left_values : List ℕ → List Event → List ℕ
left_values initial events = filter (λ v. not (is_given events v)) (initial ++ taken_values [] events)

-- the pending calls, in their order
abbrev pub pending_calls : List Event → List Event
pending_calls events = filter (is_pending events) events

-- the answer to a pending enqueue whose value a dequeue gave: that it succeeded
abbrev pub enqueue_answer : List Event → Event → Option Answer
enqueue_answer events call =
    option_and_then (λ v. (if is_given events v then Some (record { call = call; what = RetEnq }) else None))
    (called_value call.what)

-- whether the call is a dequeue
abbrev pub calls_dequeue : Event → Bool
calls_dequeue e = elim e.what [ CallDeq ↦ true | _ ↦ false ]

-- the first call gives the first value, the second the second, and so on; a call without a value isn't answered
abbrev pub paired : List Event → List ℕ → List Answer
paired (call ∷ calls) (v ∷ values) = record { call = call; what = RetDeq v } ∷ paired calls values
paired _ _ = []

-- the answers to pending calls: those to enqueues, and then those to dequeues, which give the values that are left
abbrev pub answers_to : List ℕ → List Event → List Answer
answers_to initial events =
    filter_map (enqueue_answer events) (pending_calls events)
    ++ paired (filter calls_dequeue (pending_calls events)) (left_values initial events)

-- whether one of these answers is to this call
abbrev pub is_answered : List Answer → Event → Bool
is_answered answers e = list_any (λ a. nat_eq a.call.ticket e.ticket) answers

-- a pending call without an answer is removed
abbrev pub is_left_out : List Event → List Answer → Event → Bool
is_left_out events answers e = is_pending events e && not (is_answered answers e)

-- a ticket above all tickets
abbrev pub next_ticket : List Event → ℕ
next_ticket events = option_map_or (λ last. last.ticket + 1) (last_or None events) 0

-- the returns of answered calls, one ticket after another from this one on
abbrev pub returns_from : ℕ → List Answer → List Event
returns_from ticket [] = []
returns_from ticket (a ∷ answers) =
    record { ticket = ticket; thread = a.call.thread; what = a.what } ∷ returns_from (ticket + 1) answers

-- the events without the pending calls that aren't answered, and then the returns of the others
abbrev pub completed_by : List Event → List Answer → List Event
completed_by events answers =
    filter (λ e. not (is_left_out events answers e)) events ++ returns_from (next_ticket events) answers

-- the completion: pending dequeues give, in the order of their calls, the values that are left, in the order in which
-- these came in
abbrev pub completed : List ℕ → List Event → List Event
completed initial events = completed_by events (answers_to initial events)
