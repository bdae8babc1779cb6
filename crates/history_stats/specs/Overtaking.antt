-- Values that dequeues certainly overtook.
use Rattle.std.specs.Prelude.{ℕ, Bool, false, List, [], ◌∷◌, ◌++◌, ◌-◌, max, nat_eq, nat_lt, map, find, filter_map}
use Rattle.std.specs.Prelude.{Option, Some, None, if◌then◌else◌}
use Rattle.std.specs.Option.{option_map_or}
use Rattle.event_records.specs.declared.limits.TheConstants.{ORIGIN}
use Rattle.history_merge.specs.Initial.{HistoryView, initial_enqueues, later_by}
use Rattle.history_merge.specs.Operations.{operations_of}
use Rattle.history_merge.specs.declared.operation.Operation.{Operation}
use Rattle.history_merge.specs.declared.operation.OpKind.{OpKind}
use Rattle.history_merge.specs.declared.operation.OpKind.TheVariants.{Enqueue, Dequeue, DequeueEmpty, EnqueueFailed}
use Rattle.history_stats.specs.AtOnce.{stay_count, values_put_before}
use Rattle.history_stats.specs.declared.overtaking.Overtaking.{Overtaking}

-- all operations on the scale of times: the initial values are enqueued one after another, before ticket 0
abbrev pub all_operations : HistoryView → List Operation
all_operations history = initial_enqueues history.initial ++ map (later_by ORIGIN) (operations_of history.events)

-- an operation of this kind enqueued the value
abbrev pub put : ℕ → OpKind → Bool
put v (Enqueue w) = nat_eq v w
put v _ = false

-- the values that were enqueued before this one: their enqueues returned before its enqueue was called
abbrev pub values_before : List Operation → ℕ → List ℕ
values_before operations v =
    option_map_or (λ e. values_put_before e.call operations) (find (λ o. put v o.kind) operations) []

-- the number of values that a dequeue of v, which returned at this time, certainly overtook: they were enqueued
-- before v, and no dequeue of them was called by then
abbrev pub overtaken_count : List Operation → ℕ → ℕ → ℕ
overtaken_count operations returned v = stay_count returned operations (values_before operations v)

-- the overtaking of this many values, if there are any, by a dequeue of v that was called at this time
abbrev pub overtaking_of : ℕ → ℕ → ℕ → Option Overtaking
overtaking_of count called v =
    (if nat_lt 0 count then Some (record { count = count; ticket = called - ORIGIN; value = v }) else None)

-- the overtaking of an operation of this kind; none if it overtook no value
abbrev pub overtaking_by : List Operation → Operation → OpKind → Option Overtaking
overtaking_by operations o (Dequeue v) = overtaking_of (overtaken_count operations o.ret v) o.call v
overtaking_by operations o _ = None

-- the dequeues that certainly overtook a value, in the order of their calls
abbrev pub overtakings : HistoryView → List Overtaking
overtakings history = let operations = all_operations history in
    filter_map (λ o. overtaking_by operations o o.kind) operations

-- the greatest of the numbers; 0 if there are none
abbrev pub greatest : List ℕ → ℕ
greatest [] = 0
greatest (n ∷ rest) = max n (greatest rest)
