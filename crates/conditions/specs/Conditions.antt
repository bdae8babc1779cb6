-- Conditions weaker than linearizability: selections of a history are linearizable.
use Rattle.std.specs.Prelude.{ℕ, ◌<◌, ◌&&◌, Bool, true, false, nat_eq, List, ◌∷◌, filter, find, is_some, map, Option}
use Rattle.std.specs.Prelude.{Some, option_map, ⊤, if◌then◌else◌}
use Rattle.std.specs.List.{list_any, range_with_len}
use Rattle.std.specs.Option.{option_map_or}
use Rattle.event_records.specs.declared.limits.TheConstants.{MAX_THREADS}
use Rattle.history_merge.specs.declared.operation.Operation.{Operation}
use Rattle.history_merge.specs.Faults.{is_initial}
use Rattle.history_merge.specs.Initial.{Contents}
use Rattle.history_merge.specs.Operations.{enqueued_value}
use Rattle.verdicts.specs.Selection.{AreLinearizable, select}
use Rattle.conditions.specs.declared.producer.Emptiness.{Emptiness}
use Rattle.conditions.specs.declared.producer.Emptiness.TheVariants.{Strict, Weak}
use Rattle.conditions.specs.declared.producer.Producer.{Producer}
use Rattle.conditions.specs.declared.producer.Producer.TheVariants.{Initial, Thread}

-- ---- weak emptiness

-- the history without its empty dequeues: all values with all their operations, and no empty dequeue
abbrev pub without_empties : Contents → Contents
without_empties whole = select (λ value. true) (λ call. false) whole

-- linearizable, if empty dequeues guarantee nothing
abbrev pub IsWeaklyLinearizable : Contents → Type 0
IsWeaklyLinearizable whole = AreLinearizable (without_empties whole)

-- ---- local linearizability (Haas, Henzinger, Holzer, Kirsch, Lippautz, Payer, Sezgin, Sokolova, Veith, CONCUR 2016)

-- whether the operation is an enqueue of this value, successful or failed
abbrev pub enqueues : ℕ → Operation → Bool
enqueues v o = option_map_or (λ w. nat_eq w v) (enqueued_value o.kind) false

-- the producer of a value: that of the initial values, or the thread of its enqueue, successful or failed; none if
-- nobody enqueues it
abbrev pub producer_of : Contents → ℕ → Option Producer
producer_of whole v =
    (if is_initial whole.initial v then Some Initial else option_map (λ o. Thread o.thread)
    (find (enqueues v) whole.operations))

-- whether two producers are equal
abbrev pub is_producer : Producer → Producer → Bool
is_producer Initial Initial = true
is_producer (Thread s) (Thread t) = nat_eq s t
is_producer _ _ = false

-- whether the value counts for this producer: it is the producer's, or nobody's
abbrev pub counts_for : Contents → Producer → ℕ → Bool
counts_for whole p v = option_map_or (is_producer p) (producer_of whole v) true

-- whether empty dequeues are judged
abbrev pub judges_empties : Emptiness → Bool
judges_empties Strict = true
judges_empties Weak = false

-- the selection of a producer: its values and those that nobody enqueues, with all operations on them, by whatever
-- thread; and, if they are judged, all empty dequeues
abbrev pub selection_of : Emptiness → Producer → Contents → Contents
selection_of emptiness p whole = select (counts_for whole p) (λ call. judges_empties emptiness) whole

-- the selection of each producer has a linearization
abbrev pub IsLocallyLinearizable : Emptiness → Contents → Type 0
IsLocallyLinearizable emptiness whole = (p : Producer) → AreLinearizable (selection_of emptiness p whole)

-- ---- the producers of a history

-- whether the producer may have values: a thread if it enqueues any, successfully or not
abbrev pub has_values : Contents → Producer → Bool
has_values whole Initial = true
has_values whole (Thread t) = list_any (λ o. nat_eq o.thread t && is_some (enqueued_value o.kind)) whole.operations

-- all producers in their order: that of the initial values, and then the threads by number
abbrev pub all_producers : List Producer
all_producers = Initial ∷ map Thread (range_with_len 0 MAX_THREADS)

-- the producers of a history
abbrev pub producers_of : Contents → List Producer
producers_of whole = filter (has_values whole) all_producers

-- the first producer comes before the second in this order
abbrev pub ComesBefore : Producer → Producer → Type 0
ComesBefore Initial (Thread t) = ⊤
ComesBefore (Thread s) (Thread t) = s < t
ComesBefore p Initial = ⊥
