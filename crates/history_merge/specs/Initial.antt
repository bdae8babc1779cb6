-- Histories of a queue that holds initial values at first. No operation enqueues one of them.
use Rattle.std.specs.Prelude.{ℕ, ◌+◌, ◌-◌, List, [], ◌∷◌, ◌++◌, length}
use Rattle.event_records.specs.declared.event.Event.{Event}
use Rattle.event_records.specs.declared.limits.TheConstants.{ORIGIN}
use Rattle.history_merge.specs.declared.operation.Operation.{Operation}
use Rattle.history_merge.specs.declared.operation.OpKind.TheVariants.{Enqueue}
use Rattle.history_merge.specs.Complete.{AreDistinct, IsCompleteHistory, called_values}

-- a complete history, and initial values that are distinct and that no call enqueues
pub record IsCompleteFrom (initial : List ℕ) (events : List Event) : Type 0 where
  pub complete : IsCompleteHistory events
  pub values_are_distinct : AreDistinct (initial ++ called_values events)

-- a history: the initial values of its queue, and its events
pub record HistoryView : Type 0 where
  pub initial : List ℕ
  pub events : List Event

-- the initial values of a queue, and the operations on it
pub record Contents : Type 0 where
  pub initial : List ℕ
  pub operations : List Operation

-- ---- the scale of times

-- an enqueue of the value that is called and returns at this time
abbrev pub enqueue_at : ℕ → ℕ → Operation
enqueue_at time v = record { call = time; ret = time; thread = 0; kind = Enqueue v }

-- the operation, moved later by this much
abbrev pub later_by : ℕ → Operation → Operation
later_by n o = record { call = o.call + n; ret = o.ret + n; thread = o.thread; kind = o.kind }

-- the enqueues of these values, one time after another from this time on
abbrev pub enqueues_from : ℕ → List ℕ → List Operation
enqueues_from time [] = []
enqueues_from time (v ∷ rest) = enqueue_at time v ∷ enqueues_from (time + 1) rest

-- the enqueues of the initial values, the last just before the time of ticket 0
abbrev pub initial_enqueues : List ℕ → List Operation
initial_enqueues initial = enqueues_from (ORIGIN - length initial) initial
