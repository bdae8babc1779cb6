-- The timeline: the enqueues of the initial values, and then the operations at their times; and the operations by
-- their tickets again.
use Rattle.std.specs.Prelude.{◌≡◌, ◌≤◌, ℕ, ◌-◌, List, ◌++◌, drop, length, map}
use Rattle.event_records.specs.declared.limits.TheConstants.{MAX_INITIAL, ORIGIN}
use Rattle.history_merge.specs.declared.operation.Operation.{Operation}
use Rattle.history_merge.specs.Initial.{initial_enqueues, later_by}

-- the enqueues of the initial values one time after another, and then the operations, each at the times of its
-- tickets
abbrev pub timeline : List ℕ → List Operation → List Operation
timeline initial operations = initial_enqueues initial ++ map (later_by ORIGIN) operations

-- the operation, moved earlier by this much
abbrev pub earlier_by : ℕ → Operation → Operation
earlier_by n o = record { call = o.call - n; ret = o.ret - n; thread = o.thread; kind = o.kind }

-- the operations after this many enqueues of initial values, by their tickets
abbrev pub operations_on : ℕ → List Operation → List Operation
operations_on initial_count timeline = map (earlier_by ORIGIN) (drop initial_count timeline)

-- the list is the timeline of these initial values and its own operations
pub record IsTimeline (initial : List ℕ) (all : List Operation) : Type 0 where
  pub few : length initial ≤ MAX_INITIAL
  pub is : all ≡ timeline initial (operations_on (length initial) all)
