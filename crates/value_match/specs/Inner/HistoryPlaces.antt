-- The timeline of a history, and the translation of its places to the history's.
use Rattle.std.specs.Prelude.{if◌then◌else◌, List, nat_lt, ℕ, ◌+◌, ◌-◌}
use Rattle.history_merge.specs.declared.operation.Operation.{Operation}
use Rattle.history_merge.specs.Initial.{Contents}
use Rattle.history_merge.specs.Inner.Timeline.{timeline}
use Rattle.value_match.specs.declared.life.Source.{Source}
use Rattle.value_match.specs.declared.life.Source.TheVariants.{Enq, Initial}

-- the timeline of a history
abbrev pub timeline_of : Contents → List Operation
timeline_of contents = timeline contents.initial contents.operations

-- the place of an operation in the timeline, after this many initial values
abbrev pub behind : ℕ → ℕ → ℕ
behind initial_count place = initial_count + place

-- the place of an operation in the history, without this many initial values
abbrev pub history_place : ℕ → ℕ → ℕ
history_place initial_count place = place - initial_count

-- the source of a value whose enqueue has this place in the timeline; the first enqueues are those of the initial
-- values
abbrev pub history_source : ℕ → ℕ → Source
history_source initial_count place =
    if nat_lt place initial_count then Initial place else Enq (history_place initial_count place)
