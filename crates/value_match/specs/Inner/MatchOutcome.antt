-- The results of matching a timeline, before they are those of a history.
use Rattle.std.specs.Prelude.{List, Option, length}
use Rattle.history_merge.specs.declared.operation.Operation.{Operation}
use Rattle.history_merge.specs.Operations.{IsAt}
use Rattle.value_match.specs.Inner.Courses.{on}
use Rattle.value_match.specs.declared.fresh.FreshPlaces.{FreshPlaces}
use Rattle.value_match.specs.declared.takers.RepeatPlaces.{RepeatPlaces}
use Rattle.value_match.specs.declared.values.MatchOutcome.{MatchOutcome}
use Rattle.value_match.specs.declared.values.MatchOutcome.TheVariants as found
use Rattle.value_match.specs.declared.takers.Takers.{Takers}
use Rattle.value_match.specs.declared.takers.Takers.TheVariants as takers
use Rattle.value_match.specs.Choice.{IsChosenFresh, IsChosenRepeat}
use Rattle.value_match.specs.Lives.{IsMaybeAt}
use Rattle.value_match.specs.Violations.{NoFreshViolation}
use Rattle.value_match.specs.Inner.Sources.{HasTakersTo}
use Rattle.value_match.specs.Inner.ByKind.{IsByKindOf}

-- the places are those of the chosen phantom dequeue and of the call for its value
abbrev pub AreChosenFresh : List Operation → FreshPlaces → Type 0
AreChosenFresh operations found =
    (deq : Operation) × (enq : Option Operation) × IsAt operations found.deq deq × IsMaybeAt operations found.enq enq
    × IsChosenFresh (on operations) deq enq

-- the places are those of the chosen two dequeues of one value and of its enqueue, and there is no phantom dequeue
abbrev pub AreChosenRepeat : List Operation → RepeatPlaces → Type 0
AreChosenRepeat operations found =
    (enq : Operation) × (first : Operation) × (second : Operation) × IsAt operations found.enq enq
    × IsAt operations found.first first
    × IsAt operations found.second second × NoFreshViolation (on operations)
    × IsChosenRepeat (on operations) enq first second

-- the one dequeue that takes from each place, if there is one; otherwise the two dequeues of the chosen repeat
-- violation
abbrev pub AreTakers : List Operation → Takers → Type 0
AreTakers operations (takers.Once places) = HasTakersTo operations (length operations) places.items
AreTakers operations (takers.Twice places) = AreChosenRepeat operations places

-- the result of matching these operations
abbrev pub IsMatchOutcomeOf : List Operation → MatchOutcome → Type 0
IsMatchOutcomeOf operations (found.Clear sorted) = IsByKindOf operations sorted
IsMatchOutcomeOf operations (found.Fresh places) = AreChosenFresh operations places
IsMatchOutcomeOf operations (found.Repeat places) = AreChosenRepeat operations places
