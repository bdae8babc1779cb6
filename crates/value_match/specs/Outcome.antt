-- The operations that a violation names, and the results of matching.
use Rattle.std.specs.Prelude.{◌≡◌, ℕ, All, List, Option, Some, length, map, option_map, slice_get}
use Rattle.std.specs.List.{AllZip}
use Rattle.history_merge.specs.declared.operation.Operation.{Operation}
use Rattle.history_merge.specs.Initial.{Contents}
use Rattle.history_merge.specs.Operations.{IsAt}
use Rattle.value_match.specs.declared.life.Life.{Life}
use Rattle.value_match.specs.declared.life.MatchedValue.{MatchedValue}
use Rattle.value_match.specs.declared.violation.CoverStep.{CoverStep}
use Rattle.value_match.specs.declared.life.Source.{Source}
use Rattle.value_match.specs.declared.life.Source.TheVariants.{Enq, Initial}
use Rattle.value_match.specs.declared.violation.Violation.{Violation}
use Rattle.value_match.specs.declared.violation.Violation.TheVariants.{Fresh, Repeat, Order, Witness}
use Rattle.value_match.specs.declared.matching.Matched.{Matched}
use Rattle.value_match.specs.declared.matching.Matched.TheVariants as matched
use Rattle.value_match.specs.Lives.{IsMaybeAt, course, course_of, dequeue_of, enqueue_of, timed}
use Rattle.value_match.specs.Violations.{FullViolation, fresh, repeat, order, witness, IsClear}
use Rattle.value_match.specs.Choice.{IsChosenFullViolation}
use Rattle.value_match.specs.Times.{initial_enqueue}

-- the operation at this place, at its times
abbrev pub IsOperation : List Operation → ℕ → Operation → Type 0
IsOperation operations place o = IsAt (timed operations) place o

-- the optional operation at this optional place, at its times
abbrev pub IsMaybeOperation : List Operation → Option ℕ → Option Operation → Type 0
IsMaybeOperation operations place o = IsMaybeAt (timed operations) place o

-- the enqueue of the value from this source: an operation, or that of an initial value
abbrev pub IsSource : List ℕ → List Operation → Source → Operation → Type 0
IsSource initial operations (Enq place) enqueue = IsOperation operations place enqueue
IsSource initial operations (Initial place) enqueue =
    option_map (initial_enqueue (length initial) place) (slice_get initial place) ≡ Some enqueue

-- the life of the value from this source, with its dequeue at this place, if there is one
abbrev pub IsNamed : List ℕ → List Operation → Source → Option ℕ → Life → Type 0
IsNamed initial operations source dequeue life =
    IsSource initial operations source (enqueue_of life) × IsMaybeOperation operations dequeue (dequeue_of life)

-- the values are the lives of a history, each with its source and the place of its dequeue
pub record HoldsValues (history : Contents) (values : List MatchedValue) : Type 0 where
  pub lives : map (λ m. m.life) values ≡ (course_of history).lives
  pub named : All (λ m. IsNamed history.initial history.operations m.source m.dequeue m.life) values

-- the steps of a cover name these lives, one by one
abbrev pub NamesCover : List ℕ → List Operation → List CoverStep → List Life → Type 0
NamesCover initial operations steps cover =
    AllZip (λ step life. IsNamed initial operations step.source step.dequeue life) steps cover

-- the sources and places of the violation are those of the operations that show it
abbrev pub Names : List ℕ → List Operation → Violation → FullViolation → Type 0
Names initial operations (Fresh deq enq) (fresh d e) = IsOperation operations deq d × IsMaybeOperation operations enq e
Names initial operations (Repeat enq first second) (repeat e d d') =
    IsSource initial operations enq e × IsOperation operations first d × IsOperation operations second d'
Names initial operations (Order enq_a enq_b deq_b deq_a) (order a b) =
    IsNamed initial operations enq_a deq_a a × IsNamed initial operations enq_b (Some deq_b) b
Names initial operations (Witness empty cover) (witness o lives) = IsOperation operations empty o
    × NamesCover initial operations cover lives
Names initial operations _ _ = ⊥

-- the violation is the chosen one of the history
abbrev pub IsChosenViolation : List ℕ → List Operation → Violation → Type 0
IsChosenViolation initial operations violation =
    (full : FullViolation) × Names initial operations violation full
    × IsChosenFullViolation (course initial operations) full

-- the violation names the chosen phantom dequeue
abbrev pub NamesChosenFresh : List ℕ → List Operation → Violation → Type 0
NamesChosenFresh initial operations violation =
    (deq : Operation) × (enq : Option Operation) × Names initial operations violation (fresh deq enq)
    × IsChosenFullViolation (course initial operations) (fresh deq enq)

-- the violation names the chosen two dequeues of one value, and there is no phantom dequeue
abbrev pub NamesChosenRepeat : List ℕ → List Operation → Violation → Type 0
NamesChosenRepeat initial operations violation =
    (enq : Operation) × (first : Operation) × (second : Operation)
    × Names initial operations violation (repeat enq first second)
    × IsChosenFullViolation (course initial operations) (repeat enq first second)

-- a matching of the history if the first two kinds of violation are absent, else the chosen violation of the first
-- kind present
abbrev pub IsMatched : List ℕ → List Operation → Matched → Type 0
IsMatched initial operations (matched.Clear matching) =
    (matching ≡ record { initial = initial; operations = operations }) × IsClear (course initial operations)
IsMatched initial operations (matched.Fresh violation) = NamesChosenFresh initial operations violation
IsMatched initial operations (matched.Repeat violation) = NamesChosenRepeat initial operations violation
