-- Selections of a history: some of its initial values, other values and empty dequeues.
use Rattle.std.specs.Prelude.{◌≡◌, ◌≢◌, ℕ, ◌≤◌, Bool, List, length, filter, Contains, Option, Some, None, ⊤}
use Rattle.std.specs.Option.{option_map_or}
use Rattle.history_merge.specs.declared.operation.Operation.{Operation}
use Rattle.history_merge.specs.declared.operation.OpKind.{OpKind}
use Rattle.history_merge.specs.declared.operation.OpKind.TheVariants.{Enqueue, Dequeue, DequeueEmpty, EnqueueFailed}
use Rattle.history_merge.specs.Initial.{Contents, HistoryView}
use Rattle.history_merge.specs.Legal.{IsLinearizable}
use Rattle.history_merge.specs.Operations.{operations_of}
use Rattle.value_match.specs.declared.life.Life.{Life}
use Rattle.value_match.specs.declared.violation.Violation.{Violation}
use Rattle.value_match.specs.Lives.{Course, course}
use Rattle.value_match.specs.Violations.{FullViolation, witness, IsWitnessViolation}
use Rattle.value_match.specs.Outcome.{IsChosenViolation, Names}
use Rattle.claims.specs.declared.verdict.Verdict.TheVariants.{No}
use Rattle.claims.specs.declared.claimed.ClaimLine.{ClaimLine}
use Rattle.claims.specs.Claiming.{claim_of, lines_of_history, violation_lines}

-- the value of an operation; an empty dequeue has none
abbrev pub value_of : OpKind → Option ℕ
value_of (Enqueue v) = Some v
value_of (Dequeue v) = Some v
value_of (EnqueueFailed v) = Some v
value_of DequeueEmpty = None

-- whether an operation is selected: by its value, or an empty dequeue by its call ticket
abbrev pub selects : (ℕ → Bool) → (ℕ → Bool) → Operation → Bool
selects values empties o = option_map_or values (value_of o.kind) (empties o.call)

-- the initial values of a history, and its operations
abbrev pub contents_of : HistoryView → Contents
contents_of history = record { initial = history.initial; operations = operations_of history.events }

-- the selection of some values, initial ones too, with all their operations, and of some empty dequeues
abbrev pub select : (ℕ → Bool) → (ℕ → Bool) → Contents → Contents
select values empties whole =
    record { initial = filter values whole.initial; operations = filter (selects values empties) whole.operations }

-- a selection by some values and empty dequeues
abbrev pub IsValueClosed : Contents → Contents → Type 0
IsValueClosed whole selected = (values : ℕ → Bool) × (empties : ℕ → Bool) × (selected ≡ select values empties whole)

-- a linearization exists for a queue that holds the initial values first
abbrev pub AreLinearizable : Contents → Type 0
AreLinearizable contents = IsLinearizable contents.initial contents.operations

-- the whole isn't linearizable, but every other selection of it is
abbrev pub IsMinimal : Contents → Type 0
IsMinimal whole = ¬ (AreLinearizable whole)
    × ((selected : Contents) → IsValueClosed whole selected → selected ≢ whole → AreLinearizable selected)

-- the small history is a selection that keeps each line of the violation
abbrev pub KeepsViolation : HistoryView → Violation → HistoryView → Type 0
KeepsViolation whole violation small = IsValueClosed (contents_of whole) (contents_of small)
    × ((line : ClaimLine) → Contains (violation_lines whole violation) line
    → Contains (lines_of_history small.initial (operations_of small.events)) line)

-- the claim of the chosen violation of the small history is that of the violation in the whole
abbrev pub StaysChosen : HistoryView → Violation → HistoryView → Type 0
StaysChosen whole violation small = (found : Violation)
    × IsChosenViolation small.initial (operations_of small.events) found
    × (claim_of small.initial (operations_of small.events) (No found)
    ≡ claim_of whole.initial (operations_of whole.events) (No violation))

-- the second list has some elements of the first, in their order
abbrev pub ArePartOf : {X : Type 0} → List X → List X → Type 0
ArePartOf {X} whole part = (keeps : X → Bool) × (part ≡ filter keeps whole)

-- no cover of the same empty dequeue has fewer values
abbrev pub IsShortestCover : Course → FullViolation → Type 0
IsShortestCover c (witness empty cover) = (other : List Life) → IsWitnessViolation c empty other
    → length cover ≤ length other
IsShortestCover c _ = ⊤

-- no cover of the violation's empty dequeue has fewer values
abbrev pub HasShortestCover : HistoryView → Violation → Type 0
HasShortestCover history violation = (full : FullViolation)
    → Names history.initial (operations_of history.events) violation full
    → IsShortestCover (course history.initial (operations_of history.events)) full
