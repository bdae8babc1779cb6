-- Laws of pictures.
use Rattle.std.specs.Prelude.{◌≡◌, ℕ, ◌+◌, ◌^◌, ◌<◌, ◌≤◌, ◌↔◌, ◌⊎◌, true, false, List, Option, Some, Contains, length}
use Rattle.std.specs.Prelude.{slice_get, sum_by}
use Rattle.event_records.specs.declared.event.Event.{Event}
use Rattle.event_records.specs.declared.limits.TheConstants.{MAX_INITIAL}
use Rattle.history_merge.specs.declared.operation.Operation.{Operation}
use Rattle.history_merge.specs.Complete.{IsCompleteHistory}
use Rattle.history_merge.specs.Legal.{IsLegalOrder}
use Rattle.history_merge.specs.Initial.{HistoryView}
use Rattle.history_merge.specs.Operations.{IsInWindow, Precedes, operations_of}
use Rattle.claims.specs.declared.claimed.ClaimLine.{ClaimLine}
use Rattle.claims.specs.declared.claimed.ClaimLine.TheVariants.{Op, Initial}
use Rattle.claims.specs.declared.claimed.Claimed.{Claimed}
use Rattle.claims.specs.declared.claimed.Claimed.TheVariants.{Yes, No}
use Rattle.claims.specs.declared.claimed.ViolationKind.{ViolationKind}
use Rattle.claims.specs.Claims.{IsTrueClaim}
use Rattle.drawing.specs.declared.columns.Columns.{Columns}
use Rattle.drawing.specs.Claim.{shown_by}
use Rattle.drawing.specs.Drawn.{drawn_initial, drawn_operations, has_value}
use Rattle.drawing.specs.Names.{value_text}
use Rattle.drawing.specs.Pending.{is_added, is_pending}
use Rattle.drawing.specs.Layout.{initial_label, under_way, place_in, point}
use Rattle.drawing.specs.Scene.{rows_of, row_number, stands_above}
use Rattle.drawing.specs.Terminal.{lane_column}
use Rattle.drawing.specs.declared.scene.Row.{Row}
use Rattle.drawing.specs.declared.scene.Row.TheVariants as row

-- ---- drawn operations

-- each listed operation is one of these
abbrev pub AreOperationsOf : List Operation → List ClaimLine → Type 0
AreOperationsOf operations lines = (o : Operation) → Contains lines (Op o) → Contains operations o

-- an operation that overlaps one of a `NO` is drawn, at whatever distance
abbrev pub OverlappingAreDrawn : Type 0
OverlappingAreDrawn =
    (history : HistoryView) (kind : ViolationKind) (lines : List ClaimLine) (around : Option ℕ) (x y : Operation)
    → Contains (operations_of history.events) x
    → Contains lines (Op y) → ¬ (Precedes x y) → ¬ (Precedes y x)
    → Contains (drawn_operations history (No kind lines) around) x

-- at distance 0 no other operation is drawn
abbrev pub NoOthersAreDrawn : Type 0
NoOthersAreDrawn =
    (history : HistoryView) (kind : ViolationKind) (lines : List ClaimLine) (x : Operation)
    → AreOperationsOf (operations_of history.events) lines
    → Contains (drawn_operations history (No kind lines) (Some 0)) x
    → (y : Operation) × Contains lines (Op y) × (¬ (Precedes x y)) × (¬ (Precedes y x))

-- the operations of a `NO` are drawn themselves
abbrev pub LinesAreDrawn : Type 0
LinesAreDrawn =
    (history : HistoryView) (kind : ViolationKind) (lines : List ClaimLine) (around : Option ℕ)
    → IsCompleteHistory history.events
    → AreOperationsOf (operations_of history.events) lines
    → AreOperationsOf (drawn_operations history (No kind lines) around) lines

-- ---- lanes

-- the lane of a thread ends before that of a higher one begins
abbrev pub LanesAreApart : Type 0
LanesAreApart =
    (threads : List ℕ) (columns : Columns) (thread higher : ℕ) → Contains threads thread → thread < higher
    → lane_column columns threads thread + columns.lane ≤ lane_column columns threads higher

-- ---- bars

-- no call was added: a completion adds returns alone
abbrev pub NoCallsAreAdded : Option ℕ → List Operation → Type 0
NoCallsAreAdded added_from operations = (o : Operation) → Contains operations o → is_added added_from o.call ≡ false

-- the operation hasn't returned before this ticket, or never returned
abbrev pub LastsTo : Option ℕ → ℕ → Operation → Type 0
LastsTo added_from ticket o = (ticket ≤ o.ret) ⊎ (is_pending added_from o ≡ true)

-- from its call to its return, or to the end if it is pending, each drawn operation is in its thread's lane
abbrev pub BarsAreOfOperations : Type 0
BarsAreOfOperations =
    (history : HistoryView) (claimed : Claimed) (around added_from : Option ℕ) (o : Operation) (ticket : ℕ)
    → IsCompleteHistory history.events
    → NoCallsAreAdded added_from (operations_of history.events) → Contains (drawn_operations history claimed around) o
    → o.call ≤ ticket
    → LastsTo added_from ticket o
    → under_way added_from (drawn_operations history claimed around) o.thread ticket ≡ Some o

-- the operation is of this thread, and the ticket is from its call to its return, or to the end if it is pending
pub record HasBarAt (added_from : Option ℕ) (operations : List Operation) (thread ticket : ℕ)
    (o : Operation) : Type 0 where
  pub among : Contains operations o
  pub own : o.thread ≡ thread
  pub called : o.call ≤ ticket
  pub lasts : LastsTo added_from ticket o

-- nothing else is in a lane
abbrev pub NoOtherBars : Type 0
NoOtherBars =
    (added_from : Option ℕ) (operations : List Operation) (thread ticket : ℕ) (o : Operation)
    → under_way added_from operations thread ticket ≡ Some o
    → HasBarAt added_from operations thread ticket o

-- ---- the order of a `YES`

-- an operation of a `YES` takes effect within its bar
abbrev pub EffectsAreInBars : Type 0
EffectsAreInBars =
    (initial : List ℕ) (events : List Event) (order : List Operation) (i : ℕ) (o : Operation)
    → IsCompleteHistory events
    → IsLegalOrder initial (operations_of events) order → slice_get order i ≡ Some o → IsInWindow o (point order i)

-- the effects of a `YES` rise in its order
abbrev pub EffectsRise : Type 0
EffectsRise = (order : List Operation) (i j : ℕ) → i ≤ j → point order i ≤ point order j

-- ---- rows

-- the numbers of rows rise from top to bottom
abbrev pub RowsRise : Type 0
RowsRise = (rows : List Row) (other r : Row) → Contains rows other → stands_above other r ≡ true
    → row_number rows other < row_number rows r

-- the claim lists this initial value, or a drawn operation has it
abbrev pub Matters : Claimed → List Operation → ℕ → Type 0
Matters claimed drawn v = Contains (shown_by claimed) (Initial v)
    ⊎ ((o : Operation) × Contains drawn o × (has_value v o.kind ≡ true))

-- an initial value that matters has its row
abbrev pub InitialValuesHaveRows : Type 0
InitialValuesHaveRows =
    (history : HistoryView) (claimed : Claimed) (drawn : List Operation) (v : ℕ) → Contains history.initial v
    → Matters claimed drawn v
    → (j : ℕ) × Contains (rows_of history claimed drawn) (row.Initial j v)

-- the number of initial values that a row stands for
abbrev pub values_in : Row → ℕ
values_in (row.Initial place v) = 1
values_in (row.ValuesLeftOut count drawn) = count
values_in r = 0

-- no initial value is lost: each has its row, or is counted among those left out
abbrev pub ValuesAreCounted : Type 0
ValuesAreCounted =
    (history : HistoryView) (claimed : Claimed) (drawn : List Operation)
    → sum_by values_in (rows_of history claimed drawn) ≡ length history.initial

-- the call and the return of each drawn operation have their rows
abbrev pub OperationsHaveRows : Type 0
OperationsHaveRows =
    (history : HistoryView) (claimed : Claimed) (drawn : List Operation) (o : Operation)
    → Contains (operations_of history.events) o → Contains drawn o
    → Contains (rows_of history claimed drawn) (row.Ticket o.call)
    × Contains (rows_of history claimed drawn) (row.Ticket o.ret)

-- the number of events that a row stands for
abbrev pub events_in : Row → ℕ
events_in (row.Ticket ticket) = 1
events_in (row.LeftOut count last) = count
events_in r = 0

-- no event is lost: each has its row, or is counted among those left out
abbrev pub EventsAreCounted : Type 0
EventsAreCounted =
    (history : HistoryView) (claimed : Claimed) (drawn : List Operation)
    → sum_by events_in (rows_of history claimed drawn) ≡ length history.events

-- each operation of a linearization has the row of its effect
abbrev pub EffectsHaveRows : Type 0
EffectsHaveRows =
    (history : HistoryView) (order : List Operation) (i : ℕ) (o : Operation) → IsCompleteHistory history.events
    → IsLegalOrder history.initial (operations_of history.events) order → slice_get order i ≡ Some o
    → Contains (rows_of history (Yes order) (operations_of history.events)) (row.Effect o (i + 1) (point order i))

-- the rows of initial values are one below another, and above those of all events
abbrev pub InitialRowsAreFirst : Type 0
InitialRowsAreFirst =
    (history : HistoryView) (claimed : Claimed) (drawn : List Operation) (j later v w ticket : ℕ)
    → slice_get (drawn_initial history claimed drawn) j ≡ Some v → j < later
    → (row_number (rows_of history claimed drawn) (row.Initial j v)
    < row_number (rows_of history claimed drawn) (row.Initial later w))
    × (row_number (rows_of history claimed drawn) (row.Initial j v)
    < row_number (rows_of history claimed drawn) (row.Ticket ticket))

-- the return of a drawn operation is above a call if and only if its operation precedes the other
abbrev pub RowsTellPrecedence : Type 0
RowsTellPrecedence =
    (history : HistoryView) (claimed : Claimed) (drawn : List Operation) (x y : Operation)
    → Contains (operations_of history.events) x → Contains drawn x
    → Precedes x y ↔ (row_number (rows_of history claimed drawn) (row.Ticket x.ret)
    < row_number (rows_of history claimed drawn) (row.Ticket y.call))

-- an operation of a linearization takes effect in a row between those of its call and its return
abbrev pub EffectRowsAreInBars : Type 0
EffectRowsAreInBars =
    (history : HistoryView) (order : List Operation) (i : ℕ) (o : Operation) → IsCompleteHistory history.events
    → IsLegalOrder history.initial (operations_of history.events) order → slice_get order i ≡ Some o
    → let rows = rows_of history (Yes order) (operations_of history.events) in
    (row_number rows (row.Ticket o.call) < row_number rows (row.Effect o (i + 1) (point order i)))
    × (row_number rows (row.Effect o (i + 1) (point order i)) < row_number rows (row.Ticket o.ret))

-- the rows of the effects rise in the order of the linearization
abbrev pub EffectRowsRise : Type 0
EffectRowsRise =
    (history : HistoryView) (order : List Operation) (i j : ℕ) (o p : Operation) → IsCompleteHistory history.events
    → IsLegalOrder history.initial (operations_of history.events) order → slice_get order i ≡ Some o → i < j
    → let rows = rows_of history (Yes order) (operations_of history.events) in
    row_number rows (row.Effect o (i + 1) (point order i)) < row_number rows (row.Effect p (j + 1) (point order j))

-- ---- names

-- different values have different names
abbrev pub ValuesHaveTheirNames : Type 0
ValuesHaveTheirNames = (v w : ℕ) → v < 2 ^ 64 → w < 2 ^ 64 → value_text v ≡ value_text w → v ≡ w

-- different initial values have different labels
abbrev pub InitialValuesHaveTheirNames : Type 0
InitialValuesHaveTheirNames = (v w : ℕ) → v < 2 ^ 64 → w < 2 ^ 64 → initial_label v ≡ initial_label w → v ≡ w

-- ---- numbers

-- an operation with a number is the line of that number
abbrev pub NumbersAreOfLines : Type 0
NumbersAreOfLines =
    (events : List Event) (lines : List ClaimLine) (o : Operation) (i : ℕ) → IsCompleteHistory events
    → AreOperationsOf (operations_of events) lines
    → Contains (operations_of events) o → place_in lines (row.Ticket o.call) ≡ Some i → slice_get lines i ≡ Some (Op o)

-- each line of an operation has a number
abbrev pub LinesHaveNumbers : Type 0
LinesHaveNumbers = (lines : List ClaimLine) (o : Operation) → Contains lines (Op o)
    → (i : ℕ) × (place_in lines (row.Ticket o.call) ≡ Some i)

-- an initial value with a number is the line of that number
abbrev pub InitialNumbersAreOfLines : Type 0
InitialNumbersAreOfLines = (lines : List ClaimLine) (j v i : ℕ) → place_in lines (row.Initial j v) ≡ Some i
    → slice_get lines i ≡ Some (Initial v)

-- each line of an initial value has a number
abbrev pub InitialLinesHaveNumbers : Type 0
InitialLinesHaveNumbers = (lines : List ClaimLine) (j v : ℕ) → Contains lines (Initial v)
    → (i : ℕ) × (place_in lines (row.Initial j v) ≡ Some i)

-- the lines of evidence are operations and initial values of the history, so each has its bar or its row
abbrev pub LinesAreOfHistory : Type 0
LinesAreOfHistory =
    (initial : List ℕ) (operations : List Operation) (kind : ViolationKind) (lines : List ClaimLine)
    → length initial ≤ MAX_INITIAL
    → IsTrueClaim initial operations (No kind lines)
    → AreOperationsOf operations lines × ((v : ℕ) → Contains lines (Initial v) → Contains initial v)
