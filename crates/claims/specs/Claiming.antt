-- The claim of a verdict: its kind, and the lines at its places.
use Rattle.std.specs.Prelude.{ℕ, ◌<◌, ◌++◌, Bool, true, false, List, All, length, map, filter, filter_map, option_map}
use Rattle.std.specs.Prelude.{slice_get, Option}
use Rattle.history_merge.specs.declared.operation.Operation.{Operation}
use Rattle.history_merge.specs.Initial.{HistoryView}
use Rattle.history_merge.specs.Operations.{operations_of}
use Rattle.value_match.specs.declared.violation.Violation.{Violation}
use Rattle.value_match.specs.declared.violation.Violation.TheVariants.{Fresh, Repeat, Order, Witness}
use Rattle.claims.specs.declared.shown.LinePlace.{LinePlace}
use Rattle.claims.specs.declared.shown.LinePlace.TheVariants as place
use Rattle.claims.specs.declared.claimed.ClaimLine.{ClaimLine}
use Rattle.claims.specs.declared.claimed.ClaimLine.TheVariants.{Op, Initial}
use Rattle.claims.specs.declared.claimed.Claimed.{Claimed}
use Rattle.claims.specs.declared.claimed.Claimed.TheVariants as claimed
use Rattle.claims.specs.declared.claimed.ViolationKind.{ViolationKind}
use Rattle.claims.specs.declared.claimed.ViolationKind.TheVariants.{VFresh, VRepeat, VOrd, VWit}
use Rattle.claims.specs.declared.verdict.Verdict.{Verdict}
use Rattle.claims.specs.declared.verdict.Verdict.TheVariants.{Yes, No}
use Rattle.claims.specs.Shown.{violation_places}

-- the places of a verdict's operations and initial values, in the order in which they are shown
abbrev pub verdict_places : Verdict → List LinePlace
verdict_places (Yes places) = map place.Op places
verdict_places (No violation) = violation_places violation

-- the place is that of an operation
abbrev pub is_operation : LinePlace → Bool
is_operation (place.Op p) = true
is_operation (place.Initial p) = false

-- the places of the operations that a verdict names
abbrev pub operations_named : Verdict → List LinePlace
operations_named verdict = filter is_operation (verdict_places verdict)

-- the place is that of an operation, or of an initial value
abbrev pub IsPlaceWithin : List ℕ → List Operation → LinePlace → Type 0
IsPlaceWithin initial operations (place.Op p) = p < length operations
IsPlaceWithin initial operations (place.Initial p) = p < length initial

-- the places of the verdict are those of operations and initial values of the history
abbrev pub IsWithin : List ℕ → List Operation → Verdict → Type 0
IsWithin initial operations verdict = All (IsPlaceWithin initial operations) (verdict_places verdict)

-- the kind of a violation that names places
abbrev pub violation_kind : Violation → ViolationKind
violation_kind (Fresh deq enq) = VFresh
violation_kind (Repeat enq first second) = VRepeat
violation_kind (Order enq_a enq_b deq_b deq_a) = VOrd
violation_kind (Witness empty cover) = VWit

-- the lines of a history in the order of their places: its initial values, and then its operations
abbrev pub lines_of_history : List ℕ → List Operation → List ClaimLine
lines_of_history initial operations = map Initial initial ++ map Op operations

-- the line at a place, if there is one
abbrev pub line_at : List ℕ → List Operation → LinePlace → Option ClaimLine
line_at initial operations (place.Op p) = option_map Op (slice_get operations p)
line_at initial operations (place.Initial p) = option_map Initial (slice_get initial p)

-- the lines at these places
abbrev pub lines_at : List ℕ → List Operation → List LinePlace → List ClaimLine
lines_at initial operations places = filter_map (line_at initial operations) places

-- the operations at these places
abbrev pub operations_at : List Operation → List ℕ → List Operation
operations_at operations places = filter_map (slice_get operations) places

-- the claim of a verdict on a history: for a `YES` the operations at its places, for a `NO` the lines at its places
abbrev pub claim_of : List ℕ → List Operation → Verdict → Claimed
claim_of initial operations (Yes places) = claimed.Yes (operations_at operations places)
claim_of initial operations (No violation) =
    claimed.No (violation_kind violation) (lines_at initial operations (violation_places violation))

-- the lines of a violation of a history
abbrev pub violation_lines : HistoryView → Violation → List ClaimLine
violation_lines history violation =
    lines_at history.initial (operations_of history.events) (violation_places violation)
