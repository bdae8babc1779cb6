-- Verdicts on a history, and evidence for them.
use Rattle.std.specs.Prelude.{ℕ, List}
use Rattle.history_merge.specs.declared.operation.Operation.{Operation}
use Rattle.history_merge.specs.Legal.{IsLegalOrder, IsLinearizable, ArePlacesOf}
use Rattle.value_match.specs.Lives.{course, timed}
use Rattle.value_match.specs.Outcome.{IsChosenViolation}
use Rattle.linearizer.specs.Order.{IsChosenOrder}
use Rattle.claims.specs.declared.verdict.Verdict.{Verdict}
use Rattle.claims.specs.declared.verdict.Verdict.TheVariants.{Yes, No}
use Rattle.claims.specs.Claiming.{IsWithin, lines_at, violation_kind}
use Rattle.claims.specs.Showing.{Shows}
use Rattle.claims.specs.Shown.{violation_places}

-- `YES` with the chosen order, or `NO` with the chosen violation
abbrev pub IsVerdict : List ℕ → List Operation → Verdict → Type 0
IsVerdict initial operations (Yes places) =
    (order : List Operation) × ArePlacesOf operations places order
    × IsChosenOrder (course initial operations) (timed order)
IsVerdict initial operations (No violation) = IsChosenViolation initial operations violation

-- a `YES` lists a linearization for a queue that holds these values first; the lines at the places of a `NO` show a
-- violation
abbrev pub IsEvidence : List ℕ → List Operation → Verdict → Type 0
IsEvidence initial operations (Yes places) = (order : List Operation) × ArePlacesOf operations places order
    × IsLegalOrder initial operations order
IsEvidence initial operations (No violation) = IsWithin initial operations (No violation)
    × Shows initial operations (violation_kind violation) (lines_at initial operations (violation_places violation))

-- `YES` if a linearization exists for a queue that holds these values first, `NO` if none does
abbrev pub IsExact : List ℕ → List Operation → Verdict → Type 0
IsExact initial operations (Yes places) = IsLinearizable initial operations
IsExact initial operations (No violation) = ¬ (IsLinearizable initial operations)
