-- Laws of verdicts and claims under weaker conditions.
use Rattle.std.specs.Prelude.{◌≡◌, ◌≤◌, List, length}
use Rattle.event_records.specs.declared.limits.TheConstants.{MAX_INITIAL}
use Rattle.history_merge.specs.Initial.{Contents, HistoryView, IsCompleteFrom}
use Rattle.value_match.specs.declared.violation.Violation.{Violation}
use Rattle.claims.specs.declared.verdict.Verdict.{Verdict}
use Rattle.claims.specs.declared.claimed.ClaimLine.{ClaimLine}
use Rattle.claims.specs.declared.claimed.Claimed.{Claimed}
use Rattle.claims.specs.declared.claimed.Claimed.TheVariants.{Yes, No}
use Rattle.claims.specs.declared.claimed.ViolationKind.{ViolationKind}
use Rattle.claims.specs.Claiming.{claim_of}
use Rattle.verdicts.specs.Selection.{contents_of}
use Rattle.conditions.specs.declared.local.LocalVerdict.{LocalVerdict}
use Rattle.conditions.specs.declared.producer.Emptiness.{Emptiness}
use Rattle.conditions.specs.declared.producer.Producer.{Producer}
use Rattle.conditions.specs.Claims.{IsTrueLocalClaim, IsTrueOf, IsTrueWeakClaim, verdict_of}
use Rattle.conditions.specs.Conditions.{IsLocallyLinearizable, IsWeaklyLinearizable, without_empties}
use Rattle.conditions.specs.Decided.{IsDecidedOf, IsFirstRefuted, IsLocallyDecided}

-- the claim of a verdict on these contents
abbrev pub claim_on : Contents → Verdict → Claimed
claim_on whole verdict = claim_of whole.initial whole.operations verdict

-- ---- evidence

-- the claim of a local verdict is evidence under local linearizability
abbrev pub LocalEvidenceIsTrueClaim : Type 0
LocalEvidenceIsTrueClaim = (emptiness : Emptiness) (whole : Contents) (found : LocalVerdict)
    → IsLocallyDecided emptiness whole found
    → IsTrueLocalClaim emptiness whole (claim_on whole (verdict_of found))

-- the claim of a verdict without the empty dequeues is evidence without them
abbrev pub WeakEvidenceIsTrueClaim : Type 0
WeakEvidenceIsTrueClaim = (whole : Contents) (verdict : Verdict) → IsDecidedOf whole (without_empties whole) verdict
    → IsTrueWeakClaim whole (claim_on whole verdict)

-- a `NO` that is evidence under a weaker condition is evidence in the whole history
abbrev pub RefutedIsRefutedInTheWhole : Type 0
RefutedIsRefutedInTheWhole = (whole : Contents) (kind : ViolationKind) (lines : List ClaimLine)
    → ((emptiness : Emptiness) → IsTrueLocalClaim emptiness whole (No kind lines) → IsTrueOf whole (No kind lines))
    × (IsTrueWeakClaim whole (No kind lines) → IsTrueOf whole (No kind lines))

-- ---- claims that decide

-- a `YES` asserts that the condition is met, and a `NO` that it isn't
abbrev pub SaysOf : Type 0 → Claimed → Type 0
SaysOf Condition (Yes lines) = Condition
SaysOf Condition (No kind lines) = ¬ Condition

-- a claim that is evidence asserts correctly whether the history is locally linearizable
abbrev pub TrueLocalClaimDecides : Type 0
TrueLocalClaimDecides = (emptiness : Emptiness) (history : HistoryView) (said : Claimed)
    → IsCompleteFrom history.initial history.events
    → length history.initial ≤ MAX_INITIAL → IsTrueLocalClaim emptiness (contents_of history) said
    → SaysOf (IsLocallyLinearizable emptiness (contents_of history)) said

-- a claim that is evidence without empty dequeues asserts correctly whether the history is linearizable without them
abbrev pub TrueWeakClaimDecides : Type 0
TrueWeakClaimDecides = (history : HistoryView) (said : Claimed) → IsCompleteFrom history.initial history.events
    → length history.initial ≤ MAX_INITIAL
    → IsTrueWeakClaim (contents_of history) said → SaysOf (IsWeaklyLinearizable (contents_of history)) said

-- ---- one verdict

-- two local verdicts on a history have the same claim
abbrev pub LocalVerdictIsOne : Type 0
LocalVerdictIsOne = (emptiness : Emptiness) (history : HistoryView) (x y : LocalVerdict)
    → IsCompleteFrom history.initial history.events
    → length history.initial ≤ MAX_INITIAL → IsLocallyDecided emptiness (contents_of history) x
    → IsLocallyDecided emptiness (contents_of history) y
    → claim_on (contents_of history) (verdict_of x) ≡ claim_on (contents_of history) (verdict_of y)

-- two verdicts without the empty dequeues have the same claim
abbrev pub WeakVerdictIsOne : Type 0
WeakVerdictIsOne = (history : HistoryView) (x y : Verdict) → IsCompleteFrom history.initial history.events
    → length history.initial ≤ MAX_INITIAL
    → IsDecidedOf (contents_of history) (without_empties (contents_of history)) x
    → IsDecidedOf (contents_of history) (without_empties (contents_of history)) y
    → claim_on (contents_of history) x ≡ claim_on (contents_of history) y

-- only one producer is the first whose selection has no linearization
abbrev pub FirstRefutedIsOne : Type 0
FirstRefutedIsOne = (emptiness : Emptiness) (whole : Contents) (p q : Producer) (x y : Violation)
    → IsFirstRefuted emptiness whole p x
    → IsFirstRefuted emptiness whole q y → p ≡ q
