-- The condition by which a command judges: linearizability or local linearizability, each also with empty dequeues
-- that promise nothing.
use Rattle.std.specs.Prelude.{◌≡◌, Bool, true, false}
use Rattle.command_words.specs.declared.options.Condition.{Condition}
use Rattle.conditions.specs.Claims.{IsTrueLocalClaim, IsTrueWeakClaim, verdict_of}
use Rattle.conditions.specs.Conditions.{IsLocallyLinearizable, IsWeaklyLinearizable, selection_of, without_empties}
use Rattle.conditions.specs.Decided.{IsDecidedOf, IsFirstRefuted, IsLocallyDecided}
use Rattle.conditions.specs.Laws.{IsLocallyMinimal, IsWeaklyMinimal}
use Rattle.conditions.specs.declared.local.LocalVerdict.{LocalVerdict}
use Rattle.conditions.specs.declared.producer.Emptiness.{Emptiness}
use Rattle.conditions.specs.declared.producer.Emptiness.TheVariants.{Strict, Weak}
use Rattle.conditions.specs.declared.producer.Producer.{Producer}
use Rattle.history_merge.specs.Initial.{Contents, HistoryView}
use Rattle.history_merge.specs.Operations.{operations_of}
use Rattle.value_match.specs.declared.violation.Violation.{Violation}
use Rattle.claims.specs.Claims.{IsTrueClaim}
use Rattle.verdicts.specs.Decided.{IsDecided}
use Rattle.verdicts.specs.Selection.{AreLinearizable, contents_of, IsMinimal}
use Rattle.claims.specs.declared.verdict.Verdict.{Verdict}
use Rattle.claims.specs.declared.claimed.Claimed.{Claimed}

-- the promise of empty dequeues, by whether they promise nothing
abbrev pub emptiness_if : Bool → Emptiness
emptiness_if false = Strict
emptiness_if true = Weak

-- ---- whether a history meets it

-- the history meets the condition, by whether each producer's values are judged on their own, and whether empty
-- dequeues promise nothing
abbrev pub MeetsBy : Bool → Bool → Contents → Type 0
MeetsBy false false whole = AreLinearizable whole
MeetsBy false true whole = IsWeaklyLinearizable whole
MeetsBy true is_weak whole = IsLocallyLinearizable (emptiness_if is_weak) whole

-- the history meets the condition
abbrev pub Meets : Condition → HistoryView → Type 0
Meets condition history = MeetsBy condition.is_local condition.is_weakly_empty (contents_of history)

-- ---- its verdict

-- the verdict under the condition: a linearization or a violation; or one of the history without its empty dequeues;
-- or the linearizations of the producers' selections one after another, or a violation in the first that has none
abbrev pub IsDecidedBy : Bool → Bool → Contents → Verdict → Type 0
IsDecidedBy false false whole verdict = IsDecided whole.initial whole.operations verdict
IsDecidedBy false true whole verdict = IsDecidedOf whole (without_empties whole) verdict
IsDecidedBy true is_weak whole verdict =
    (found : LocalVerdict) × IsLocallyDecided (emptiness_if is_weak) whole found × (verdict ≡ verdict_of found)

-- the verdict on the history under the condition
abbrev pub IsDecidedUnder : Condition → HistoryView → Verdict → Type 0
IsDecidedUnder condition history verdict =
    IsDecidedBy condition.is_local condition.is_weakly_empty (contents_of history) verdict

-- ---- claims

-- the claim is evidence under the condition, by whether each producer's values are judged on their own, and whether
-- empty dequeues promise nothing
abbrev pub IsTrueBy : Bool → Bool → Contents → Claimed → Type 0
IsTrueBy false false whole claimed = IsTrueClaim whole.initial whole.operations claimed
IsTrueBy false true whole claimed = IsTrueWeakClaim whole claimed
IsTrueBy true is_weak whole claimed = IsTrueLocalClaim (emptiness_if is_weak) whole claimed

-- the claim is evidence in the history under the condition
abbrev pub IsTrueUnder : Condition → HistoryView → Claimed → Type 0
IsTrueUnder condition history claimed =
    IsTrueBy condition.is_local condition.is_weakly_empty (contents_of history) claimed

-- ---- the part that is shrunk

-- the part in which a `NO` is found: the history; or the history without its empty dequeues; or the selection of the
-- first producer whose selection has no linearization
abbrev pub IsRefutedBy : Bool → Bool → Contents → Contents → Type 0
IsRefutedBy false false whole part = part ≡ whole
IsRefutedBy false true whole part = part ≡ without_empties whole
IsRefutedBy true is_weak whole part = (p : Producer) × (violation : Violation)
    × IsFirstRefuted (emptiness_if is_weak) whole p violation
    × (part ≡ selection_of (emptiness_if is_weak) p whole)

-- the part of a history in which a `NO` under the condition is found
abbrev pub IsRefutedPart : Condition → HistoryView → HistoryView → Type 0
IsRefutedPart condition history part =
    IsRefutedBy condition.is_local condition.is_weakly_empty (contents_of history) (contents_of part)

-- the history doesn't meet the condition, while every other selection of it does
abbrev pub IsMinimalBy : Bool → Bool → Contents → Type 0
IsMinimalBy false false whole = IsMinimal whole
IsMinimalBy false true whole = IsWeaklyMinimal whole
IsMinimalBy true is_weak whole = IsLocallyMinimal (emptiness_if is_weak) whole

-- the history is minimal for the condition
abbrev pub IsMinimalUnder : Condition → HistoryView → Type 0
IsMinimalUnder condition history = IsMinimalBy condition.is_local condition.is_weakly_empty (contents_of history)
