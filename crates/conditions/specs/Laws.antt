-- Laws of the conditions.
use Rattle.std.specs.Prelude.{◌≢◌, ℕ, ◌≤◌, Bool, List, length}
use Rattle.event_records.specs.declared.limits.TheConstants.{MAX_INITIAL}
use Rattle.history_merge.specs.Initial.{Contents, HistoryView, IsCompleteFrom}
use Rattle.claims.specs.declared.claimed.ClaimLine.{ClaimLine}
use Rattle.claims.specs.declared.claimed.ViolationKind.{ViolationKind}
use Rattle.verdicts.specs.Selection.{AreLinearizable, contents_of, IsMinimal, IsValueClosed, select}
use Rattle.claims.specs.Showing.{Shows}
use Rattle.conditions.specs.declared.producer.Emptiness.{Emptiness}
use Rattle.conditions.specs.declared.producer.Emptiness.TheVariants.{Strict, Weak}
use Rattle.conditions.specs.declared.producer.Producer.{Producer}
use Rattle.conditions.specs.Conditions.{IsLocallyLinearizable, IsWeaklyLinearizable, selection_of, without_empties}

-- the lines show a violation of this kind in these contents
abbrev pub ShowsIn : Contents → ViolationKind → List ClaimLine → Type 0
ShowsIn contents kind lines = Shows contents.initial contents.operations kind lines

-- a violation of a selection is one of the whole
abbrev pub ViolationsAreOfTheWhole : Type 0
ViolationsAreOfTheWhole =
    (values empties : ℕ → Bool) (whole : Contents) (kind : ViolationKind) (lines : List ClaimLine)
    → ShowsIn (select values empties whole) kind lines → ShowsIn whole kind lines

-- each selection of a linearizable history is linearizable
abbrev pub SelectionsStayLinearizable : Type 0
SelectionsStayLinearizable = (values empties : ℕ → Bool) (history : HistoryView)
    → IsCompleteFrom history.initial history.events
    → length history.initial ≤ MAX_INITIAL → AreLinearizable (contents_of history)
    → AreLinearizable (select values empties (contents_of history))

-- a linearizable history is linearizable under each weaker condition
abbrev pub ConditionsAreWeaker : Type 0
ConditionsAreWeaker = (history : HistoryView) → IsCompleteFrom history.initial history.events
    → length history.initial ≤ MAX_INITIAL
    → AreLinearizable (contents_of history)
    → IsWeaklyLinearizable (contents_of history)
    × ((emptiness : Emptiness) → IsLocallyLinearizable emptiness (contents_of history))

-- with weak emptiness, local linearizability is weaker than with strict emptiness, and weaker than weak emptiness
-- alone
abbrev pub BothAreWeakest : Type 0
BothAreWeakest = (history : HistoryView) → IsCompleteFrom history.initial history.events
    → length history.initial ≤ MAX_INITIAL
    → (IsLocallyLinearizable Strict (contents_of history) → IsLocallyLinearizable Weak (contents_of history))
    × (IsWeaklyLinearizable (contents_of history) → IsLocallyLinearizable Weak (contents_of history))

-- ---- minimal histories for a condition

-- without its empty dequeues the history isn't linearizable, but every other selection is
abbrev pub IsWeaklyMinimal : Contents → Type 0
IsWeaklyMinimal whole = ¬ (IsWeaklyLinearizable whole)
    × ((selected : Contents) → IsValueClosed whole selected → selected ≢ whole → IsWeaklyLinearizable selected)

-- the history isn't locally linearizable, but every other selection is
abbrev pub IsLocallyMinimal : Emptiness → Contents → Type 0
IsLocallyMinimal emptiness whole = ¬ (IsLocallyLinearizable emptiness whole)
    × ((selected : Contents) → IsValueClosed whole selected → selected ≢ whole
    → IsLocallyLinearizable emptiness selected)

-- a minimal history, selected from one without its empty dequeues, is minimal for weak emptiness
abbrev pub StaysWeaklyMinimal : Type 0
StaysWeaklyMinimal = (whole : Contents) (small : HistoryView) → IsCompleteFrom small.initial small.events
    → length small.initial ≤ MAX_INITIAL
    → IsValueClosed (without_empties whole) (contents_of small) → IsMinimal (contents_of small)
    → IsWeaklyMinimal (contents_of small)

-- a minimal history, selected from a producer's selection, is minimal for local linearizability
abbrev pub StaysLocallyMinimal : Type 0
StaysLocallyMinimal = (emptiness : Emptiness) (p : Producer) (whole : Contents) (small : HistoryView)
    → IsCompleteFrom small.initial small.events
    → length small.initial ≤ MAX_INITIAL → IsValueClosed (selection_of emptiness p whole) (contents_of small)
    → IsMinimal (contents_of small)
    → IsLocallyMinimal emptiness (contents_of small)
