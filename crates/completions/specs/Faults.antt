-- The reasons why a history isn't completed.
use Rattle.std.specs.Prelude.{◌≢◌, ℕ, ◌+◌, ◌<◌, ◌⊎◌, List, length}
use Rattle.event_records.specs.declared.event.Event.{Event}
use Rattle.event_records.specs.declared.limits.TheConstants.{MAX_EVENTS, MAX_TICKET}
use Rattle.history_merge.specs.declared.fault.HistoryFault.TheVariants as history
use Rattle.history_merge.specs.Faults.{IsFirstFault}
use Rattle.history_merge.specs.Initial.{IsCompleteFrom}
use Rattle.completions.specs.declared.fault.CompletionFault.{CompletionFault}
use Rattle.completions.specs.declared.fault.CompletionFault.TheVariants.{History, Limit}
use Rattle.completions.specs.Completed.{answers_to, completed, next_ticket}

-- the completion has too many events, or a ticket above the greatest
abbrev pub IsBeyondLimits : List ℕ → List Event → Type 0
IsBeyondLimits initial events = (MAX_EVENTS < length (completed initial events))
    ⊎ (MAX_TICKET + 1 < next_ticket events + length (answers_to initial events))

-- there is no fault, or the first is that a call is pending
abbrev pub MayBePending : List ℕ → List Event → Type 0
MayBePending initial events = IsCompleteFrom initial events
    ⊎ ((ticket : ℕ) × IsFirstFault initial events (history.Pending ticket))

-- the first fault of the initial values and events, unless it is that a call is pending; or a completion beyond the
-- limits
abbrev pub IsCompletionFault : List ℕ → List Event → CompletionFault → Type 0
IsCompletionFault initial events (History fault) = IsFirstFault initial events fault
    × ((ticket : ℕ) → fault ≢ history.Pending ticket)
IsCompletionFault initial events Limit = MayBePending initial events × IsBeyondLimits initial events
