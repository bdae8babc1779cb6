-- A completion within the limits decides.
use Rattle.std.proofs.Common.{List, ℕ, ◌≤◌, length}
use Rattle.event_records.specs.declared.event.Event.{Event}
use Rattle.event_records.specs.declared.limits.TheConstants.{MAX_INITIAL}
use Rattle.completions.specs.Completed.{completed}
use Rattle.completions.specs.Faults.{IsBeyondLimits}
use Rattle.completions.specs.Pending.{IsDeciding, IsHistoryFrom}
use Rattle.completions.proofs.Decides.{decides}
use Rattle.completions.proofs.Sound.{within_limits}

pub decides_within : (initial : List ℕ) (events : List Event) → length initial ≤ MAX_INITIAL
    → IsHistoryFrom initial events
    → ¬ (IsBeyondLimits initial events) → IsDeciding initial events (completed initial events)
decides_within initial events few history within = decides initial events history few (within_limits initial events within).1
