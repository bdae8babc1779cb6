-- Plans of a run: for each worker the kinds of its operations, in order.
use Rattle.std.specs.Prelude.{◌≤◌, List, length, All, sum_by}
use Rattle.event_records.specs.declared.limits.TheConstants.{MAX_OPERATIONS, MAX_THREAD_OPERATIONS}
use Rattle.event_records.specs.declared.kind.Kind.{Kind}
use Rattle.event_records.specs.declared.limits.TheConstants.{MAX_WORKERS}

-- no worker makes more operations than one thread may
abbrev pub AreShort : List (List Kind) → Type 0
AreShort rows = All (λ row. length row ≤ MAX_THREAD_OPERATIONS) rows

-- one row of kinds for each worker, within the limits of a run
pub record IsPlan (rows : List (List Kind)) : Type 0 where
  pub some : 1 ≤ length rows
  pub few : length rows ≤ MAX_WORKERS
  pub short : AreShort rows
  pub small : sum_by length rows ≤ MAX_OPERATIONS
