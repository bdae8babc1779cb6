-- Values that a queue may hold before a run.
use Rattle.std.specs.Prelude.{◌≢◌, ℕ, ◌≤◌, List, length, All, AllPairs}
use Rattle.event_records.specs.declared.limits.TheConstants.{MAX_INITIAL, LEAST_INITIAL_NAME}

-- distinct values, no more than a history may begin with, each above the names of the threads' own values
pub record AreInitialNames (values : List ℕ) : Type 0 where
  pub not_too_many : length values ≤ MAX_INITIAL
  pub are_distinct : AllPairs (λ v w. v ≢ w) values
  pub above_names : All (λ v. LEAST_INITIAL_NAME ≤ v) values
