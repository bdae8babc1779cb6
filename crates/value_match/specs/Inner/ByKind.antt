-- The operations of a timeline by kind, before they are those of a matching.
use Rattle.std.specs.Prelude.{◌≤◌, List, length, map}
use Rattle.history_merge.specs.declared.operation.Operation.{Operation}
use Rattle.value_match.specs.Inner.Courses.{on}
use Rattle.value_match.specs.declared.matching.ByKind.{ByKind}
use Rattle.value_match.specs.declared.matching.TheConstants.{MAX_MATCHED}
use Rattle.value_match.specs.Inner.Accepted.{HoldsLives, value_at}
use Rattle.value_match.specs.Lives.{HoldsPlaces, is_empty_answer, is_failed}
use Rattle.value_match.specs.Violations.{IsClear}

-- the values, the empty dequeues and the failed enqueues are those of these operations, which have neither of the
-- first two kinds of violation
pub record IsByKindOf (operations : List Operation) (sorted : ByKind) : Type 0 where
  pub few : length operations ≤ MAX_MATCHED
  pub clear : IsClear (on operations)
  pub values : HoldsLives operations (map (value_at operations) sorted.values.items)
  pub empties : HoldsPlaces operations is_empty_answer sorted.empties.items
  pub failed : HoldsPlaces operations is_failed sorted.failed.items
