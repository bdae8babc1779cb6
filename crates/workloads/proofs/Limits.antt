-- Rows within the limits have few operations together.
use Rattle.std.proofs.Common.{◌*◌, ◌<◌, ◌≤◌, ◌^◌, List, length, sum_by, arith}
use Rattle.std.proofs.lemmas.List.Sums.{sum_by-le}
use Rattle.event_records.specs.declared.limits.TheConstants.{MAX_THREAD_OPERATIONS, MAX_WORKERS}
use Rattle.event_records.specs.declared.kind.Kind.{Kind}
use Rattle.workloads.specs.Plans.{AreShort}

-- rows within the limits have few operations together
pub sum_of_short : (rows : List (List Kind)) → AreShort rows → length rows ≤ MAX_WORKERS → sum_by length rows < 2 ^ 64
sum_of_short rows short few =
    let bound : sum_by length rows ≤ length rows * MAX_THREAD_OPERATIONS = sum_by-le length MAX_THREAD_OPERATIONS rows short in
    omega arith
