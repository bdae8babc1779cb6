use Rattle.std.proofs.Common.{◌≡◌, ◌+◌, ◌≤◌, ℕ, count_by, length, not, vec_len}
use Rattle.history_stats.specs.Inner.AtOnce.{count_before, is_kept_before, values_come_before}
use Rattle.history_stats.proofs.queued.add_enqueued.Given as goal

abbrev pub invariant-loop-operation : goal.invariant-loop-operation
invariant-loop-operation l = record {
  stays : (gap : ℕ) → count_by (λ v. not (is_kept_before gap l.takes v)) (values_come_before l.moment gap l.operations)
      + count_before gap l.departures.items + count_before gap l.fn.arrivals.items
      ≡ count_by (λ v. not (is_kept_before gap l.takes v)) (values_come_before l.moment gap l.operation-iterator)
      + count_before gap l.arrivals.items + count_before gap l.fn.departures.items;
  few : vec_len l.arrivals + length l.operation-iterator ≤ vec_len l.fn.arrivals + length l.operations;
}
