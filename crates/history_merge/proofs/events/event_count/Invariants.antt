use Rattle.history_merge.proofs.Common.{count_by, length, ◌+◌, ◌≡◌, ◌≤◌}
use Rattle.history_merge.proofs.TheirEvents.{has_returned}
use Rattle.history_merge.proofs.events.event_count.Given as goal

abbrev pub invariant-loop-operation : goal.invariant-loop-operation
invariant-loop-operation l = record {
  counted : l.count + count_by has_returned l.operation-iterator
      ≡ length l.operations + count_by has_returned l.operations;
  few : l.count + length l.operation-iterator ≤ length l.operations + length l.operations;
}
