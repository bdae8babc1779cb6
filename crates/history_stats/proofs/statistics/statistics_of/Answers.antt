use Rattle.std.specs.Prelude.{MatchOption, map}
use Rattle.std.proofs.Common.{arith, ◌++◌, ◌∙◌, List, ap, length, subst}
use Rattle.history_merge.proofs.Distinct.{calls_before_returns}
use Rattle.history_merge.proofs.Distinct.{calls_rise}
use Rattle.history_merge.specs.declared.operation.Operation.{Operation}
use Rattle.history_stats.specs.AtOnce.{IsMost, stay_count, values_put_before}
use Rattle.history_stats.specs.Overtaking.{greatest}
use Rattle.history_stats.specs.FailedEnqueues.{IsRefusedAt, NoFailedEnqueue, left_count, values_called_before}
use Rattle.history_stats.specs.Counts.{change_count, is_dequeued, is_empty, is_enqueued, is_failed_enqueue, kind_count}
use Rattle.history_stats.specs.Counts.{overlapping_count, tenths_of_percent, thread_count}
use Rattle.history_stats.proofs.statistics.statistics_of.Goals as goal

pub most_pending-requires-clause-forward : goal.most_pending-requires-clause-forward
most_pending-requires-clause-forward c = rw c.operations-operations.ensures.operations
    (calls_before_returns c.args.history.now.events c.in_ok-events.ensures.complete.tickets_rise)

pub refused_at-requires-clause-forward : goal.refused_at-requires-clause-forward
refused_at-requires-clause-forward c = rw c.operations-operations.ensures.operations
    (calls_before_returns c.args.history.now.events c.in_ok-events.ensures.complete.tickets_rise)

pub overlapping_count-overlapping-requires-clause-calls_rise : goal.overlapping_count-overlapping-requires-clause-calls_rise
overlapping_count-overlapping-requires-clause-calls_rise c = rw c.operations-operations.ensures.operations
    (calls_rise c.args.history.now.events c.in_ok-events.ensures.complete.tickets_rise)

pub overlapping_count-overlapping-requires-clause-forward : goal.overlapping_count-overlapping-requires-clause-forward
overlapping_count-overlapping-requires-clause-forward c = rw c.operations-operations.ensures.operations
    (calls_before_returns c.args.history.now.events c.in_ok-events.ensures.complete.tickets_rise)

pub returns : goal.returns
returns c =
    let operations = c.operations-operations.ensures.operations in
    let initial = c.initial-initial.ensures.initial in
    let overlapping = c.overlapping_count-overlapping.ensures.exact ∙ ap overlapping_count operations in
    let refused = subst (λ (os : List Operation). MatchOption c.in_ok-refused_at.refused_at (NoFailedEnqueue os)
    (IsRefusedAt os (λ gap. left_count gap os (c.initial-initial.result.now ++ values_called_before gap os)))) operations c.in_ok-refused_at.ensures in
    let queued = subst (λ (os : List Operation). IsMost (λ gap. stay_count gap os (c.initial-initial.result.now ++ values_put_before gap os))
    c.in_ok-most_queued.most_queued) operations c.in_ok-most_queued.ensures in
    record {
      events = omega (arith, c.len.ensures, c.in_ok-events.events.ok.0, ap length c.in_ok-events.ensures.listed);
      operations = c.len-2.ensures.exact ∙ ap length operations;
      threads = c.thread_count.ensures ∙ ap thread_count (c.as_slice.ensures.value ∙ c.in_ok-events.ensures.listed);
      enqueued = c.enqueued_count.ensures ∙ ap (kind_count is_enqueued) operations;
      refused = c.failed_enqueue_count.ensures ∙ ap (kind_count is_failed_enqueue) operations;
      dequeued = c.dequeued_count.ensures ∙ ap (kind_count is_dequeued) operations;
      empty = c.empty_count.ensures ∙ ap (kind_count is_empty) operations;
      initial = ap length initial;
      thread_changes = c.change_count.ensures ∙ ap change_count (c.as_slice-2.ensures.value ∙ c.in_ok-events.ensures.listed);
      overlapping = overlapping;
      overlapping_tenths = c.tenths_of_percent.ensures ∙ (λ i. tenths_of_percent (overlapping i) ((c.len-3.ensures.exact ∙ ap length operations) i));
      most_pending = rw (← operations) c.in_ok-most_pending.ensures;
      most_queued = rw (← initial) queued;
      overtakes = omega (arith, c.len-4.ensures, c.in_ok-overtakings.overtakings.ok.0, ap length c.in_ok-overtakings.ensures);
      overtaken_at_most = c.greatest_count.ensures ∙ ap (λ os. greatest (map (λ o. o.count) os)) (c.as_slice-3.ensures.value ∙ c.in_ok-overtakings.ensures);
      refused_at = rw (← initial) refused;
    }
