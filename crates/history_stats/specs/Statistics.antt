-- The statistics of a history.
use Rattle.std.specs.Prelude.{◌≡◌, MatchOption, length, map}
use Rattle.history_merge.specs.Initial.{HistoryView}
use Rattle.history_merge.specs.Operations.{operations_of}
use Rattle.history_stats.specs.Overtaking.{greatest, overtakings}
use Rattle.history_stats.specs.FailedEnqueues.{IsRefusedAt, NoFailedEnqueue, maybe_queued_at}
use Rattle.history_stats.specs.declared.statistics.Statistics.{Statistics}
use Rattle.history_stats.specs.AtOnce.{IsMost, pending_at, queued_at}
use Rattle.history_stats.specs.Counts.{change_count, is_dequeued, is_empty, is_enqueued, is_failed_enqueue, kind_count}
use Rattle.history_stats.specs.Counts.{overlapping_count, tenths_of_percent}
use Rattle.history_stats.specs.Counts.{thread_count}

-- each number is that of its name
pub record AreStatisticsOf (history : HistoryView) (s : Statistics) : Type 0 where
  pub events : s.events ≡ length history.events
  pub operations : s.operations ≡ length (operations_of history.events)
  pub threads : s.threads ≡ thread_count history.events
  pub enqueued : s.enqueued ≡ kind_count is_enqueued (operations_of history.events)
  pub refused : s.refused ≡ kind_count is_failed_enqueue (operations_of history.events)
  pub dequeued : s.dequeued ≡ kind_count is_dequeued (operations_of history.events)
  pub empty : s.empty ≡ kind_count is_empty (operations_of history.events)
  pub initial : s.initial ≡ length history.initial
  pub thread_changes : s.thread_changes ≡ change_count history.events
  pub overlapping : s.overlapping ≡ overlapping_count (operations_of history.events)
  pub overlapping_tenths : s.overlapping_tenths
      ≡ tenths_of_percent (overlapping_count (operations_of history.events)) (length (operations_of history.events))
  pub most_pending : IsMost (pending_at (operations_of history.events)) s.most_pending
  pub most_queued : IsMost (queued_at history) s.most_queued
  pub overtakes : s.overtakes ≡ length (overtakings history)
  pub overtaken_at_most : s.overtaken_at_most ≡ greatest (map (λ o. o.count) (overtakings history))
  pub refused_at : MatchOption s.refused_at (NoFailedEnqueue (operations_of history.events))
      (IsRefusedAt (operations_of history.events) (maybe_queued_at history))
