-- A history has only one statistics.
use Rattle.std.proofs.Common.{◌≡◌, ℕ, List, None, Option, Some, ap, arith, refl, sym, ◌∙◌}
use Rattle.std.specs.Prelude.{MatchOption}
use Rattle.history_merge.specs.Initial.{HistoryView}
use Rattle.history_merge.specs.Operations.{operations_of}
use Rattle.history_merge.specs.declared.operation.Operation.{Operation}
use Rattle.history_stats.specs.FailedEnqueues.{IsRefusedAt, NoFailedEnqueue, maybe_queued_at}
use Rattle.history_stats.specs.AtOnce.{pending_at, queued_at}
use Rattle.history_stats.specs.Statistics.{AreStatisticsOf}
use Rattle.history_stats.specs.declared.statistics.Statistics.{Statistics}
use Rattle.history_stats.proofs.AtOnce.{one_most}

-- numbers have only one minimum of the maximum during a failed enqueue
one_least : (operations : List Operation) (f : ℕ → ℕ) (a b : ℕ) → IsRefusedAt operations f a
    → IsRefusedAt operations f b → a ≡ b
one_least operations f a b x y =
    let under = x.at_each y.failed y.is_failed in
    let over = y.at_each x.failed x.is_failed in
    omega (arith, under.2, y.at_most under.0 under.1, over.2, x.at_most over.0 over.1)

one_maybe : (operations : List Operation) (f : ℕ → ℕ) (a b : Option ℕ)
    → MatchOption a (NoFailedEnqueue operations) (IsRefusedAt operations f)
    → MatchOption b (NoFailedEnqueue operations) (IsRefusedAt operations f) → a ≡ b
one_maybe operations f None None x y = refl
one_maybe operations f None (Some b) x y = absurd (x y.failed y.is_failed)
one_maybe operations f (Some a) None x y = absurd (y x.failed x.is_failed)
one_maybe operations f (Some a) (Some b) x y = ap Some (one_least operations f a b x y)

pub one_statistics : (history : HistoryView) (a b : Statistics) → AreStatisticsOf history a → AreStatisticsOf history b
    → a ≡ b
one_statistics history a b x y =
    let pending = one_most (pending_at (operations_of history.events)) a.most_pending b.most_pending x.most_pending y.most_pending in
    let queued = one_most (queued_at history) a.most_queued b.most_queued x.most_queued y.most_queued in
    λ i. record {
      events = (x.events ∙ sym y.events) i;
      operations = (x.operations ∙ sym y.operations) i;
      threads = (x.threads ∙ sym y.threads) i;
      enqueued = (x.enqueued ∙ sym y.enqueued) i;
      refused = (x.refused ∙ sym y.refused) i;
      dequeued = (x.dequeued ∙ sym y.dequeued) i;
      empty = (x.empty ∙ sym y.empty) i;
      initial = (x.initial ∙ sym y.initial) i;
      thread_changes = (x.thread_changes ∙ sym y.thread_changes) i;
      overlapping = (x.overlapping ∙ sym y.overlapping) i;
      overlapping_tenths = (x.overlapping_tenths ∙ sym y.overlapping_tenths) i;
      most_pending = pending i;
      most_queued = queued i;
      overtakes = (x.overtakes ∙ sym y.overtakes) i;
      overtaken_at_most = (x.overtaken_at_most ∙ sym y.overtaken_at_most) i;
      refused_at = one_maybe (operations_of history.events) (maybe_queued_at history) a.refused_at b.refused_at x.refused_at y.refused_at i;
    }
