use Rattle.std.proofs.Common.{◌≡◌, ◌<◌, ℕ, false, length, slice_index_or, take}
use Rattle.event_records.specs.declared.limits.TheConstants.{MAX_THREADS}
use Rattle.history_stats.specs.Counts.{has_event}
use Rattle.history_stats.proofs.counting.threads_in.Given as goal

abbrev pub invariant-loop-event : goal.invariant-loop-event
invariant-loop-event l = record {
  marks : (thread : ℕ) → thread < MAX_THREADS
      → slice_index_or l.seen thread false ≡ has_event (take l.event-index l.events) thread;
  each : length l.seen ≡ MAX_THREADS;
}
