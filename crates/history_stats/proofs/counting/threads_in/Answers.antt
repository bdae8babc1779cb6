use Rattle.std.proofs.Common.{false}
use Rattle.std.proofs.lemmas.List.{get_or-replicate, length-replicate}
use Rattle.event_records.specs.declared.limits.TheConstants.{MAX_THREADS}
use Rattle.history_stats.proofs.counting.threads_in.Goals as goal

pub loop-event-init : goal.loop-event-init
loop-event-init c = record {
  marks = λ thread below. get_or-replicate MAX_THREADS thread false false below;
  each = length-replicate MAX_THREADS false;
}
