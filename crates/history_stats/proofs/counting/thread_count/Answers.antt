use Rattle.std.proofs.Common.{◌∙◌, ap, arith, count_by}
use Rattle.std.specs.List.{range_with_len}
use Rattle.history_stats.specs.Counts.{has_event, thread_count}
use Rattle.history_stats.proofs.Threads.{marks_count}
use Rattle.history_stats.proofs.counting.thread_count.Goals as goal

pub returns : goal.returns
unfolding thread_count
returns c =
    let each = c.threads_in.ensures.each in
    c.count_set.ensures
    ∙ marks_count (has_event c.args.events.now) c.threads_in.result 0 (λ k below. c.threads_in.ensures.marks k (omega arith) ∙ ap (has_event c.args.events.now) (omega arith))
    ∙ ap (λ n. count_by (has_event c.args.events.now) (range_with_len 0 n)) each
