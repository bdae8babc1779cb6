use Rattle.history_stats.proofs.Staying.{is_at}
use Rattle.history_stats.proofs.Taken.{calls_more}
use Rattle.history_stats.proofs.takings.enqueue_calls.Goals as goal

pub loop-operation-preserved : goal.loop-operation-preserved
loop-operation-preserved c = calls_more c.args.operations.now c.loop-operation.operation-index c.unpack.result c.loop-operation.calls c.keep_enqueue.new.calls
    c.loop-operation-test.true (is_at c.args.operations.now c.loop-operation.operation-index c.operation-item.result c.unpack.result c.operation-item.is
    c.unpack.ensures.operation) c.in_ok-keep_enqueue.ensures c.loop-operation.invariant
