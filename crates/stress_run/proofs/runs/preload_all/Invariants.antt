use Rattle.stress_run.specs.Preloaded.{AreTakenBefore}
use Rattle.stress_run.proofs.runs.preload_all.Given as goal

abbrev pub invariant-loop-place : goal.invariant-loop-place
invariant-loop-place g l = AreTakenBefore ((goal.TestQueue-dyn g l.queue.now).may_preload l.queue.now.1) l.fn.initial l.place
