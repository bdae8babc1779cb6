use Rattle.std.proofs.Common.{refl}
use Rattle.stress_run.proofs.Preloads.{one_more_taken, taken_to_end}
use Rattle.stress_run.proofs.runs.preload_all.Goals as goal

pub loop-place-preserved : goal.loop-place-preserved
loop-place-preserved g c =
    one_more_taken ((goal.TestQueue-dyn g c.args.queue.now).may_preload c.args.queue.now.1) c.args.initial.now c.loop-place.place
    c.loop-place.invariant c.if-not-preload.ensures

pub returns-clause-taken : goal.returns-clause-taken
returns-clause-taken g c =
    taken_to_end ((goal.TestQueue-dyn g c.args.queue.now).may_preload c.args.queue.now.1) c.args.initial.now c.loop-place.place
    c.loop-place-test.false c.loop-place.invariant

pub returns-then-not-preload-clause-refused : goal.returns-then-not-preload-clause-refused
returns-then-not-preload-clause-refused g c = (
  c.loop-place.place,
  refl,
  record { within = c.loop-place-test.true; before = c.loop-place.invariant; refused = c.if-not-preload.ensures },
)
