use Rattle.std.proofs.Common.{◌∙◌, arith}
use Rattle.stress_run.proofs.Given.{given_none, given_more, given_all}
use Rattle.stress_run.proofs.Made.{made_none, made_more, made_all, key_is, enough}
use Rattle.stress_run.proofs.making.make_crew.Goals as goal

pub loop-place-preserved : goal.loop-place-preserved
loop-place-preserved c =
    let e = c.in_ok-left.ensures in
    let took = c.take_for-taken.ensures in (
      made_more c.args.tickets.now.key c.args.sizes c.args.rows.now c.loop-place.place c.loop-place-test.true c.loop-place.rest
          c.loop-place.workers.items c.loop-place.ends.items c.loop-place.invariant.0
          c.index-rows-place.result c.in_ok-left.worker c.in_ok-left.left c.in_ok-left.end c.push.new.self.items c.push-in-loop-place.new.self.items
          c.index-rows-place.is e.worker.0 (e.worker.1 ∙ c.thread_at.ensures) e.end e.rest c.in_ok-push.ensures.items c.in_ok-push-2.ensures.items,
      given_more c.args.own c.args.rows.now c.requires.roles c.loop-place.place c.loop-place-test.true c.loop-place.own c.loop-place.workers.items
          c.loop-place.invariant.1 c.index-rows-place.result c.index-rows-place.is _ _ c.in_ok-left.worker c.push.new.self.items took.taken took.left e.ends
          c.in_ok-push.ensures.items,
    )

pub loop-place-init : goal.loop-place-init
loop-place-init c = (
  made_none _ c.args.sizes c.args.rows.now c.args.pass _ _ c.requires.pass c.new-workers.ensures.items c.new-ends.ensures.items,
  given_none c.args.own c.args.rows.now _ c.new-workers.ensures.items,
)

pub thread_at-requires : goal.thread_at-requires
thread_at-requires c = omega (arith, c.loop-place-test.true, c.requires.plan.few)

pub make_one-requires-clause-key : goal.make_one-requires-clause-key
make_one-requires-clause-key c = key_is _ _ _ _ c.loop-place-test.true _ _ _ c.loop-place.invariant.0

pub make_one-requires-clause-enough : goal.make_one-requires-clause-enough
make_one-requires-clause-enough c =
    enough _ _ c.args.rows.now c.loop-place.place c.loop-place-test.true _ _ _ c.loop-place.invariant.0 c.index-rows-place.result c.index-rows-place.is

pub returns-clause-workers : goal.returns-clause-workers
returns-clause-workers c = (made_all _ _ c.args.rows.now c.loop-place.place _ _ _ (omega (arith, c.loop-place-test.false)) c.loop-place.invariant.0).0

pub returns-clause-served : goal.returns-clause-served
returns-clause-served c = given_all c.args.own c.args.rows.now c.loop-place.place c.loop-place.own c.loop-place.workers.items
    (omega (arith, c.loop-place-test.false)) c.loop-place.invariant.1

pub returns-clause-ends : goal.returns-clause-ends
returns-clause-ends c = c.loop-place.invariant.0.ends_are

pub returns-clause-rest : goal.returns-clause-rest
returns-clause-rest c = (made_all _ _ c.args.rows.now c.loop-place.place _ _ _ (omega (arith, c.loop-place-test.false)) c.loop-place.invariant.0).1
