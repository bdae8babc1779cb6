use Rattle.recorder_core.proofs.Steps.{drain_taken, reachable_on}
use Rattle.recorder_core.proofs.machine.Machine.drain.Goals as goal

pub returns : goal.returns
returns c =
    rw (← c.self.view_is) (drain_taken _ c.args.number c.from.result _ c.in-Some.thread.now c.drain.new.self c.from.ensures
    c.self.inside.threads.ok.0 c.in-Some.ensures.variant.0 c.in-Some.ensures.value c.args.most c.in-Ok.count c.in-Ok.ensures.count c.in-Ok.ensures.ok)

pub invariant_of-self-2 : goal.invariant_of-self-2
invariant_of-self-2 c =
    reachable_on _ _ _ _ (drain_taken _ c.args.number c.from.result _ c.in-Some.thread.now c.drain.new.self c.from.ensures
    c.self.inside.threads.ok.0 c.in-Some.ensures.variant.0 c.in-Some.ensures.value c.args.most c.in-Ok.count c.in-Ok.ensures.count
    c.in-Ok.ensures.ok) c.self.invariant
