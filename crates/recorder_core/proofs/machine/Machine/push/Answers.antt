use Rattle.std.proofs.lemmas.Result.{err_from_is_err_and}
use Rattle.recorder_core.proofs.Steps.{push_taken, push_refused, reachable_on}
use Rattle.recorder_core.proofs.machine.Machine.push.Goals as goal

pub returns : goal.returns
returns c = rw (← c.self.view_is) (push_taken _ c.args.number c.from.result _ c.in-Some.thread.now c.push.new.self c.from.ensures
    c.self.inside.threads.ok.0 c.in-Some.ensures.variant.0 c.in-Some.ensures.value c.in_ok-push.ensures.refused c.in_ok-push.ensures.ok)

pub returns-in_err-push : goal.returns-in_err-push
returns-in_err-push c =
    let p = err_from_is_err_and c.from_residual.result c.from_residual.ensures.1 in
    rw (p.1, p.2, ← c.self.view_is) (push_refused _ _ c.from.result _ c.in-Some.thread.now c.push.new.self c.from.ensures c.self.inside.threads.ok.0
    c.in-Some.ensures.variant.0 c.in-Some.ensures.value c.in_err-push.ensures.err c.in_err-push.field-0.0 c.in_err-push.ensures.refused)

pub invariant_of-self-2 : goal.invariant_of-self-2
invariant_of-self-2 c = reachable_on _ _ _ _ (push_taken _ c.args.number c.from.result _ c.in-Some.thread.now c.push.new.self c.from.ensures
    c.self.inside.threads.ok.0 c.in-Some.ensures.variant.0 c.in-Some.ensures.value c.in_ok-push.ensures.refused c.in_ok-push.ensures.ok) c.self.invariant
