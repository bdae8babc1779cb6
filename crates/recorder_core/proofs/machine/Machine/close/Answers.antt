use Rattle.std.proofs.lemmas.Result.{err_from_is_err_and}
use Rattle.recorder_core.proofs.Steps.{close_taken, close_refused, reachable_on}
use Rattle.recorder_core.proofs.machine.Machine.close.Goals as goal

pub returns : goal.returns
returns c = rw (← c.self.view_is) (close_taken _ c.args.number c.from.result _ c.in-Some.thread.now c.close.new.self c.from.ensures
    c.self.inside.threads.ok.0 c.in-Some.ensures.variant.0 c.in-Some.ensures.value c.in_ok-close.ensures.refused c.in_ok-close.ensures.ok)

pub invariant_of-self-2 : goal.invariant_of-self-2
invariant_of-self-2 c = reachable_on _ _ _ _ (close_taken _ c.args.number c.from.result _ c.in-Some.thread.now c.close.new.self c.from.ensures
    c.self.inside.threads.ok.0 c.in-Some.ensures.variant.0 c.in-Some.ensures.value c.in_ok-close.ensures.refused c.in_ok-close.ensures.ok) c.self.invariant

pub returns-in_err-close : goal.returns-in_err-close
returns-in_err-close c =
    let p = err_from_is_err_and c.from_residual.result c.from_residual.ensures.1 in
    rw (p.1, p.2, ← c.self.view_is) (close_refused _ _ c.from.result _ c.in-Some.thread.now c.close.new.self c.from.ensures c.self.inside.threads.ok.0
    c.in-Some.ensures.variant.0 c.in-Some.ensures.value c.in_err-close.ensures.err c.in_err-close.field-0.0 c.in_err-close.ensures.refused)
