use Rattle.std.proofs.Common.{◌≡◌, refl}
use Rattle.std.proofs.lemmas.Result.{err_from_is_err_and}
use Rattle.recorder_core.proofs.Steps.{effect_taken, effect_refused, effect_starved, reachable_on}
use Rattle.recorder_core.proofs.machine.Machine.effect.Goals as goal

pub returns : goal.returns
returns c =
    rw (← c.self.view_is) (effect_taken _ c.args.number c.from.result _ c.in-Some.thread.now c.answer.new.self c.from.ensures
    c.self.inside.threads.ok.0 c.in-Some.ensures.variant.0 c.in-Some.ensures.value c.in_ok-request.request c.in-Ok.answer
    c.take_effect.new.queue.items c.in_ok-request.ensures.refused c.in_ok-request.ensures.ok c.in-Ok.ensures.ok c.in-Ok.ensures.after c.answer.ensures)

pub invariant_of-self-2 : goal.invariant_of-self-2
invariant_of-self-2 c =
    reachable_on _ _ _ _ (effect_taken _ c.args.number c.from.result _ c.in-Some.thread.now c.answer.new.self c.from.ensures
    c.self.inside.threads.ok.0 c.in-Some.ensures.variant.0 c.in-Some.ensures.value c.in_ok-request.request c.in-Ok.answer
    c.take_effect.new.queue.items c.in_ok-request.ensures.refused c.in_ok-request.ensures.ok c.in-Ok.ensures.ok c.in-Ok.ensures.after
    c.answer.ensures) c.self.invariant

pub returns-in_default-take_effect : goal.returns-in_default-take_effect
returns-in_default-take_effect c =
    let same : c.take_effect.new.queue.items ≡ c.self.inside.queue.items = c.in_default-take_effect.ensures.err in
    rw (same, ← c.self.view_is) (effect_starved _ c.args.number c.from.result _ c.in-Some.thread.now c.in-Some.thread.now c.from.ensures
    c.self.inside.threads.ok.0 c.in-Some.ensures.variant.0 c.in-Some.ensures.value refl c.in_ok-request.ensures.refused)

pub returns-in_err-request : goal.returns-in_err-request
returns-in_err-request c =
    let p = err_from_is_err_and c.from_residual.result c.from_residual.ensures.1 in
    rw (p.1, p.2, ← c.self.view_is) (effect_refused _ c.args.number c.from.result _ c.in-Some.thread.now c.in-Some.thread.now c.from.ensures
    c.self.inside.threads.ok.0 c.in-Some.ensures.variant.0 c.in-Some.ensures.value refl c.in_err-request.field-0.0 c.in_err-request.ensures.refused)
