use Rattle.std.proofs.Common.{refl, sym, ◌∙◌}
use Rattle.std.proofs.lemmas.Result.{err_from_is_err_and}
use Rattle.recorder_core.proofs.Steps.{say_taken, say_refused, say_wrong, reachable_on}
use Rattle.recorder_core.proofs.machine.Machine.say.Goals as goal

pub returns : goal.returns
returns c =
    rw (← c.self.view_is) (say_taken _ c.args.number c.from.result _ c.in-Some.thread.now c.answer.new.self c.from.ensures
    c.self.inside.threads.ok.0 c.in-Some.ensures.variant.0 c.in-Some.ensures.value c.in_ok-request.request
    c.args.told c.in_ok-request.ensures.refused c.in_ok-request.ensures.ok
    (sym c.is_of_other_kind.ensures ∙ c.if-is_of_other_kind.false) c.answer.ensures)

pub invariant_of-self-2 : goal.invariant_of-self-2
invariant_of-self-2 c =
    reachable_on _ _ _ _ (say_taken _ c.args.number c.from.result _ c.in-Some.thread.now c.answer.new.self c.from.ensures
    c.self.inside.threads.ok.0 c.in-Some.ensures.variant.0 c.in-Some.ensures.value c.in_ok-request.request
    c.args.told c.in_ok-request.ensures.refused c.in_ok-request.ensures.ok
    (sym c.is_of_other_kind.ensures ∙ c.if-is_of_other_kind.false) c.answer.ensures) c.self.invariant

pub returns-in_err-request : goal.returns-in_err-request
returns-in_err-request c =
    let p = err_from_is_err_and c.from_residual.result c.from_residual.ensures.1 in
    rw (p.1, p.2, ← c.self.view_is) (say_refused _ c.args.number c.from.result _ c.in-Some.thread.now c.in-Some.thread.now c.from.ensures
    c.self.inside.threads.ok.0 c.in-Some.ensures.variant.0 c.in-Some.ensures.value refl c.args.told c.in_err-request.field-0.0
    c.in_err-request.ensures.refused)

pub returns-then-is_of_other_kind : goal.returns-then-is_of_other_kind
returns-then-is_of_other_kind c =
    rw (← c.self.view_is) (say_wrong _ c.args.number c.from.result _ c.in-Some.thread.now c.in-Some.thread.now c.from.ensures
    c.self.inside.threads.ok.0 c.in-Some.ensures.variant.0 c.in-Some.ensures.value refl
    c.in_ok-request.request c.args.told c.in_ok-request.ensures.refused c.in_ok-request.ensures.ok
    (sym c.is_of_other_kind.ensures ∙ c.if-is_of_other_kind.true))
