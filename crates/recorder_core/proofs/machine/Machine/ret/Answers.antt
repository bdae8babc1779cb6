use Rattle.std.proofs.Common.{refl, arith}
use Rattle.std.proofs.lemmas.Result.{err_from_is_err_and}
use Rattle.recorder_core.proofs.Steps.{return_taken, return_refused, reachable_on}
use Rattle.recorder_core.proofs.Totals.{is_small}
use Rattle.recorder_core.proofs.machine.Machine.ret.Goals as goal

pub returns : goal.returns
returns c =
    rw (c.take_ticket-ret.ensures.ticket, c.take_ticket-ret.ensures.taken, ← c.self.view_is)
    (return_taken _ c.args.number c.from.result _ c.in-Some.thread.now c.end.new.self c.from.ensures
    c.self.inside.threads.ok.0 c.in-Some.ensures.variant.0 c.in-Some.ensures.value c.in_ok-answer.answer
    c.in_ok-answer.ensures.refused c.in_ok-answer.ensures.ok (rw (c.return_with.ensures, c.take_ticket-ret.ensures.ticket) at c.end.ensures))

pub invariant_of-self-2 : goal.invariant_of-self-2
invariant_of-self-2 c =
    rw (c.take_ticket-ret.ensures.taken) (reachable_on _ _ _ _ (return_taken _ c.args.number c.from.result _ c.in-Some.thread.now c.end.new.self c.from.ensures
    c.self.inside.threads.ok.0 c.in-Some.ensures.variant.0 c.in-Some.ensures.value c.in_ok-answer.answer
    c.in_ok-answer.ensures.refused c.in_ok-answer.ensures.ok (rw (c.return_with.ensures, c.take_ticket-ret.ensures.ticket) at c.end.ensures)) c.self.invariant)

pub returns-in_err-answer : goal.returns-in_err-answer
returns-in_err-answer c =
    let p = err_from_is_err_and c.from_residual.result c.from_residual.ensures.1 in
    rw (p.1, p.2, ← c.self.view_is) (return_refused _ c.args.number c.from.result _ c.in-Some.thread.now c.in-Some.thread.now c.from.ensures
    c.self.inside.threads.ok.0 c.in-Some.ensures.variant.0 c.in-Some.ensures.value refl c.in_err-answer.field-0.0 c.in_err-answer.ensures.refused)

pub take_ticket-ret-requires : goal.take_ticket-ret-requires
take_ticket-ret-requires c =
    omega (arith, (is_small _ c.self.invariant).1)
