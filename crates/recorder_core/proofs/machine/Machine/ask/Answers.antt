use Rattle.std.proofs.Common.{◌≤◌, length, refl, sym, ◌∙◌, arith}
use Rattle.std.proofs.lemmas.Result.{err_from_is_err_and}
use Rattle.recorder_core.proofs.Steps.{ask_taken, ask_refused, ask_limited, ask_unknown, past_end, reachable_on}
use Rattle.recorder_core.proofs.Totals.{is_small}
use Rattle.recorder_core.proofs.machine.Machine.ask.Goals as goal

pub returns : goal.returns
returns c =
    let few = rw c.asked.ensures at (sym c.is_limited.ensures ∙ c.if-is_limited.false) in
    rw (c.take_ticket-call.ensures.ticket, c.take_ticket-call.ensures.taken, ← c.self.view_is)
    (ask_taken _ c.args.number c.from.result _ c.in-Some.thread.now c.begin.new.self c.from.ensures
    c.self.inside.threads.ok.0 c.in-Some.ensures.variant.0 c.in-Some.ensures.value c.args.kind c.in_ok-idle.ensures few
    (rw (c.call_with.ensures, c.request_of-request.ensures, c.asked-2.ensures, c.take_ticket-call.ensures.ticket) at c.begin.ensures))

pub invariant_of-self-2 : goal.invariant_of-self-2
invariant_of-self-2 c =
    let few = rw c.asked.ensures at (sym c.is_limited.ensures ∙ c.if-is_limited.false) in
    rw (c.take_ticket-call.ensures.taken) (reachable_on _ _ _ _ (ask_taken _ c.args.number c.from.result _ c.in-Some.thread.now c.begin.new.self c.from.ensures
    c.self.inside.threads.ok.0 c.in-Some.ensures.variant.0 c.in-Some.ensures.value c.args.kind c.in_ok-idle.ensures few (rw (
      c.call_with.ensures,
      c.request_of-request.ensures,
      c.asked-2.ensures,
      c.take_ticket-call.ensures.ticket,
    ) at c.begin.ensures)) c.self.invariant)

pub returns-in_err-idle : goal.returns-in_err-idle
returns-in_err-idle c =
    let p = err_from_is_err_and c.from_residual.result c.from_residual.ensures.1 in
    rw (p.1, p.2, ← c.self.view_is) (ask_refused _ c.args.number c.from.result _ c.in-Some.thread.now c.in-Some.thread.now c.from.ensures
    c.self.inside.threads.ok.0 c.in-Some.ensures.variant.0 c.in-Some.ensures.value refl c.args.kind c.in_err-idle.field-0.0
    c.in_err-idle.ensures)

pub returns-then-is_limited : goal.returns-then-is_limited
returns-then-is_limited c =
    let many = rw c.asked.ensures at (sym c.is_limited.ensures ∙ c.if-is_limited.true) in
    rw (← c.self.view_is) (ask_limited _ c.args.number c.from.result _ c.in-Some.thread.now c.in-Some.thread.now c.from.ensures
    c.self.inside.threads.ok.0 c.in-Some.ensures.variant.0 c.in-Some.ensures.value refl c.args.kind c.in_ok-idle.ensures many)

pub take_ticket-call-requires : goal.take_ticket-call-requires
take_ticket-call-requires c =
    omega (arith, (is_small _ c.self.invariant).1)

pub returns-in_default : goal.returns-in_default
returns-in_default c =
    let past : length c.self.inside.threads.items ≤ c.args.number =
    omega (arith, past_end _ _ c.in_default.ensures.variant.1, c.self.inside.threads.ok.0, c.from.ensures) in
    rw (← c.self.view_is) (ask_unknown _ c.args.number c.args.kind past)
