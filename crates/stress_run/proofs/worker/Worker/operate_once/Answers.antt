use Rattle.std.proofs.Common.{◌<◌, ap, sym, subst, ◌∙◌, refl, arith}
use Rattle.std.proofs.lemmas.Result.{IfOk-weaker, IfErr-weaker}
use Rattle.stress_run.proofs.Once.{sent_with, stopped_with, drew_call, works_once, told_once, stalls_once, stalls_at_call, on_err}
use Rattle.event_records.specs.Question.{NamerView, Question}
use Rattle.event_records.specs.declared.event.Event.{Event}
use Rattle.event_records.specs.declared.limits.TheConstants.{NAMES_OF_A_THREAD}
use Rattle.stress_run.specs.Inner.Workers.{question_in}
use Rattle.stress_run.specs.Workers.{WorkerView}
use Rattle.stress_run.proofs.worker.Worker.operate_once.Goals as goal

pub returns-clause-works : goal.returns-clause-works
returns-clause-works g c =
    let asks = c.ask_next-ask.ensures in
    let said = c.stamped_answer-returned.ensures.stamped in
    IfOk-weaker c.record-2.result _ _ (λ x ended.
    works_once c.args.kind _ _ _ _ _ c.self.inside.namer _ c.draw.result _ _ (question_in c.ask_next-ask.result.0) _ _ said.noted
    c.self.view_is (c.self.invariant.0, refl)
    c.draw.ensures.drawn (asks.question, asks.noted, ap (λ x. x.asked) asks.counted) c.in_ok-record.ensures.sent c.self-2.view_is said.draws
    _ said.answered (c.draw.ensures.key ∙ sym c.requires.key) said.of_question said.allowed said.returns said.answers_call
    (sent_with _ _ _ _ _ _ c.self-2.view_is c.stamped_answer-returned.ensures.ends ended))
    c.record-2.ensures.sent

pub returns-clause-told : goal.returns-clause-told
returns-clause-told g c =
    let asks = c.ask_next-ask.ensures in
    let said = c.stamped_answer-returned.ensures.stamped in
    IfOk-weaker c.record-2.result _ _ (λ x ended.
    told_once c.args.kind _ _ _ _ _ c.self.inside.namer _ c.draw.result _ _ (question_in c.ask_next-ask.result.0) _ _ said.noted
    c.self.view_is (c.self.invariant.0, refl)
    c.draw.ensures.drawn (asks.question, asks.noted, ap (λ x. x.asked) asks.counted) c.in_ok-record.ensures.sent c.self-2.view_is said.draws
    _ said.answered said.of_question said.returns said.answers_call
    (sent_with _ _ _ _ _ _ c.self-2.view_is c.stamped_answer-returned.ensures.ends ended) said.notes_it)
    c.record-2.ensures.sent

pub returns-clause-stalls : goal.returns-clause-stalls
returns-clause-stalls g c =
    let asks = c.ask_next-ask.ensures in
    let said = c.stamped_answer-returned.ensures.stamped in
    IfErr-weaker c.record-2.result _ _ (λ x ended.
    stalls_once c.args.kind _ _ _ _ _ c.self.inside.namer _ c.draw.result _ _ (question_in c.ask_next-ask.result.0) _ c.stamped_answer-returned.result said.noted
    c.self.view_is (c.self.invariant.0, refl)
    c.draw.ensures.drawn (asks.question, asks.noted, ap (λ x. x.asked) asks.counted) c.in_ok-record.ensures.sent c.self-2.view_is
    said.draws c.requires.running ended.1 (stopped_with _ _ _ _ _ c.self-2.view_is c.stamped_answer-returned.ensures.ends ended.0))
    c.record-2.ensures.stopped

pub draw-requires-clause-pass_key : goal.draw-requires-clause-pass_key
draw-requires-clause-pass_key g c = ap (λ (w : WorkerView). w.pass.key) c.self.view_is ∙ c.requires.key

pub draw-requires-clause-some_left : goal.draw-requires-clause-some_left
draw-requires-clause-some_left g c = subst (λ (w : WorkerView). 0 < w.pass.left) (sym c.self.view_is) (omega (arith, c.requires.left))

pub ask_next-ask-requires : goal.ask_next-ask-requires
ask_next-ask-requires g c = subst (λ (w : WorkerView). w.asked < NAMES_OF_A_THREAD) (sym c.self.view_is) c.requires.room

pub invariant_of-self : goal.invariant_of-self
invariant_of-self g c = (ap (λ (n : NamerView). n.thread) c.ask_next-ask.ensures.counted ∙ c.self.invariant.0, c.self.invariant.1, c.self.invariant.2)

pub record-requires : goal.record-requires
record-requires g c =
    let asks = c.ask_next-ask.ensures in
    ap (λ (e : Event). e.thread) asks.noted ∙ ap (λ (q : Question). q.thread) asks.question ∙ c.self.invariant.0

pub stamped_answer-returned-requires-clause-some_left : goal.stamped_answer-returned-requires-clause-some_left
stamped_answer-returned-requires-clause-some_left g c =
    let once = c.draw.ensures.drawn.left in
    let had = ap (λ (w : WorkerView). w.pass.left) c.self.view_is in
    let has = ap (λ (w : WorkerView). w.pass.left) (c.self-2.view_is ∙ c.in_ok-record.ensures.sent) in
    omega (arith, c.requires.left, once, had, has)

pub stamped_answer-returned-requires-clause-drew : goal.stamped_answer-returned-requires-clause-drew
stamped_answer-returned-requires-clause-drew g c =
    let drawn = ap (λ (w : WorkerView). w.pass.drawn) (c.self-2.view_is ∙ c.in_ok-record.ensures.sent) ∙ c.draw.ensures.drawn.drawn in
    let call = ap (λ (q : Question). q.call) c.ask_next-ask.ensures.question in
    drew_call _ _ _ _ drawn call

pub invariant_of-self-2 : goal.invariant_of-self-2
invariant_of-self-2 g c = c.self-2.invariant

pub returns-in_err-record-clause-stalls : goal.returns-in_err-record-clause-stalls
returns-in_err-record-clause-stalls g c =
    let full = c.in_err-record.ensures.stopped in
    on_err c.from_residual.result _ (stalls_at_call c.args.kind _ _ _ _ _ _ c.self.view_is c.requires.running c.draw.ensures.drawn
    (ap (λ (n : NamerView). n.asked) c.ask_next-ask.ensures.counted) full.0 full.1)
