use Rattle.std.proofs.Common.{◌∙◌, ◌++◌, ◌∷◌, [], ap, sym, List, Vec, Global}
use Rattle.completions.specs.declared.answers.Answer.{Answer}
use Rattle.completions.specs.Completed.{enqueue_answer}
use Rattle.completions.proofs.Walks.{made_more, made_same, past_end}
use Rattle.completions.proofs.answers.enqueue_answers.Goals.{in-Some+in_ok-push-in-Some, in-None}
use Rattle.completions.proofs.answers.enqueue_answers.Goals as goal

pub loop-call-preserved : goal.loop-call-preserved
loop-call-preserved c = λ events are.
    let is = c.enqueue_answer.ensures events are in
    elim c.match-enqueue_answer.branch [
      | in-Some+in_ok-push-in-Some w ↦
          ap (λ (v : Vec Answer Global). v.items) w.answers-is ∙ w.in_ok-push-in-Some.ensures.items
          ∙ ap (λ (l : List Answer). l ++ w.in-Some.answer ∷ []) (c.loop-call.invariant events are)
          ∙ sym (made_more (enqueue_answer events) c.args.calls.now c.loop-call.call-index past_end w.in-Some.answer c.loop-call-test.true (sym is ∙ w.in-Some.is))
      | in-None w ↦
          ap (λ (v : Vec Answer Global). v.items) w.answers-is ∙ c.loop-call.invariant events are
          ∙ sym (made_same (enqueue_answer events) c.args.calls.now c.loop-call.call-index past_end c.loop-call-test.true (sym is ∙ w.in-None.is))
    ]
