use Rattle.std.proofs.Common.{◌∙◌, ◌++◌, ◌∷◌, [], ap, sym, List, ℕ, get_or, take, arith, append_assoc}
use Rattle.event_records.specs.declared.event.Event.{Event}
use Rattle.completions.specs.Completed.{returns_from}
use Rattle.completions.proofs.Walks.{no_answer, returns_more}
use Rattle.completions.proofs.completion.push_returns.Goals as goal

pub loop-answer-preserved : goal.loop-answer-preserved
loop-answer-preserved c =
    let i = c.loop-answer.answer-index in
    let a = get_or c.args.answers.now i no_answer in
    let r : Event = record { ticket = c.loop-answer.ticket; thread = a.call.thread; what = a.what } in
    let ticket = c.loop-answer.invariant.ticket in
    record {
      added =
          c.in_ok-push.ensures.items ∙ ap (λ (e : Event). c.loop-answer.full.items ++ e ∷ []) c.new.ensures
          ∙ ap (λ (l : List Event). l ++ r ∷ []) c.loop-answer.invariant.added
          ∙ append_assoc c.args.full.now.items (returns_from c.args.ticket (take i c.args.answers.now)) (r ∷ [])
          ∙ ap (λ (n : ℕ). c.args.full.now.items ++ (returns_from c.args.ticket (take i c.args.answers.now)
          ++ record { ticket = n; thread = a.call.thread; what = a.what } ∷ [])) ticket
          ∙ ap (λ (l : List Event). c.args.full.now.items ++ l)
          (sym (returns_more c.args.ticket c.args.answers.now i no_answer c.loop-answer-test.true));
      ticket = omega (arith, c.loop-answer.invariant.ticket);
    }
