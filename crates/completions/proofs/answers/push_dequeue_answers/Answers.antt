use Rattle.std.proofs.Common.{◌∙◌, ◌++◌, ◌∷◌, [], ap, sym, List, length, get_or, inl, inr, take, arith, append_assoc}
use Rattle.std.proofs.lemmas.Bool.{cases_lt}
use Rattle.event_records.specs.declared.event.What.TheVariants.{RetDeq}
use Rattle.completions.specs.declared.answers.Answer.{Answer}
use Rattle.completions.specs.Completed.{paired}
use Rattle.completions.proofs.Walks.{paired_all, paired_more, past_end}
use Rattle.completions.proofs.answers.push_dequeue_answers.Goals as goal

pub loop-place-preserved : goal.loop-place-preserved
loop-place-preserved c =
    let i = c.loop-place.place in
    let calls = c.args.calls.now in
    let values = c.args.values.now in
    let a : Answer = record { call = get_or calls i past_end; what = RetDeq (get_or values i 0) } in
    c.in_ok-push.ensures.items ∙ ap (λ (l : List Answer). l ++ a ∷ []) c.loop-place.invariant
    ∙ append_assoc c.args.answers.now.items (paired (take i calls) (take i values)) (a ∷ [])
    ∙ ap (λ (l : List Answer). c.args.answers.now.items ++ l) (sym (paired_more calls values i (omega (arith, c.min-count.ensures, c.loop-place-test.true))
    (omega (arith, c.min-count.ensures, c.loop-place-test.true))))

pub returns : goal.returns
returns c =
    c.loop-place.invariant ∙ ap (λ (l : List Answer). c.args.answers.now.items ++ l) (paired_all c.args.calls.now c.args.values.now c.loop-place.place
    (elim (cases_lt c.loop-place.place (length c.args.calls.now)) [
      | inr few ↦ inl few
      | inl more ↦ inr (omega (arith, c.min-count.ensures, c.loop-place-test.false, more))
    ]))
