use Rattle.commands.proofs.Common.{⊎_map, answer_of, AnswersOrNoMemory, ap, carries, HistoryText, inl, inr, Some, subst, ℕ, ◌∙◌}
use Rattle.commands.proofs.Completions.{said_completion}
use Rattle.commands.specs.Completing.{completion_in}
use Rattle.commands.specs.Drawing.{DrawsDecided, DrawsPart}
use Rattle.completions.specs.Completed.{next_ticket}
use Rattle.commands.proofs.draw.draw_pending.Goals as goal

pub returns-in_err-_version-clause-found : goal.returns-in_err-_version-clause-found
returns-in_err-_version-clause-found c = rw (carries c.from_residual.result _ c.from_residual.ensures.1)
    (⊎_map inl (λ memory. memory) c.in_err-_version.ensures.fault)

pub returns-clause-found : goal.returns-clause-found
returns-clause-found c =
    let text = c.args.text in
    let made = c.in_ok-_version.ensures in
    let history = c.in_ok-whole.whole in
    let said = said_completion text history (c.in_ok-whole.ensures.0 ∙ c.into_vec.ensures ∙ made.same.1)
    (c.in_ok-whole.ensures.1 ∙ c.as_slice-2.ensures.value ∙ made.completed) in
    let next = c.next_ticket-added_from.ensures.next ∙ ap next_ticket c.as_slice.ensures in
    let answer = answer_of c.draw_whole.result in
    let Drawn = λ (n : ℕ) (t : HistoryText). DrawsPart c.args.options.condition.is_weakly_empty t (DrawsDecided c.args.options (Some n)) in
    let drawn = subst (λ t. AnswersOrNoMemory (Drawn c.next_ticket-added_from.result) t answer) said
    (c.draw_whole.ensures.found text.version) in
    ⊎_map (λ shows. inr (made.completable, shows)) (λ memory. memory)
    (subst (λ n. AnswersOrNoMemory (Drawn n) (completion_in text) answer) next drawn)
