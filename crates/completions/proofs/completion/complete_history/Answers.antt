use Rattle.std.proofs.Common.{◌≡◌, ◌∙◌, ◌++◌, ℕ, ap, arith, false, inl, inr, not, length, List, subst, sym, take}
use Rattle.std.specs.Prelude.{All, filter}
use Rattle.event_records.specs.declared.event.Event.{Event}
use Rattle.completions.specs.declared.answers.Answer.{Answer}
use Rattle.completions.specs.Completed.{answers_to, is_left_out, is_pending, next_ticket, pending_calls, returns_from}
use Rattle.completions.specs.Inner.Walk.{AreGiven}
use Rattle.completions.specs.Pending.{IsHistoryFrom}
use Rattle.completions.proofs.Sound.{length_completed}
use Rattle.completions.proofs.completion.complete_history.Goals.{then-saturating_add-gt-MAX_EVENTS-via-then-saturating_add-gt-MAX_EVENTS}
use Rattle.completions.proofs.completion.complete_history.Goals.{then-saturating_add-gt-MAX_EVENTS-via-else-saturating_add-gt-MAX_EVENTS+then-ticket-count}
use Rattle.completions.proofs.completion.complete_history.Goals.{After-drop-given-2}
use Rattle.completions.proofs.completion.complete_history.Goals as goal

pub pending_calls-requires-clause-before : goal.pending_calls-requires-clause-before
pending_calls-requires-clause-before c =
    let from = c.first_pending-from.result in
    subst (λ (es : List Event). All (λ e. is_pending es e ≡ false) (take from es)) (c.as_slice.ensures.value ∙ sym c.as_slice-2.ensures.value)
    (c.first_pending-from.ensures.before c.args.initial.now (subst (IsHistoryFrom c.args.initial.now) (sym c.as_slice.ensures.value) c.requires.history))

pub leave_out-requires-clause-before : goal.leave_out-requires-clause-before
leave_out-requires-clause-before c =
    let from = c.first_pending-from.result in
    subst (λ (es : List Event). All (λ e. is_pending es e ≡ false) (take from es)) c.as_slice.ensures.value
    (c.first_pending-from.ensures.before c.args.initial.now (subst (IsHistoryFrom c.args.initial.now) (sym c.as_slice.ensures.value) c.requires.history))

pub returns-then-saturating_add-gt-MAX_EVENTS-clause-fault : goal.returns-then-saturating_add-gt-MAX_EVENTS-clause-fault
returns-then-saturating_add-gt-MAX_EVENTS-clause-fault c =
    let events = c.args.events.items in
    let whole = length_completed c.args.initial.now events in
    let made = c.in_ok-answers.ensures events
    (subst (AreGiven events) (sym c.as_slice-3.ensures.value) (c.sort_given.ensures events c.requires.walked.given))
    (c.as_slice-4.ensures.value ∙ c.requires.walked.taken)
    (c.as_slice-5.ensures.value ∙ c.in_ok-calls.ensures ∙ ap pending_calls c.as_slice-2.ensures.value) in
    let answers = ap (λ (l : List Answer). length l) made in
    let next = c.next_ticket-ticket.ensures.next ∙ ap next_ticket c.as_slice-6.ensures.value in
    let kept = ap (λ (l : List Event). length l) (c.leave_out.ensures
    ∙ ap (λ (l : List Answer). filter (λ e. not (is_left_out c.args.events.items l e)) c.args.events.items) (c.as_slice-7.ensures.value ∙ made)) in (
      c.requires.found,
      elim c.then-saturating_add-gt-MAX_EVENTS.branch [
        | then-saturating_add-gt-MAX_EVENTS-via-then-saturating_add-gt-MAX_EVENTS w ↦
            inl (omega (arith, w.if-saturating_add-gt-MAX_EVENTS.true, whole, answers, kept, c.saturating_add.ensures, c.len.ensures, c.len-count.ensures))
        | then-saturating_add-gt-MAX_EVENTS-via-else-saturating_add-gt-MAX_EVENTS+then-ticket-count w ↦
            inr (omega (arith, answers, next, c.len-count.ensures))
      ],
    )

answers_are : (c : After-drop-given-2) → c.in_ok-answers.answers.items ≡ answers_to c.args.initial.now c.args.events.items
answers_are c = c.in_ok-answers.ensures c.args.events.items
    (subst (AreGiven c.args.events.items) (sym c.as_slice-3.ensures.value) (c.sort_given.ensures c.args.events.items c.requires.walked.given))
    (c.as_slice-4.ensures.value ∙ c.requires.walked.taken)
    (c.as_slice-5.ensures.value ∙ c.in_ok-calls.ensures ∙ ap pending_calls c.as_slice-2.ensures.value)

pub returns-clause-within : goal.returns-clause-within
returns-clause-within c =
    let events = c.args.events.items in
    let whole = length_completed c.args.initial.now events in
    let made = answers_are c in
    let answers = ap (λ (l : List Answer). length l) made in
    let next = c.next_ticket-ticket.ensures.next ∙ ap next_ticket c.as_slice-6.ensures.value in
    let kept = ap (λ (l : List Event). length l) (c.leave_out.ensures
    ∙ ap (λ (l : List Answer). filter (λ e. not (is_left_out c.args.events.items l e)) c.args.events.items) (c.as_slice-7.ensures.value ∙ made)) in
    λ beyond. elim beyond [
      | inl more ↦ omega (arith, more, whole, answers, kept, c.saturating_add.ensures, c.len.ensures, c.len-count.ensures)
      | inr more ↦ omega (arith, more, answers, next, c.len-count.ensures)
    ]

pub returns-clause-completed : goal.returns-clause-completed
returns-clause-completed c =
    let events = c.args.events.items in
    let made = answers_are c in
    let kept = c.leave_out.ensures
    ∙ ap (λ (l : List Answer). filter (λ e. not (is_left_out events l e)) events) (c.as_slice-7.ensures.value ∙ made) in
    let next = c.next_ticket-ticket.ensures.next ∙ ap next_ticket c.as_slice-6.ensures.value in
    c.in_ok-push_returns.ensures ∙ ap (λ (l : List Event). l ++ returns_from c.next_ticket-ticket.result c.as_slice-8.result.now) kept
    ∙ ap (λ (n : ℕ). filter (λ e. not (is_left_out events (answers_to c.args.initial.now events) e)) events ++ returns_from n c.as_slice-8.result.now) next
    ∙ ap (λ (l : List Answer). filter (λ e. not (is_left_out events (answers_to c.args.initial.now events) e)) events ++ returns_from (next_ticket events) l)
    (c.as_slice-8.ensures.value ∙ made)
