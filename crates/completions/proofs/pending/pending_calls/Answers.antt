use Rattle.std.proofs.Common.{ap₂, take, ◌∙◌, ◌++◌, ◌∷◌, [], ap, sym, List, Vec, Global}
use Rattle.std.proofs.lemmas.List.{get_or_default}
use Rattle.event_records.specs.declared.event.Event.{Event}
use Rattle.completions.specs.Completed.{is_pending}
use Rattle.completions.proofs.Walks.{past_end, filter_no, filtered_more, filtered_same}
use Rattle.completions.proofs.pending.pending_calls.Goals.{then-is_pending+in_ok-push, else-is_pending}
use Rattle.completions.proofs.pending.pending_calls.Goals as goal

pub loop-place-init : goal.loop-place-init
loop-place-init c =
    c.new-calls.ensures.items ∙ sym (filter_no (is_pending c.args.events.now) (take c.args.from c.args.events.now) c.requires.before)

pub loop-place-preserved : goal.loop-place-preserved
loop-place-preserved c =
    let at = c.unpack-event.ensures ∙ c.index-events-place.is
    ∙ get_or_default c.args.events.now c.loop-place.place c.index-events-place.result past_end c.loop-place-test.true in
    let is = sym (ap (is_pending c.args.events.now) at) ∙ sym (c.is_pending.ensures c.args.events.now c.requires.last) in
    elim c.if-is_pending.branch [
      | then-is_pending+in_ok-push w ↦
          ap (λ (v : Vec Event Global). v.items) w.calls-is ∙ w.in_ok-push.ensures.items
          ∙ ap₂ (λ (l : List Event) (e : Event). l ++ e ∷ []) c.loop-place.invariant at
          ∙ sym (filtered_more (is_pending c.args.events.now) c.args.events.now c.loop-place.place past_end c.loop-place-test.true (is ∙ w.if-is_pending.true))
      | else-is_pending w ↦
          ap (λ (v : Vec Event Global). v.items) w.calls-is ∙ c.loop-place.invariant
          ∙ sym (filtered_same (is_pending c.args.events.now) c.args.events.now c.loop-place.place past_end c.loop-place-test.true (is ∙ w.if-is_pending.false))
    ]
