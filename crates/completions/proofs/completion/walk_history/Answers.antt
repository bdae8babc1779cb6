use Rattle.event_records.specs.declared.limits.TheConstants.{MAX_THREAD}
use Rattle.std.proofs.Common.{◌∙◌, ◌++◌, ◌∷◌, ◌≤◌, ap, [], arith, subst, sym, take, List, ℕ}
use Rattle.std.proofs.lemmas.List.{get_or_default, length-take-le, take_all, take_more}
use Rattle.event_records.specs.declared.event.Event.{Event}
use Rattle.history_merge.specs.Gathering.{HasGathered}
use Rattle.completions.specs.Faults.{MayBePending}
use Rattle.completions.specs.Inner.Walk.{HasWalked}
use Rattle.completions.proofs.Sound.{carries, may_be_pending}
use Rattle.completions.proofs.Walks.{past_end}
use Rattle.completions.proofs.completion.walk_history.Goals as goal

pub loop-event-init : goal.loop-event-init
loop-event-init c = record {
  gathered = subst (λ (vs : List ℕ). HasGathered vs [] c.new-builder.result) c.in_ok-values.ensures c.new-builder.ensures;
  walked = λ _. c.new-walk.ensures;
}

pub loop-event-preserved : goal.loop-event-preserved
loop-event-preserved c =
    let events = c.args.events.now in
    let i = c.loop-event.event-index in
    let below = c.loop-event-test.true in
    let long = length-take-le i events (omega (arith, below)) in
    let at = c.unpack-event.ensures ∙ c.event-item.is ∙ get_or_default events i c.event-item.result past_end below in
    let more = ap (λ (e : Event). take i events ++ e ∷ []) at ∙ sym (take_more events i past_end below) in
    record {
      gathered = subst (λ (es : List Event). HasGathered c.args.initial.now es c.add.new.self) more
          (c.add.ensures.added c.args.initial.now (take i events) c.loop-event.invariant.gathered (omega (arith, long, below, c.requires.few_events)));
      walked = λ threads. subst (λ (es : List Event). HasWalked es c.note.new.self) more
          (c.in_ok-note.ensures (take i events) (subst (λ (e : Event). e.thread ≤ MAX_THREAD) (sym at) (threads i past_end below)) (c.loop-event.invariant.walked threads));
    }

pub returns-in_err-check_history-clause-fault : goal.returns-in_err-check_history-clause-fault
returns-in_err-check_history-clause-fault c =
    let events = c.args.events.now in
    let all = take_all c.loop-event.event-index events (omega (arith, c.loop-event-test.false)) in
    rw (carries c.from_residual-in_err-check_history.result _ c.from_residual-in_err-check_history.ensures.1)
    (c.in_err-check_history.ensures.fault c.args.initial.now events
    (subst (λ (es : List Event). HasGathered c.args.initial.now es c.loop-event.builder) all c.loop-event.invariant.gathered))

pub returns-clause-found : goal.returns-clause-found
returns-clause-found c =
    let events = c.args.events.now in
    let all = take_all c.loop-event.event-index events (omega (arith, c.loop-event-test.false)) in
    c.in_ok-check_history.ensures.found c.args.initial.now events
    (subst (λ (es : List Event). HasGathered c.args.initial.now es c.loop-event.builder) all c.loop-event.invariant.gathered)

pub returns-clause-walked : goal.returns-clause-walked
returns-clause-walked c =
    let events = c.args.events.now in
    let all = take_all c.loop-event.event-index events (omega (arith, c.loop-event-test.false)) in
    let found : MayBePending c.args.initial.now events = c.in_ok-check_history.ensures.found c.args.initial.now events
    (subst (λ (es : List Event). HasGathered c.args.initial.now es c.loop-event.builder) all c.loop-event.invariant.gathered) in
    subst (λ (es : List Event). HasWalked es c.loop-event.walk) all (c.loop-event.invariant.walked (may_be_pending c.args.initial.now events found).threads_in_range)
