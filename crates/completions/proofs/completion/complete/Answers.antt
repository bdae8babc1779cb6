use Rattle.std.proofs.Common.{◌∙◌, subst, sym, ap, arith, length, List}
use Rattle.event_records.specs.declared.event.Event.{Event}
use Rattle.completions.specs.Pending.{IsDeciding}
use Rattle.completions.proofs.Sound.{carries, complete_stays, known_ok, may_be_pending, when_both, when_known, when_ok}
use Rattle.completions.proofs.Sound.{within_limits}
use Rattle.completions.proofs.Decides.{decides}
use Rattle.completions.proofs.completion.complete.Goals as goal

pub returns-clause-same : goal.returns-clause-same
returns-clause-same c = when_ok c.complete_history.result _ _ (λ full is whole. is ∙ complete_stays c.args.initial.now c.args.events.items whole)
    c.complete_history.ensures.completed

pub returns-clause-few : goal.returns-clause-few
returns-clause-few c =
    when_both c.complete_history.result _ _ _ (λ full is within.
    let most = (within_limits c.args.initial.now c.args.events.items within).0 in
    let long = ap (λ (es : List Event). length es) is in
    omega (arith, most, long))
    c.complete_history.ensures.completed (when_known c.complete_history.result _ c.complete_history.ensures.within)

pub returns-clause-deciding : goal.returns-clause-deciding
returns-clause-deciding c =
    when_both c.complete_history.result _ _ _ (λ full is within.
    subst (IsDeciding c.args.initial.now c.args.events.items) (sym is)
    (decides c.args.initial.now c.args.events.items (may_be_pending c.args.initial.now c.args.events.items
    (rw c.as_slice.ensures.value at c.in_ok-walk.ensures.found)) c.requires.few_initial
    (within_limits c.args.initial.now c.args.events.items within).1))
    c.complete_history.ensures.completed (when_known c.complete_history.result _ c.complete_history.ensures.within)

pub returns-clause-found : goal.returns-clause-found
returns-clause-found c = known_ok c.complete_history.result _ (rw c.as_slice.ensures.value at c.in_ok-walk.ensures.found)

pub returns-in_err-walk-clause-fault : goal.returns-in_err-walk-clause-fault
returns-in_err-walk-clause-fault c = rw (carries c.from_residual.result _ c.from_residual.ensures.1) (rw c.as_slice.ensures.value at c.in_err-walk.ensures.fault)

pub complete_history-requires-clause-found : goal.complete_history-requires-clause-found
complete_history-requires-clause-found c = rw c.as_slice.ensures.value at c.in_ok-walk.ensures.found

pub complete_history-requires-clause-walked : goal.complete_history-requires-clause-walked
complete_history-requires-clause-walked c = rw c.as_slice.ensures.value at c.in_ok-walk.ensures.walked

pub complete_history-requires-clause-history : goal.complete_history-requires-clause-history
complete_history-requires-clause-history c = may_be_pending c.args.initial.now c.args.events.items (rw c.as_slice.ensures.value at c.in_ok-walk.ensures.found)
