use Rattle.verdicts.proofs.Common.{ap, arith, contains, Event, filter, holds_ticket, IfOk-weaker, length, nat_cmp}
use Rattle.verdicts.proofs.Common.{operations_of, selects, SelectsNamed, subst, violation_lines}
use Rattle.verdicts.proofs.Common.{◌∙◌, ◌≡◌}
use Rattle.history_merge.proofs.Lists.{no_longer}
use Rattle.verdicts.proofs.Selections.{has_shortest_cover}
use Rattle.verdicts.proofs.ShrunkHistories.{are_complete, are_shrunk, IsShrunk, IsWhole}
use Rattle.verdicts.proofs.shrinking.shrink.Goals as goal

pub history_of-requires-clause-few_initial : goal.history_of-requires-clause-few_initial
history_of-requires-clause-few_initial c =
    let shorter = no_longer (contains nat_cmp c.in_ok-selection.selection.values) c.initial.result.now in
    omega (arith, ap length c.in_ok-initial.ensures, ap length c.initial.ensures.initial, c.initial.ensures.few)

pub history_of-requires-clause-few_events : goal.history_of-requires-clause-few_events
history_of-requires-clause-few_events c =
    let selection = c.in_ok-selection.selection in
    let selected = selects (contains nat_cmp selection.values) (contains nat_cmp selection.calls) in
    let tickets = holds_ticket (filter selected (operations_of c.args.history.now.events)) in
    let shorter = no_longer (λ (e : Event). tickets e.ticket) c.args.history.now.events in
    omega (arith, ap length c.in_ok-events.ensures.kept, c.in_ok-events.ensures.few)

pub history_of-requires-clause-complete : goal.history_of-requires-clause-complete
history_of-requires-clause-complete c =
    let selection = c.in_ok-selection.selection in
    rw c.as_slice-2.ensures.value (are_complete c.args.history.now (contains nat_cmp selection.values) (contains nat_cmp selection.calls) c.in_ok-initial.initial.items
    c.in_ok-events.events.items c.initial.ensures.complete
    (c.in_ok-initial.ensures ∙ ap (filter (contains nat_cmp selection.values)) c.initial.ensures.initial) c.in_ok-events.ensures.kept)

pub returns : goal.returns
returns c =
    let whole = c.args.history.now in
    let violation = c.args.violation.now in
    let selection = c.in_ok-selection.selection in
    let values = contains nat_cmp selection.values in
    let calls = contains nat_cmp selection.calls in
    let initial = c.in_ok-initial.initial.items in
    let is_whole : IsWhole whole = record { complete = c.initial.ensures.complete; few = c.initial.ensures.few } in
    let named : SelectsNamed (violation_lines whole violation) values calls =
    subst (λ lines. SelectsNamed lines values calls) (c.as_slice.ensures.value ∙ c.in_ok-lines.ensures) c.in_ok-selection.ensures in
    let small = c.history_of.result in
    let shrunk = IfOk-weaker small (λ s. (s.initial ≡ initial) × (s.events ≡ c.as_slice-2.result.now)) (IsShrunk whole violation)
    (λ s same. are_shrunk whole violation values calls s is_whole c.requires named
    (same.0 ∙ c.in_ok-initial.ensures ∙ ap (filter values) c.initial.ensures.initial)
    (same.1 ∙ c.as_slice-2.ensures.value ∙ c.in_ok-events.ensures.kept)) c.history_of.ensures in
    record {
      kept = IfOk-weaker small (IsShrunk whole violation) _ (λ s is. is.kept) shrunk;
      same_violation = IfOk-weaker small (IsShrunk whole violation) _ (λ s is. is.same_violation) shrunk;
      minimal = IfOk-weaker small (IsShrunk whole violation) _ (λ s is. is.minimal) shrunk;
      shortest = IfOk-weaker small (IsShrunk whole violation) _ (λ s is. has_shortest_cover whole.initial (operations_of whole.events) violation c.requires) shrunk;
      initial = IfOk-weaker small (IsShrunk whole violation) _ (λ s is. is.initial) shrunk;
      events = IfOk-weaker small (IsShrunk whole violation) _ (λ s is. is.events) shrunk;
      complete = IfOk-weaker small (IsShrunk whole violation) _ (λ s is. is.complete) shrunk;
    }
