use Rattle.linearizer.proofs.Common.{ap, arith, is_failed_kind, IsCalledInRange, length, operation_at, ORIGIN, refl}
use Rattle.linearizer.proofs.Common.{slice_get_read, subst, sym, ◌+◌, ◌<◌, ◌∙◌}
use Rattle.linearizer.proofs.Elements.{adds_failed, all_added, called_in_range, IsListed, listed_at, place_fits}
use Rattle.linearizer.proofs.noops.add_failed.Goals as goal
use Rattle.linearizer.proofs.noops.add_failed.Goals.{After-get-id}

-- the operation of this turn
turn : (c : After-get-id) → IsListed c.args.matching.now is_failed_kind c.loop-at.at c.get-id.result
turn c =
    let within : c.loop-at.at < length c.failed-failed.result = omega (arith, c.loop-at-test.true, c.len-at-end.ensures) in
    listed_at c.args.matching.now is_failed_kind c.failed-failed.result _ _ c.failed-failed.ensures (slice_get_read _ _ _ _ refl within c.get-id.ensures)

pub call_at-requires : goal.call_at-requires
call_at-requires c =
    let here = turn (goal.at.call_at-requires c).After-get-id in
    subst (λ os. IsCalledInRange os c.get-id.result) (sym c.operations-operations.ensures.operations)
    (called_in_range c.args.matching.now c.requires c.get-id.result here.o here.at)

pub new-requires-clause-place : goal.new-requires-clause-place
new-requires-clause-place c =
    let here = turn (goal.at.new-requires-clause-place c).After-get-id in
    rw c.place.ensures (place_fits c.args.matching.now.operations c.get-id.result here.o here.at (omega (arith, c.operations-operations.ensures.few)))

pub loop-at-preserved : goal.loop-at-preserved
loop-at-preserved c =
    let calls = c.call_at.ensures.call ∙ ap (λ os. (operation_at os c.get-id.result).call + ORIGIN) c.operations-operations.ensures.operations in
    rw (c.in_ok-push.ensures.items, c.new.ensures, c.place.ensures)
    (adds_failed _ _ _ _ _ _ (turn (goal.at.loop-at-preserved c).After-get-id) c.loop-at.invariant calls)

pub returns : goal.returns
returns c = all_added c.args.matching.now is_failed_kind c.failed-failed.result _ _ _ c.failed-failed.ensures
    (omega (arith, c.loop-at-test.false, c.len-at-end.ensures)) c.loop-at.invariant
