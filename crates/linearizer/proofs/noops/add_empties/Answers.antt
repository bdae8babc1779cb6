use Rattle.linearizer.proofs.Common.{AllZip-long, arith, course_of, get_or, is_empty_kind, IsLeastFreeGap, length}
use Rattle.linearizer.proofs.Common.{length-map, map, refl, slice_get_read, slice_get_within, time_of, ◌<◌}
use Rattle.history_merge.specs.declared.packed.TheConstants.{PACKED_LIMIT}
use Rattle.linearizer.proofs.Elements.{adds_empty, all_added, gap_beside, gap_fits, IsListed, listed_at, place_fits}
use Rattle.linearizer.proofs.noops.add_empties.Goals as goal
use Rattle.linearizer.proofs.noops.add_empties.Goals.{After-get}

-- the operation of this turn
turn : (c : After-get) → IsListed c.args.matching.now is_empty_kind c.loop-at.at c.get.result
turn c =
    let within : c.loop-at.at < length c.empties-empties.result = omega (arith, c.loop-at-test.true, c.len-at-end.ensures) in
    listed_at c.args.matching.now is_empty_kind c.empties-empties.result _ _ c.empties-empties.ensures (slice_get_read _ _ _ _ refl within c.get.ensures)

pub bounds-gaps-at : goal.bounds-gaps-at
bounds-gaps-at c =
    let here = turn (goal.at.bounds-gaps-at c).After-get in
    let within = slice_get_within _ c.loop-at.at here.o here.is_listed in
    let long = AllZip-long _ _ (map time_of c.args.gaps.now) c.requires.gaps in
    omega (arith, within, long, length-map c.args.gaps.now time_of)

-- its gap is its least free one
free : (c : After-get) → IsLeastFreeGap (course_of c.args.matching.now) (turn c).o
    (time_of (get_or c.args.gaps.now c.loop-at.at 0))
free c = gap_beside (course_of c.args.matching.now) _ c.args.gaps.now _ _ 0 (turn c).o c.requires.gaps (turn c).is_listed refl

pub new-requires-clause-place : goal.new-requires-clause-place
new-requires-clause-place c =
    let here = turn (goal.at.new-requires-clause-place c).After-get in
    rw c.place.ensures (place_fits c.args.matching.now.operations c.get.result here.o here.at c.requires.few)

early : (c : After-get) → time_of (get_or c.args.gaps.now c.loop-at.at 0) < PACKED_LIMIT
early c = gap_fits c.args.matching.now c.requires.clear c.get.result _ (turn c).o (turn c).at (free c)

pub new-requires-clause-time : goal.new-requires-clause-time
new-requires-clause-time c = early (goal.at.new-requires-clause-time c).After-get

pub overflow_add-gaps : goal.overflow_add-gaps
overflow_add-gaps c = omega (arith, early (goal.at.overflow_add-gaps c).After-get)

pub loop-at-preserved : goal.loop-at-preserved
loop-at-preserved c =
    let here = (goal.at.loop-at-preserved c).After-get in
    rw (c.in_ok-push.ensures.items, c.new.ensures, c.place.ensures)
    (adds_empty _ c.requires.clear _ _ _ _ _ (turn here) c.loop-at.invariant (free here))

pub returns : goal.returns
returns c = all_added c.args.matching.now is_empty_kind c.empties-empties.result _ _ _ c.empties-empties.ensures
    (omega (arith, c.loop-at-test.false, c.len-at-end.ensures)) c.loop-at.invariant
