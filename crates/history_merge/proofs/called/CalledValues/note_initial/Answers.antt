use Rattle.history_merge.proofs.Common.{arith, slice_get-get_or, take, take_more}
use Rattle.std.proofs.Common.{length-take-le}
use Rattle.history_merge.proofs.Distinct.{distinct_more, twice_at}
use Rattle.history_merge.proofs.KnownValues.{called_in_front}
use Rattle.history_merge.proofs.Timelines.{length_timeline}
use Rattle.history_merge.proofs.called.CalledValues.note_initial.Goals as goal

pub slice_bounds-note_value-end : goal.slice_bounds-note_value-end
slice_bounds-note_value-end c = grind (arith, length_timeline, length-take-le)

pub returns-then-branch-clause-refused : goal.returns-then-branch-clause-refused
returns-then-branch-clause-refused c =
    let noted = c.in_ok-note_value.ensures (take c.loop-place.place c.args.timeline.now.initial) c.loop-place.invariant.0 in
    grind (arith, called_in_front, twice_at, slice_get-get_or)

pub loop-place-preserved : goal.loop-place-preserved
loop-place-preserved c =
    let noted = c.in_ok-note_value.ensures (take c.loop-place.place c.args.timeline.now.initial) c.loop-place.invariant.0 in
    grind (arith, called_in_front, take_more, distinct_more)
