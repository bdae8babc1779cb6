use Rattle.svg_picture.proofs.Common.{row_pattern}
use Rattle.svg_picture.proofs.Chains.{around}
use Rattle.svg_picture.proofs.lanes.push_row_pattern.Goals as goal

pub returns : goal.returns
unfolding row_pattern
returns c =
    let begun = rw (c.top.ensures.value, c.width.ensures.value) at c.in_ok-push_pattern.ensures in
    let filled = rw c.width-2.ensures.value at c.in_ok-push_rect.ensures in
    around c.push_end.result _ _ _ _ _ _ _ begun filled c.push_end.ensures
