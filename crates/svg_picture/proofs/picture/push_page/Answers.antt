use Rattle.svg_picture.proofs.Common.{page_content}
use Rattle.svg_picture.proofs.Chains.{around}
use Rattle.svg_picture.proofs.picture.push_page.Goals as goal

pub returns : goal.returns
unfolding page_content
returns c =
    rw (← c.width.ensures.value, ← c.height.ensures, ← c.in_ok-view_box.ensures, ← c.as_slice.ensures.value)
    (around c.push_end.result _ _ _ _ _ _ _ c.in_ok-push_start.ensures c.in_ok-push_inside.ensures c.push_end.ensures)
