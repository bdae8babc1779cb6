use Rattle.drawing.proofs.Common.{◌≡◌, filter, take}
use Rattle.drawing.specs.Drawn.{is_drawn_initial}
use Rattle.drawing.proofs.drawn.drawn_initial.Given as goal

abbrev pub invariant-loop-value : goal.invariant-loop-value
invariant-loop-value l =
    l.values.items ≡ filter (is_drawn_initial l.claimed l.drawn) (take l.value-index l.value-items)
