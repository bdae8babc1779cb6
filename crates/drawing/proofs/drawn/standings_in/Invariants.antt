use Rattle.drawing.proofs.Common.{◌≡◌, map, take, operations_in, standing_of}
use Rattle.drawing.proofs.drawn.standings_in.Given as goal

abbrev pub invariant-loop-line : goal.invariant-loop-line
invariant-loop-line l = l.standings.items ≡ map (standing_of l.events) (operations_in (take l.line-index l.lines))
