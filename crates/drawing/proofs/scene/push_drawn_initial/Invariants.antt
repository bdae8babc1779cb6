use Rattle.drawing.proofs.Common.{◌++◌, ◌≡◌, enumerate_from, flat_map, take, initial_row}
use Rattle.drawing.proofs.scene.push_drawn_initial.Given as goal

abbrev pub invariant-loop-place : goal.invariant-loop-place
invariant-loop-place l = l.rows.items ≡ l.fn.rows.items ++ flat_map initial_row (enumerate_from 0 (take l.place l.drawn))
