use Rattle.drawing.proofs.Common.{◌++◌, ◌≡◌, enumerate_from, flat_map, take, numbered_row, scene_on}
use Rattle.drawing.proofs.terminal.terminal_picture.Given as goal

abbrev pub invariant-loop-i : goal.invariant-loop-i
invariant-loop-i l =
    l.text.items ≡ l.initial.text.items ++ flat_map (numbered_row l.canvas.columns (scene_on l.canvas.scene.now)) (enumerate_from 0 (take l.i l.row-items))
