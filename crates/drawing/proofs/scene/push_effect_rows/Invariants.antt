use Rattle.drawing.proofs.Common.{◌++◌, ◌≡◌, enumerate_from, flat_map, take, effect_if, greatest_call}
use Rattle.drawing.proofs.scene.push_effect_rows.Given as goal

abbrev pub invariant-loop-i : goal.invariant-loop-i
invariant-loop-i l = record {
  rows : l.rows.items ≡ l.fn.rows.items ++ flat_map (effect_if l.order l.ticket) (enumerate_from 0 (take l.i l.order));
  greatest : l.greatest ≡ greatest_call (take l.i l.order);
}
