use Rattle.drawing.proofs.Common.{◌≡◌, map, take, lane_column, lane_sign, scene_on, under_way, with_words}
use Rattle.drawing.proofs.terminal.place_lanes.Given as goal

abbrev pub invariant-loop-thread : goal.invariant-loop-thread
invariant-loop-thread l =
    l.line.items ≡ with_words l.fn.line.items (map (λ thread. record {
      column = lane_column l.canvas.columns (scene_on l.canvas.scene.now).threads thread;
      bytes = lane_sign l.canvas.columns (scene_on l.canvas.scene.now) l.row (under_way l.canvas.scene.now.added_from (scene_on l.canvas.scene.now).operations thread l.ticket);
    }) (take l.thread-index l.threads))
