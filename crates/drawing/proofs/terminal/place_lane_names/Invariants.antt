use Rattle.drawing.proofs.Common.{◌≡◌, take, lane_names, scene_on, with_words}
use Rattle.drawing.proofs.terminal.place_lane_names.Given as goal

abbrev pub invariant-loop-thread : goal.invariant-loop-thread
invariant-loop-thread l =
    l.line.items ≡ with_words l.fn.line.items
    (lane_names l.canvas.columns (scene_on l.canvas.scene.now).threads l.tens (take l.thread-index l.threads))
