use Rattle.svg_picture.proofs.Common.{◌++◌, ◌≡◌, take, each, lane_names, page_on, text_of}
use Rattle.svg_picture.proofs.lanes.push_threads.Given as goal

abbrev pub invariant-loop-thread : goal.invariant-loop-thread
invariant-loop-thread l =
    l.text.items ≡ l.fn.text.items ++ text_of (each (lane_names (page_on l.canvas)) (take l.thread-index l.threads))
