use Rattle.history_merge.proofs.Common.{AreDistinct, Knows, take}
use Rattle.history_merge.proofs.called.CalledValues.note_initial.Given as goal

abbrev pub invariant-loop-place : goal.invariant-loop-place
invariant-loop-place l = Knows (take l.place l.timeline.initial) l.self × AreDistinct (take l.place l.timeline.initial)
