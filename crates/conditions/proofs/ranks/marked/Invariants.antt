use Rattle.std.proofs.Common.{take}
use Rattle.conditions.specs.Inner.Sharing.{AreMarked}
use Rattle.conditions.proofs.ranks.marked.Given as goal

abbrev pub invariant-loop-place : goal.invariant-loop-place
invariant-loop-place l = AreMarked (take l.place l.operations) l.used
