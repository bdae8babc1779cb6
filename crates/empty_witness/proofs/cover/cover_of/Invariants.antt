use Rattle.empty_witness.proofs.Common.{◌-◌}
use Rattle.empty_witness.proofs.Covers.{IsCoverSoFar}
use Rattle.empty_witness.proofs.cover.cover_of.Given as goal

abbrev pub invariant-loop-frontier : goal.invariant-loop-frontier
invariant-loop-frontier l = IsCoverSoFar l.matching.initial l.matching.operations l.answer l.steps.items l.frontier

abbrev pub decreases-loop-frontier : goal.decreases-loop-frontier
decreases-loop-frontier l = l.answer.ret - l.frontier
