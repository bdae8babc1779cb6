use Rattle.empty_witness.proofs.Common.{AreGapsAt, course_of, take}
use Rattle.empty_witness.proofs.search.windows_at.Given as goal

abbrev pub invariant-loop-index : goal.invariant-loop-index
invariant-loop-index l = AreGapsAt (course_of l.matching) (take l.index l.empties) l.gaps.items
