use Rattle.empty_witness.proofs.Common.{course_of, IsFirstCovered, List, take, ℕ, ◌++◌}
use Rattle.empty_witness.proofs.search.first_covered.Given as goal

abbrev pub invariant-loop-index : goal.invariant-loop-index
invariant-loop-index l = (seen : List ℕ) → IsFirstCovered (course_of l.matching) seen l.fn.covered → IsFirstCovered (course_of l.matching)
    (seen ++ take l.index l.others) l.first
