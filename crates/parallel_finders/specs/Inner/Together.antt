-- The joined results of two pieces of a search.
use Rattle.std.specs.Prelude.{ℕ, List, ◌++◌}
use Rattle.history_merge.specs.Initial.{Contents}
use Rattle.value_match.specs.Lives.{course_of}
use Rattle.empty_witness.specs.declared.search.WindowsAnswer.{WindowsAnswer}
use Rattle.empty_witness.specs.Answers.{AreWindowsAt}

-- if the first two results are those at some places and at others, the third is that at all of them
abbrev pub AreTogether : WindowsAnswer → WindowsAnswer → WindowsAnswer → Type 0
AreTogether low high both = (history : Contents) (xs ys : List ℕ) → AreWindowsAt (course_of history) xs low
    → AreWindowsAt (course_of history) ys high
    → AreWindowsAt (course_of history) (xs ++ ys) both
