use Rattle.parallel_finders.proofs.Common.{AreWindowsAt, course_of, subst}
use Rattle.parallel_finders.proofs.windows.windows_of_both.Goals as goal

pub returns-in-Covered : goal.returns-in-Covered
returns-in-Covered c history xs ys a b = c.sooner_covered.ensures history xs ys (subst (AreWindowsAt (course_of history) xs) c.in-Covered.is a) b
