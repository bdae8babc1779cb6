use Rattle.parallel_finders.proofs.Common.{AreWindowsAt, course_of, subst}
use Rattle.empty_witness.proofs.Answers.{low_is_first, sooner_is_first}
use Rattle.parallel_finders.proofs.windows.sooner_covered.Goals as goal

pub returns-in-Free : goal.returns-in-Free
returns-in-Free c history xs ys a b = low_is_first (course_of history) xs ys c.in-Free.field-0.items c.args.first a
    (subst (AreWindowsAt (course_of history) ys) c.in-Free.is b)

pub returns-in-Covered : goal.returns-in-Covered
returns-in-Covered c history xs ys a b = sooner_is_first (course_of history) xs ys c.args.first c.in-Covered.second c.sooner_of.result a
    (subst (AreWindowsAt (course_of history) ys) c.in-Covered.is b) c.sooner_of.ensures
