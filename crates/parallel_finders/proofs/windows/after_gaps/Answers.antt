use Rattle.parallel_finders.proofs.Common.{ap, AreWindowsAt, course_of, subst, sym, ◌++◌, ◌∙◌}
use Rattle.empty_witness.specs.Answers.{AreGapsAt}
use Rattle.empty_witness.proofs.Answers.{gaps_together, high_is_first}
use Rattle.parallel_finders.proofs.windows.after_gaps.Goals as goal

pub returns-in_ok-gaps_of_both-in-Free : goal.returns-in_ok-gaps_of_both-in-Free
returns-in_ok-gaps_of_both-in-Free c history xs ys a b =
    let gaps = c.args.gaps.items in
    let both = c.in_ok-gaps_of_both-in-Free.ensures ∙ ap (λ more. gaps ++ more) c.as_slice.ensures.value in
    subst (AreGapsAt (course_of history) (xs ++ ys)) (sym both) (gaps_together (course_of history) xs ys gaps c.in-Free.more.items a
    (subst (AreWindowsAt (course_of history) ys) c.in-Free.is b))

pub returns-in-Covered : goal.returns-in-Covered
returns-in-Covered c history xs ys a b = high_is_first (course_of history) xs ys c.args.gaps.items c.in-Covered.first a
    (subst (AreWindowsAt (course_of history) ys) c.in-Covered.is b)
