use Rattle.empty_witness.proofs.Common.{AreAllWindows, course_of, subst}
use Rattle.empty_witness.proofs.Answers.{first_is_chosen, gaps_are_all}
use Rattle.empty_witness.proofs.search.witness_of.Goals as goal

pub cover_of-requires-clause-is_empty : goal.cover_of-requires-clause-is_empty
cover_of-requires-clause-is_empty c =
    let all = subst (AreAllWindows (course_of c.args.matching.now)) c.in-Covered.is c.requires in
    all.2.is_empty

pub cover_of-requires-clause-covered : goal.cover_of-requires-clause-covered
cover_of-requires-clause-covered c =
    let all = subst (AreAllWindows (course_of c.args.matching.now)) c.in-Covered.is c.requires in
    all.2.is_covered

pub returns-in-Free : goal.returns-in-Free
returns-in-Free c =
    let history = course_of c.args.matching.now in
    let all = subst (AreAllWindows history) c.in-Free.is c.requires in
    rw c.from_vec.ensures (gaps_are_all history all.0 c.in-Free.gaps.items all.1 all.2)

pub returns-in_ok-cover_of-in-Covered : goal.returns-in_ok-cover_of-in-Covered
returns-in_ok-cover_of-in-Covered c =
    let history = course_of c.args.matching.now in
    let first = c.in-Covered.first in
    let all = subst (AreAllWindows history) c.in-Covered.is c.requires in
    let cover = c.in_ok-cover_of-in-Covered.ensures in
    (first.operation, cover.0, all.2.at, cover.1, first_is_chosen history all.0 first cover.0 all.1 all.2 cover.2, cover.3)
