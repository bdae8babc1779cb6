use Rattle.parallel_finders.proofs.Common.{All, AreWindowsAt, course_of, rules, subst, sym}
use Rattle.std.proofs.lemmas.List.Elements.{All-drop, All-take}
use Rattle.empty_witness.specs.Answers.{IsEmptyAnswerAt}
use Rattle.std.proofs.lemmas.Result.{IfOk-weaker}
use Rattle.std.specs.Result.{IfOk}
use Rattle.parallel_finders.proofs.Halves.{whole}
use Rattle.parallel_finders.proofs.windows.+halves.Goals as goal

pub join-first-requires-after_bounds : goal.join-first-requires-after_bounds
join-first-requires-after_bounds g t c κs within =
    let operations = c.args.matching.now.operations in
    let low = subst (All (IsEmptyAnswerAt operations)) (sym c.split_at-low.ensures.before)
    (All-take (IsEmptyAnswerAt operations) _ c.args.empties.now c.requires.empties) in
    let high = subst (All (IsEmptyAnswerAt operations)) (sym c.split_at-low.ensures.others)
    (All-drop (IsEmptyAnswerAt operations) _ c.args.empties.now c.requires.empties) in (
      (search rules, ((λ a m. m), ((search rules, low, c.requires.spans), search rules))),
      (search rules, ((λ a m. m), ((search rules, high, c.requires.spans), search rules))),
    )

pub returns : goal.returns
returns g t c =
    let history = c.args.matching.now in
    let low = c.split_at-low.result.0 in
    let high = c.split_at-low.result.1 in
    let first = subst (λ found. IfOk found (AreWindowsAt (course_of history) low)) c.in_ok-first.was c.join-first.ensures.first in
    let second = subst (λ found. IfOk found (AreWindowsAt (course_of history) high)) c.in_ok-second.was c.join-first.ensures.second in
    subst (λ places. IfOk c.windows_of_both.result (AreWindowsAt (course_of history) places))
    (whole c.args.empties.now low high _ c.split_at-low.ensures.before c.split_at-low.ensures.others)
    (IfOk-weaker c.windows_of_both.result _ _ (λ windows together. together history low high first second) c.windows_of_both.ensures)
