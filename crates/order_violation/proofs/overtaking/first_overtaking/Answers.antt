use Rattle.order_violation.proofs.Common.{arith, EntersBefore, FindsFirst, FindsLongest, subst, sym, ◌∙◌}
use Rattle.order_violation.proofs.Chosen.{first_changes, first_stays, overtaken_none, overtaken_one}
use Rattle.order_violation.proofs.overtaking.first_overtaking.Goals.{else-is_some, then-is_some}
use Rattle.order_violation.proofs.overtaking.first_overtaking.Goals as goal

pub loop-place-preserved : goal.loop-place-preserved
loop-place-preserved c =
    let values = c.args.table.now in
    let candidates = c.args.candidates.now in
    let b = c.get-b.result in
    let first = c.loop-place.first in
    let longest = c.if_overtaken.result in
    let entered = subst (λ limit. FindsLongest (EntersBefore limit) values c.longest_before-longest.result) c.enqueue_call.ensures
    c.longest_before-longest.ensures in
    let finds = c.if_overtaken.ensures values entered in
    elim c.if-is_some.branch [
      | then-is_some w ↦
          let one = overtaken_one values b.life longest finds (sym c.is_some.ensures ∙ w.if-is_some.true) in
          subst (FindsFirst values _) (sym w.first-is) (first_changes values candidates _ b one.0 first _
          (omega (arith, c.loop-place-test.true, c.len-place-end.ensures)) c.get-b.ensures c.loop-place.invariant one.1 one.2 w.first_of-first.ensures)
      | else-is_some w ↦
          let none = overtaken_none values b.life longest finds (sym c.is_some.ensures ∙ w.if-is_some.false) in
          subst (FindsFirst values _) (sym w.first-is) (first_stays values candidates _ b first
          (omega (arith, c.loop-place-test.true, c.len-place-end.ensures)) c.get-b.ensures c.loop-place.invariant none)
    ]
