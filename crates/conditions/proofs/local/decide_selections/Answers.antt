use Rattle.std.proofs.Common.{◌+◌, arith, sym, subst}
use Rattle.verdicts.specs.Selection.{contents_of}
use Rattle.conditions.specs.Conditions.{selection_of}
use Rattle.conditions.specs.Decided.{AreLocalOrders, IsDecidedOf}
use Rattle.conditions.specs.Inner.Judging.{AreJudged}
use Rattle.conditions.proofs.Judged.{all_judged, first_refuted, judged_more, judged_same, places_of_rank}
use Rattle.conditions.proofs.local.decide_selections.Goals.{then-selections-rank+in_ok-order+in-Yes+in_ok-push-in-Yes}
use Rattle.conditions.proofs.local.decide_selections.Goals.{else-selections-rank}
use Rattle.conditions.proofs.local.decide_selections.Goals as goal

pub returns-in-No : goal.returns-in-No
returns-in-No g c = λ emptiness shared.
    let history = c.args.history.now in
    let whole = contents_of history in
    let rank = c.loop-rank.rank in
    let at = places_of_rank emptiness whole c.args.selections.now.used c.args.selections.now.buckets.items rank
    c.ranked-producer.result c.index.result.now c.as_slice-places.result.now shared
    c.loop-rank-test.true c.if-selections-rank.true c.ranked-producer.ensures c.index.ensures c.as_slice-places.ensures in
    first_refuted history c.requires.complete c.requires.few emptiness rank c.ranked-producer.result c.in-No.violation c.loop-rank.orders.items c.ranked-producer.ensures
    (subst (IsDecidedOf whole (selection_of emptiness c.ranked-producer.result whole)) c.in-No.is (c.in_ok-order.ensures emptiness at))
    (c.loop-rank.invariant emptiness shared)

pub loop-rank-preserved : goal.loop-rank-preserved
loop-rank-preserved g c = λ emptiness shared.
    let history = c.args.history.now in
    let whole = contents_of history in
    let rank = c.loop-rank.rank in
    let used = c.args.selections.now.used in
    elim c.if-selections-rank.branch [
      | then-selections-rank+in_ok-order+in-Yes+in_ok-push-in-Yes w ↦
          let at = places_of_rank emptiness whole used c.args.selections.now.buckets.items rank w.ranked-producer.result w.index.result.now w.as_slice-places.result.now shared
          c.loop-rank-test.true w.if-selections-rank.true w.ranked-producer.ensures w.index.ensures w.as_slice-places.ensures in
          subst (λ v. AreJudged emptiness whole (rank + 1) v.items) (sym w.orders-is)
          (judged_more history c.requires.complete c.requires.few emptiness used rank w.ranked-producer.result w.in-Yes.order c.loop-rank.orders.items _ shared.marked
          c.loop-rank-test.true w.if-selections-rank.true w.ranked-producer.ensures
          (subst (IsDecidedOf whole (selection_of emptiness w.ranked-producer.result whole)) w.in-Yes.is (w.in_ok-order.ensures emptiness at))
          w.in_ok-push-in-Yes.ensures.items (c.loop-rank.invariant emptiness shared))
      | else-selections-rank w ↦
          subst (λ v. AreJudged emptiness whole (rank + 1) v.items) (sym w.orders-is)
          (judged_same history c.requires.complete c.requires.few emptiness used rank c.loop-rank.orders.items c.loop-rank.orders.items shared.marked c.loop-rank-test.true
          w.if-selections-rank.false (λ i. c.loop-rank.orders.items) (c.loop-rank.invariant emptiness shared))
    ]

pub returns : goal.returns
returns g c = λ emptiness shared.
    let history = c.args.history.now in
    subst (AreLocalOrders emptiness (contents_of history)) (sym c.from_vec.ensures)
    (all_judged history c.requires.complete c.requires.few emptiness c.loop-rank.rank c.loop-rank.orders.items (omega (arith, c.loop-rank-test.false))
    (c.loop-rank.invariant emptiness shared))
