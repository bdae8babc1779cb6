use Rattle.std.proofs.Common.{ap, arith, count_by, not}
use Rattle.std.proofs.lemmas.List.{take_all}
use Rattle.history_stats.specs.Inner.AtOnce.{count_before, is_kept_before}
use Rattle.history_stats.proofs.AtOnce.{value_more}
use Rattle.history_stats.proofs.queued.add_initial.Goals as goal

pub loop-value-preserved : goal.loop-value-preserved
loop-value-preserved c = λ gap.
    let gone = c.in_ok-add_go.ensures gap in
    let kept = c.ticket_for.ensures gap in
    value_more (is_kept_before gap c.args.takes.now) c.args.values.now c.loop-value.value-index (count_before gap c.loop-value.departures.items) _
    (count_before gap c.args.departures.now.items) 0 c.loop-value-test.true (c.loop-value.invariant gap) (rw (← kept) gone)

pub returns : goal.returns
returns c = λ gap.
    let all = take_all c.loop-value.value-index c.args.values.now c.loop-value-test.false in
    let same = ap (count_by (λ v. not (is_kept_before gap c.args.takes.now v))) all in
    let is = c.loop-value.invariant gap in
    let end = c.loop-value.auto.value-index-end in
    omega (arith, same, is, end)
