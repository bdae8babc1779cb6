use Rattle.std.proofs.Common.{◌||◌, ◌∙◌, sym}
use Rattle.std.proofs.lemmas.List.Folds.{list_any_at, list_any_more}
use Rattle.history_stats.specs.Inner.FailedEnqueues.{stays_within}
use Rattle.history_stats.specs.declared.failed_enqueues.Window.{Window}
use Rattle.history_stats.proofs.failed_enqueues.one_stays_within.Goals as goal

pub returns-then-stays_within-clause-some : goal.returns-then-stays_within-clause-some
returns-then-stays_within-clause-some c =
    let heights = c.args.heights.now in
    let none : Window = record { start = 0; from = 0; to = 0 } in
    let ends = c.requires.ends c.loop-window.window-index none c.loop-window-test.true in
    sym (list_any_at (stays_within heights c.args.most) c.args.windows.now c.loop-window.window-index none c.loop-window-test.true
    (sym (c.stays_within.ensures heights ends.0 ends.1 c.count_above.ensures.counts) ∙ c.if-stays_within.true))

pub loop-window-preserved : goal.loop-window-preserved
loop-window-preserved c =
    let heights = c.args.heights.now in
    let none : Window = record { start = 0; from = 0; to = 0 } in
    let ends = c.requires.ends c.loop-window.window-index none c.loop-window-test.true in
    list_any_more (stays_within heights c.args.most) c.args.windows.now c.loop-window.window-index none c.loop-window-test.true
    ∙ (λ i. c.loop-window.invariant i || (sym (c.stays_within.ensures heights ends.0 ends.1 c.count_above.ensures.counts) ∙ c.if-stays_within.false) i)
