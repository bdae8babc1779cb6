use Rattle.empty_witness.proofs.Common.{arith, dequeue_call, EntersBefore, FindsLongest, IsLongestOf}
use Rattle.empty_witness.proofs.Common.{NamesChosenCover, subst, sym, ◌<◌, ◌∙◌}
use Rattle.empty_witness.proofs.Covers.{cover_is_whole, found_longest, frontier_rises, longest_of_all, next_is_found}
use Rattle.empty_witness.proofs.Covers.{no_steps_yet, one_more_step}
use Rattle.empty_witness.proofs.cover.cover_of.Goals.{After-longest_before, After-unwrap-value}
use Rattle.empty_witness.proofs.cover.cover_of.Goals as goal

pub loop-frontier-init : goal.loop-frontier-init
loop-frontier-init c =
    rw c.new-steps.ensures.items
    (no_steps_yet c.args.matching.now.initial c.args.matching.now.operations c.values-values.result c.args.answer.now
    c.values-values.ensures.clear c.values-values.ensures.values c.requires.is_empty c.requires.covered)

-- the table finds the longest of all values
finds : (c : After-longest_before)
    → FindsLongest (EntersBefore c.loop-frontier.frontier) c.values-values.result c.longest_before.result
finds c =
    let others = subst (λ values. FindsLongest (EntersBefore c.loop-frontier.frontier) values c.longest_before.result)
    (c.in_ok-table.ensures ∙ c.split_at-gone.ensures.others) c.longest_before.ensures in
    longest_of_all c.args.matching.now.initial c.args.matching.now.operations c.values-values.result c.args.answer.now
    c.values-values.ensures.clear c.values-values.ensures.values c.requires.is_empty c.requires.covered c.count_gone.result
    c.loop-frontier.steps.items c.loop-frontier.frontier c.longest_before.result c.count_gone.ensures.gone c.loop-frontier.invariant
    c.loop-frontier-test.true others

pub unwrap-value-requires : goal.unwrap-value-requires
unwrap-value-requires c =
    next_is_found c.args.matching.now.initial c.args.matching.now.operations c.values-values.result c.args.answer.now
    c.values-values.ensures.clear c.values-values.ensures.values c.requires.is_empty c.requires.covered
    c.loop-frontier.steps.items c.loop-frontier.frontier c.longest_before.result c.loop-frontier.invariant c.loop-frontier-test.true
    (finds (goal.at.unwrap-value-requires c).After-longest_before)

-- the value of this turn
longest : (c : After-unwrap-value)
    → IsLongestOf (EntersBefore c.loop-frontier.frontier) c.values-values.result c.unwrap-value.result
longest c =
    found_longest c.values-values.result c.loop-frontier.frontier c.longest_before.result c.unwrap-value.result
    (finds (goal.at.After-unwrap-value c).After-longest_before) c.unwrap-value.ensures

pub loop-frontier-smaller : goal.loop-frontier-smaller
loop-frontier-smaller c =
    let value = c.unwrap-value.result in
    let rises : c.loop-frontier.frontier < dequeue_call value.life =
    frontier_rises c.args.matching.now.initial c.args.matching.now.operations c.values-values.result c.args.answer.now
    c.values-values.ensures.clear c.values-values.ensures.values c.requires.is_empty c.requires.covered
    c.loop-frontier.steps.items c.loop-frontier.frontier value c.loop-frontier.invariant c.loop-frontier-test.true
    (longest (goal.at.loop-frontier-smaller c).After-unwrap-value) in
    omega (arith, c.dequeue_call-frontier.ensures)

pub loop-frontier-preserved : goal.loop-frontier-preserved
loop-frontier-preserved c =
    rw (c.in_ok-push.ensures.items, c.dequeue_call-frontier.ensures)
    (one_more_step c.args.matching.now.initial c.args.matching.now.operations c.values-values.result c.args.answer.now c.values-values.ensures.clear
    c.values-values.ensures.values c.requires.is_empty c.requires.covered c.loop-frontier.steps.items
    c.loop-frontier.frontier c.unwrap-value.result c.loop-frontier.invariant c.loop-frontier-test.true
    (longest (goal.at.loop-frontier-preserved c).After-unwrap-value))

pub returns : goal.returns
returns c =
    subst (NamesChosenCover c.args.matching.now.initial c.args.matching.now.operations c.args.answer.now) (sym c.from_vec.ensures)
    (cover_is_whole c.args.matching.now.initial c.args.matching.now.operations c.values-values.result c.args.answer.now
    c.values-values.ensures.clear c.values-values.ensures.values c.requires.is_empty c.requires.covered
    c.loop-frontier.steps.items c.loop-frontier.frontier c.loop-frontier.invariant c.loop-frontier-test.false)
