use Rattle.commands.proofs.Common.{ap, inl, inr, left_open}
use Rattle.commands.proofs.OneAnswer.{few_events, from_nothing, merges_to_complete, played_found}
use Rattle.commands.proofs.sim.play.Goals as goal

pub returns-in-Open-clause-found : goal.returns-in-Open-clause-found
returns-in-Open-clause-found c =
    let ended = rw (c.as_slice.ensures, c.in-Open.is) at c.in_ok-rejections.ensures.ending in
    inl (inr (ended, ap left_open (rw c.as_slice.ensures at c.in_ok-rejections.ensures.rejections)))

pub merged_from-requires-clause-complete : goal.merged_from-requires-clause-complete
merged_from-requires-clause-complete c = λ merged is. from_nothing merged (merges_to_complete _ _ c.requires.few_threads _
    (rw (c.as_slice.ensures, c.in-Done.is) at c.in_ok-rejections.ensures.ending) merged is)

pub merged_from-requires-clause-few : goal.merged_from-requires-clause-few
merged_from-requires-clause-few c =
    few_events _ _ c.requires.few_threads _ (rw (c.as_slice.ensures, c.in-Done.is) at c.in_ok-rejections.ensures.ending)

pub returns-clause-found : goal.returns-clause-found
returns-clause-found c =
    let rejected = rw c.as_slice.ensures at c.in_ok-rejections.ensures.rejections in
    let ended = rw (c.as_slice.ensures, c.in-Done.is) at c.in_ok-rejections.ensures.ending in
    inl (played_found _ _ _ rejected c.in-Done.lists c.in_ok-history.history c.in_ok-verdict.verdict ended c.in_ok-history.ensures.merged
    c.in_ok-history.ensures.complete c.in_ok-history.ensures.initial c.in_ok-verdict.ensures)
