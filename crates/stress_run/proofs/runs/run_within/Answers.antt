use Rattle.std.proofs.Common.{arith, ◌*◌, ℕ, ap, sym, ◌∙◌}
use Rattle.stress_run.proofs.Noting.{new_pass}
use Rattle.recorder_core.proofs.Fitting.{merged_is_complete_from, recorded_is_fit}
use Rattle.recorder_core.proofs.Replayed.{lists_replay}
use Rattle.stress_run.proofs.runs.run_within.Goals as goal

pub run_on-requires-clause-pass : goal.run_on-requires-clause-pass
run_on-requires-clause-pass g c κs within =
    let e = c.in_ok-tickets.ensures in
    new_pass _ _ _ e.key (e.left ∙ ap (λ (n : ℕ). 2 * n) c.operations.ensures.count) e.drawn e.noted

pub close-total-requires-clause-whole : goal.close-total-requires-clause-whole
close-total-requires-clause-whole g c = c.in_ok-lists.ensures.whole ∙ sym (c.in_ok-tickets.ensures.budget ∙ ap (λ (n : ℕ). 2 * n) c.operations.ensures.count)

pub returns-clause-recorded : goal.returns-clause-recorded
returns-clause-recorded g c = c.in_ok-lists.ensures.recorded c.close-total.result c.close-total.ensures

pub returns-clause-lists : goal.returns-clause-lists
returns-clause-lists g c = c.in_ok-lists.ensures.lists c.close-total.result c.close-total.ensures

pub invariant_of-result : goal.invariant_of-result
invariant_of-result g c = (returns-clause-lists g c, c.requires.names)

pub returns-clause-replays : goal.returns-clause-replays
returns-clause-replays g c =
    let within = c.requires.sizes in
    lists_replay _ (recorded_is_fit _ (returns-clause-lists g c)) _ _ (omega (arith, within.0))

pub returns-clause-fits : goal.returns-clause-fits
returns-clause-fits g c = λ merged is. merged_is_complete_from _ merged (recorded_is_fit _ (returns-clause-lists g c)) is _ c.requires.names
