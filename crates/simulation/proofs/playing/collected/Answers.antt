use Rattle.std.proofs.Common.{◌≡◌, ◌++◌, ◌∷◌, [], rules, ◌∙◌}
use Rattle.recorder_core.specs.Laws.{collected_in}
use Rattle.simulation.proofs.Listing.{one_more}
use Rattle.simulation.proofs.playing.collected.Goals as goal

pub loop-thread-preserved : goal.loop-thread-preserved
loop-thread-preserved c = λ setting schedule after.
    let pushed : c.push.new.self.items ≡ c.loop-thread.lists.items ++ c.in_ok-copied.field-0 ∷ [] = search rules in
    let same : c.in_ok-copied.field-0.items ≡ collected_in setting schedule c.loop-thread.thread =
    c.in_ok-copied.ensures ∙ c.collected.ensures setting schedule after in
    one_more (λ list. list.items) (collected_in setting schedule) c.loop-thread.lists.items c.push.new.self.items c.in_ok-copied.field-0
    c.loop-thread.thread pushed same
    (c.loop-thread.invariant setting schedule after)
