use Rattle.std.proofs.Common.{ℕ, ap, ◌∙◌, sym, map}
use Rattle.std.specs.List.{range_with_len}
use Rattle.recorder_core.specs.Laws.{collected_in}
use Rattle.simulation.proofs.playing.ending_of.Goals as goal

pub returns-in_ok-collected : goal.returns-in_ok-collected
returns-in_ok-collected c = λ setting schedule after. (
  (c.done.ensures setting schedule after).0 c.if-done.true,
  c.in_ok-collected.ensures setting schedule after ∙ ap (λ (n : ℕ). map (collected_in setting schedule) (range_with_len 0 n))
      (sym c.requires.threads ∙ after.threads),
)
