use Rattle.std.proofs.Common.{◌∙◌, List, refl, subst, ℕ}
use Rattle.event_records.specs.declared.event.Event.{Event}
use Rattle.history_merge.specs.Gathering.{HasGathered}
use Rattle.commands.proofs.input.gathered_from.Goals as goal

pub returns : goal.returns
returns c = record {
  same_version = refl;
  gathered = subst (λ (es : List Event). HasGathered c.args.text.now.initial es c.gathered.result) c.as_slice-2.ensures
      (subst (λ (vs : List ℕ). HasGathered vs c.as_slice-2.result.now c.gathered.result) (c.in_ok-initial.ensures.items ∙ c.as_slice.ensures) c.gathered.ensures);
}
