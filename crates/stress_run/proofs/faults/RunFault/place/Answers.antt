use Rattle.std.proofs.Common.{Some, ap, sym, ◌∙◌, inl, inr}
use Rattle.stress_run.specs.Faults.{place_in}
use Rattle.stress_run.proofs.faults.RunFault.place.Goals as goal

pub returns-in-Limit : goal.returns-in-Limit
returns-in-Limit c = elim c.in-Limit.is [ inl is ↦ sym (ap place_in is) | inr (inl is) ↦ sym (ap place_in is) | inr (inr is) ↦ sym (ap place_in is) ]

pub returns-in-Stalled : goal.returns-in-Stalled
returns-in-Stalled c =
    let thread = ap Some c.from.ensures in
    elim c.in-Stalled.is [
      | inl is ↦ thread ∙ sym (ap place_in is)
      | inr (inl is) ↦ thread ∙ sym (ap place_in is)
      | inr (inr is) ↦ thread ∙ sym (ap place_in is)
    ]
