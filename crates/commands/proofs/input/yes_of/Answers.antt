use Rattle.commands.proofs.Common.{IsDrawableOf, refl, verdict_text}
use Rattle.commands.proofs.Inputs.{no_begins_otherwise, over_left}
use Rattle.commands.specs.Inputs.{of_yes}
use Rattle.claims.specs.declared.claimed.Claimed.TheVariants.{Yes}
use Rattle.commands.proofs.input.yes_of.Goals as goal

pub returns-in-Yes-clause-yes : goal.returns-in-Yes-clause-yes
returns-in-Yes-clause-yes g c =
    let is = rw c.in-Yes.is at c.in_ok-claimed.ensures.claim in
    over_left _ _ (verdict_text (Yes c.in-Yes.lines)) (λ input. IsDrawableOf input (of_yes c.in-Yes.lines)) is.1 is.2
    (is.0, record { bytes = refl; ending = refl })

pub unreachable-requires : goal.unreachable-requires
unreachable-requires g c =
    let is = rw c.in-No.is at c.in_ok-claimed.ensures.claim in no_begins_otherwise _ _ _ _ c.requires.begins is.1
